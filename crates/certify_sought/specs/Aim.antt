-- What a run of a thread alone is to come to.
-- Assumes nothing.
use Rattle.std.specs.Prelude.{◌≡◌, ◌⊎◌, ℕ, ◌+◌, ◌-◌, ◌*◌, ◌<◌, T, set}
use Rattle.std.proofs.Math.Option.{some}
use Rattle.program.specs.Program.{instr_at}
use Rattle.machine.specs.Rules.{execute}
use Rattle.certify_runs.specs.Below.{Code, Instr, Message, Memory, Thread}
use Rattle.certify_runs.specs.Certify.{message_of, certified}
use Rattle.certify_runs.specs.Inner.{onward}
use Rattle.certify_runs.specs.Runs.{Comes, Fewer}

-- the memory with w in place of the message at time h
abbrev pub fill : Memory → ℕ → Message → Memory
fill m h w = record { count = m.count; messages = set m.messages (h - 1) w }

-- the instruction is a store of location l and value v with 256 · l + v = k; with its message in the hole, which is at time h, it fulfils the promise there, and the thread is then certified
pub record Fills (c : Code) (i : ℕ) (x : Instr) (h k : ℕ) (m : Memory) (s : Thread) : Type 0 where
  pub message : Message
  pub is_own : message_of i s x ≡ some message
  pub byte : message.value < 256
  pub number : 256 * message.location + message.value ≡ k
  pub keeps : T (onward (certified c i (fill m h message)) (execute x (fill m h message) h s))

-- what is sought: without a hole, which is at time 0, an empty promise set, as number 0; with one, a store that fills it as number k
abbrev pub Aim : Code → ℕ → ℕ → ℕ → Memory → Thread → Type 0
Aim c i h k m s = ((h ≡ 0) × (k ≡ 0) × (s.promises ≡ 0)) ⊎ ((x : Instr) × (instr_at c s.position ≡ some x) × Fills c i x h k m s)

-- the thread alone comes to what is sought, by the number k
abbrev pub Meets : Code → ℕ → Memory → Thread → ℕ → ℕ → Type 0
Meets c i m s h k = Comes (Aim c i h k) Fewer c i m s
