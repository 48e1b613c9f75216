-- What is asked of a code, a memory and a thread before certification starts, and by its laws.
-- Assumes nothing.
use Rattle.std.specs.Prelude.{◌≡◌, Bool, false, ℕ, ◌^◌, ◌≤◌, ◌<◌, length, get_or}
use Rattle.std.proofs.Math.Option.{some}
use Rattle.std.specs.Int.Count.{ones}
use Rattle.program.specs.Program.{instr_at}
use Rattle.program.specs.Inner.{CodeOk}
use Rattle.machine.specs.State.{fresh_forward}
use Rattle.machine.specs.Rules.{Executed, refused, next}
use Rattle.certify_runs.specs.Below.{Code, Instr, Memory, Thread}

-- branches land within the code; at most 16 messages; promises are at times of the memory
pub record Ready (c : Code) (m : Memory) (s : Thread) : Type 0 where
  pub code_ok : CodeOk c
  pub room : m.count ≤ 16
  pub promises_in : s.promises < 2 ^ m.count

-- and the thread's next instruction is x
pub record Trying (c : Code) (m : Memory) (s : Thread) (x : Instr) : Type 0 where
  pub ready : Ready c m s
  pub is_next : instr_at c s.position ≡ some x

-- what the candidate law asks of a thread on a memory: 16 places and 16 locations; forward times and promises are at most the message count
pub record Sound (m : Memory) (s : Thread) : Type 0 where
  pub places : length m.messages ≡ 16
  pub locations : length s.coherence ≡ 16
  pub forwards : (k : ℕ) → (get_or s.forward k fresh_forward).time ≤ m.count
  pub promises_in : s.promises < 2 ^ m.count

-- how many promises are outstanding
abbrev pub outstanding : Thread → ℕ
outstanding s = ones s.promises

-- an instruction was executed, and what it leaves passes
abbrev pub onward : (Thread → Bool) → Executed → Bool
onward f (refused n) = false
onward f (next s) = f s
