-- What is worth a try of one thread, in any machine that has it: times, and promises.
-- Assumes nothing.
use Rattle.std.specs.Prelude.{◌≡◌, Bool, false, List, ℕ, zero, suc, ◌+◌, ◌-◌, ◌*◌, ◌≤◌, ◌<◌, T}
use Rattle.std.proofs.Math.Option.{none}
use Rattle.program.specs.declared.Code.{Code}
use Rattle.program.specs.declared.Program.{Program}
use Rattle.program.specs.declared.Operand.{Operand}
use Rattle.program.specs.declared.LoadMode.{LoadMode}
use Rattle.program.specs.declared.Instr.{Instr}
use Rattle.program.specs.declared.Instr.TheVariants.{Load}
use Rattle.machine.specs.declared.Memory.{Memory}
use Rattle.machine.specs.declared.Thread.{Thread}
use Rattle.machine.specs.declared.Machine.{Machine}
use Rattle.machine.specs.State.{has}
use Rattle.machine.specs.Rules.{value_of, address}
use Rattle.certify_cares.specs.Cares.{care_of}
use Rattle.certify_vain.specs.Tries.{NoBetter}
use Rattle.step.specs.Step.{Step, step, taken}
use Rattle.step.specs.Order.{execution}
use Rattle.step.specs.Inner.{Here}
use Rattle.search_sequences.specs.Numbers.{key_promise}
use Rattle.search_promises.specs.Explored.{Fillable}
use Rattle.search_tries.specs.Steps.{step_numbered, NextStep}
pub use Rattle.search_tries.specs.declared.Ahead.{Ahead}
pub use Rattle.search_tries.specs.declared.Attempts.{Attempts}
pub use Rattle.search_tries.specs.declared.Attempted.{Attempted}

-- time k is worth a try
abbrev pub timely : Attempts → ℕ → Bool
timely t zero = t.zero
timely t (suc k) = has t.later (suc k)

-- in every machine with such a thread, other times are refused, and promises are if none is worth a try
pub record Worth (c : Code) (m : Memory) (s : Thread) (t : Attempts) : Type 0 where
  pub times : (p : Program) (x : Machine) (i : ℕ) → Here c m s p x i → (k : ℕ) → timely t k ≡ false → taken (step p x (execution i k)) ≡ none
  pub promises : t.promises ≡ false → (p : Program) (x : Machine) (i : ℕ) → Here c m s p x i → (n : ℕ) → taken (step p x (key_promise i n)) ≡ none

-- the instruction is a load, and time u is no better for it than time t, as far as the cares ask of its register
pub record Beaten (x : Instr) (m : Memory) (s : Thread) (t : ℕ) (cares : List ℕ) (u : ℕ) : Type 0 where
  pub mode : LoadMode
  pub register : ℕ
  pub a : Operand
  pub b : Operand
  pub is_load : x ≡ Load mode register a b
  pub no_better : NoBetter m s (address (value_of s a + value_of s b)) t (care_of cares register) u

-- what is left of t after the try at a time: only times that are no better are worth no try any more
pub record Narrowed (t : Attempts) (x : Instr) (m : Memory) (s : Thread) (time : ℕ) (cares : List ℕ) (r : Attempts) : Type 0 where
  pub same_zero : r.zero ≡ t.zero
  pub beaten : (u : ℕ) → T (has t.later u) → has r.later u ≡ false → Beaten x m s time cares u
  pub same_promises : r.promises ≡ t.promises

-- the first time from k on that is worth a try, or 17
pub record NextTime (t : Attempts) (k r : ℕ) : Type 0 where
  pub within : r ≤ 17
  pub after : k ≤ 17 → k ≤ r
  pub others : (u : ℕ) → k ≤ u → u < r → timely t u ≡ false

-- a promise of that number has room, and a run of the thread alone could keep it
abbrev pub Promising : Code → Memory → Thread → ℕ → Type 0
Promising c m s k = 17 ≤ k → k < 4113 → (m.count < 16) × Fillable c m s (k - 17)

-- what is known of the numbers ahead: which promises they are, and that the second, where it is known, is the next after the first
pub record Foreseen (c : Code) (m : Memory) (s : Thread) (r : Ahead) : Type 0 where
  pub next_kept : Promising c m s r.next
  pub then_kept : Promising c m s r.then
  pub then_next : (r.then ≡ 0 → ⊥) → NextStep step_numbered 4113 c m s (r.next + 1) r.then

-- k, where it is a promise, has a location and room, and a run of the thread alone could keep it
abbrev pub Keepable : Code → Memory → Thread → Step → Type 0
Keepable c m s k = k.kind ≡ 1 → (k.a < 16) × (m.count < 16) × Fillable c m s (256 * k.a + k.b)
