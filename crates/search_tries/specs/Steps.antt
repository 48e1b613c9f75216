-- The steps of one thread by their number, and the threads that have a next step.
-- Assumes nothing.
use Rattle.std.specs.Prelude.{◌≡◌, Bool, cond, ℕ, ◌-◌, ◌≤◌, ◌<◌, ltb}
use Rattle.std.proofs.Math.Option.{none}
use Rattle.program.specs.declared.Code.{Code}
use Rattle.program.specs.declared.Program.{Program}
use Rattle.program.specs.Program.{code_of}
use Rattle.machine.specs.declared.Memory.{Memory}
use Rattle.machine.specs.declared.Thread.{Thread}
use Rattle.machine.specs.declared.Machine.{Machine}
use Rattle.machine.specs.State.{thread_of}
use Rattle.step.specs.Step.{Step, step, taken}
use Rattle.step.specs.Order.{execution}
use Rattle.step.specs.Inner.{Here}
use Rattle.search_sequences.specs.Numbers.{key_promise}

-- 0 to 16 execute at that time, from 17 on promise
unfoldable pub step_numbered : ℕ → ℕ → Step
step_numbered i k = cond (ltb k 17) (execution i k) (key_promise i (k - 17))

-- of kind 0 with b = 0, or of kind 1, as every step with a number is
abbrev pub Numbered : Step → Type 0
Numbered k = (k.kind ≡ 0 → k.b ≡ 0) × (k.kind ≤ 1)

-- r is the next number from `from` on that is worth a try, or the top: in every machine with such a thread the steps passed over are refused
pub record NextStep (number : ℕ → ℕ → Step) (top : ℕ) (c : Code) (m : Memory) (s : Thread) (from r : ℕ) : Type 0 where
  pub within : r ≤ top
  pub after : from ≤ top → from ≤ r
  pub refused : (p : Program) (x : Machine) (i : ℕ) → Here c m s p x i → (k : ℕ) → from ≤ k → k < r → taken (step p x (number i k)) ≡ none

-- ---- threads
-- the first of four that holds, or 4
abbrev pub first_of_four : Bool → Bool → Bool → Bool → ℕ
first_of_four a b c d = cond a 0 (cond b 1 (cond c 2 (cond d 3 4)))

-- r is the next thread from i on that is not at its end, or 4
pub record NextOpen (p : Program) (x : Machine) (i r : ℕ) : Type 0 where
  pub within : r ≤ 4
  pub after : i ≤ r
  pub has_next : r < 4 → (thread_of x r).position < (code_of p r).count
  pub ended : (k : ℕ) → i ≤ k → k < r → (code_of p k).count ≤ (thread_of x k).position
