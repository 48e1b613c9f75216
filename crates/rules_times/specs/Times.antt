-- The times at which an instruction can execute: time 0, and sets that leave out no later one.
-- Assumes nothing.
use Rattle.std.specs.Prelude.{◌≡◌, Bool, false, ℕ, ◌≤◌, ◌<◌, T}
use Rattle.program.specs.declared.Instr.{Instr}
use Rattle.machine.specs.declared.Memory.{Memory}
use Rattle.machine.specs.declared.Thread.{Thread}
use Rattle.machine.specs.State.{has}
use Rattle.machine.specs.Rules.{next, execute}

-- every time after 0 at which the instruction can execute is in the set
abbrev pub Later : Instr → Memory → Thread → ℕ → Type 0
Later x m s r = (t : ℕ) (s' : Thread) → 0 < t → execute x m t s ≡ next s' → T (has r t)

-- false only if the instruction cannot execute at time 0
abbrev pub AtZero : Instr → Bool → Type 0
AtZero x r = r ≡ false → (m : Memory) (s s' : Thread) → execute x m 0 s ≡ next s' → ⊥

-- r is after t, and no time between them is in the set; 17 if there is none
pub record After (p t r : ℕ) : Type 0 where
  pub later : t < r
  pub within : r ≤ 17
  pub between : (u : ℕ) → t < u → u < r → has p u ≡ false
