-- What the parts of the question's test answer.
-- Assumes nothing.
use Rattle.std.specs.Prelude.{◌≡◌, Bool, List, ℕ, ◌≤◌, ◌<◌, get_or}
use Rattle.program.specs.Tests.{below}
use Rattle.program.specs.Program.{no_condition}
use Rattle.program.specs.declared.Condition.{Condition}
use Rattle.machine.specs.State.{thread_of}
use Rattle.machine.specs.declared.Memory.{Memory}
use Rattle.machine.specs.declared.Thread.{Thread}
use Rattle.machine.specs.declared.Machine.{Machine}
use Rattle.step.specs.Outcome.{holds}

-- r is whether the condition holds, in every machine with that memory and the thread that it names
abbrev pub HoldsWith : Memory → Thread → Condition → Bool → Type 0
HoldsWith m s q r = (x : Machine) → x.memory ≡ m → thread_of x q.thread ≡ s → r ≡ holds x q

-- the first n conditions hold
abbrev pub all_hold : List Condition → Machine → ℕ → Bool
all_hold question x n = below (λ k. holds x (get_or question k no_condition)) n

-- what is asked before that: as many conditions as fit, of threads that are there
pub record Askable (n : ℕ) (question : List Condition) (x : Machine) : Type 0 where
  pub few : n ≤ 8
  pub room : x.memory.count ≤ 16
  pub thread_there : (k : ℕ) → k < n → (get_or question k no_condition).thread < 4
