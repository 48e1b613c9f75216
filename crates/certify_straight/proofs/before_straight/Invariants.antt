-- `certify_straight::before_straight` meets its contract: step by step back, the last first.
-- Assumes nothing.
use Rattle.std.proofs.Common.{◌≡◌, ◌≤◌, length}
use Rattle.certify_runs.specs.Below.{Code, Thread}
use Rattle.certify_straight.specs.Straight.{Walked}
use Rattle.certify_straight.proofs.Walking.{Back}
use Rattle.certify_straight.proofs.before_straight.Given as goal

abbrev pub invariant-loop-j : goal.invariant-loop-j
invariant-loop-j l = (length l.of ≡ 8) × ((l.j ≤ 16) × ((c : Code) (s z : Thread) → Walked c s l.w.steps l.initial.j z → Back c s z l.w.steps l.j l.initial.of l.of))
