-- `certify_trail::passed` meets its contract: the loop puts one step after the other before those that are written.
-- Assumes nothing.
use mathlib.Core.List.{List}
use Prim.Native.Nat.{◌+◌, ◌-◌, ◌≤◌}
use lib.ListN.{length}
use Rattle.certify_runs.specs.declared.RunStep.{RunStep}
use Rattle.certify_trail.specs.Trail.{Trail}
use Rattle.certify_trail.proofs.Written.{Passed}
use Rattle.certify_trail.proofs.passed.Given as goal

abbrev pub invariant-loop : goal.invariant-loop
invariant-loop l = (run : List RunStep) → Trail l.initial.r.of run → length run + l.count ≤ 16 → Passed l.r.of l.count (l.count - l.counter) run
