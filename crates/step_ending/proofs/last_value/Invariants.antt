-- `step_ending::last_value` meets its contract: no message after time t is at l.
-- Assumes nothing.
use Rattle.step_ending.proofs.Asking.{Older}
use Rattle.step_ending.proofs.last_value.Given as goal

abbrev pub invariant-loop-t : goal.invariant-loop-t
invariant-loop-t l = Older l.m l.l l.t

abbrev pub decreases-loop-t : goal.decreases-loop-t
decreases-loop-t l = l.t
