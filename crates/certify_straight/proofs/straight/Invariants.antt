-- `certify_straight::straight` meets its contract: one case for each kind of instruction.
-- Assumes nothing.
use Rattle.std.proofs.Common.{◌-◌}
use Rattle.certify_straight.proofs.Walking.{On}
use Rattle.certify_straight.proofs.straight.Given as goal

abbrev pub invariant-loop-n : goal.invariant-loop-n
invariant-loop-n l = On l.c l.s l.registers l.n l.views l.steps l.count

abbrev pub decreases-loop-n : goal.decreases-loop-n
decreases-loop-n l = 17 - l.n
