-- `certify_ahead::steering::steers` meets its contract.
-- Assumes nothing.
use Prim.Native.Nat.{◌-◌, ◌<◌}
use Rattle.certify_ahead.proofs.steering.steers.Given as goal

abbrev pub invariant-loop-k : goal.invariant-loop-k
invariant-loop-k l = l.n < l.k

abbrev pub decreases-loop-k : goal.decreases-loop-k
decreases-loop-k l = l.c.count - l.k
