-- `certify_vain::passed_over` meets its contract.
-- Assumes nothing.
use Prim.Native.Nat.{◌-◌, ◌<◌}
use Rattle.certify_vain.proofs.Passing.{Omits, Worse}
use Rattle.certify_vain.proofs.passed_over.Given as goal

abbrev pub invariant-loop-u : goal.invariant-loop-u
invariant-loop-u l = (l.t < l.u) × Omits (Worse l.m l.pair l.t l.care) l.later l.left

abbrev pub decreases-loop-u : goal.decreases-loop-u
decreases-loop-u l = 17 - l.u
