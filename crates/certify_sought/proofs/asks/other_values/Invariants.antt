-- `certify_sought::asks::other_values` meets its contract.
-- Assumes nothing.
use Prim.Native.Nat.{◌-◌, ◌<◌}
use Rattle.certify_sought.specs.Asks.{OtherValues}
use Rattle.certify_sought.proofs.asks.other_values.Given as goal

abbrev pub invariant-loop-u : goal.invariant-loop-u
invariant-loop-u l = (0 < l.u) × OtherValues l.m l.p l.l l.v l.u l.care

abbrev pub decreases-loop-u : goal.decreases-loop-u
decreases-loop-u l = 17 - l.u
