-- `certify_sought::places::locations` meets its contract.
-- Assumes nothing.
use Prim.Native.Nat.{◌-◌, ◌<◌}
use Rattle.certify_sought.specs.Asks.{Located}
use Rattle.certify_sought.proofs.places.locations.Given as goal

abbrev pub invariant-loop-u : goal.invariant-loop-u
invariant-loop-u l = (0 < l.u) × Located l.m l.p l.u l.set

abbrev pub decreases-loop-u : goal.decreases-loop-u
decreases-loop-u l = 17 - l.u
