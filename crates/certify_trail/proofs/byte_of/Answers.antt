-- `certify_trail::byte_of` meets its contract: one case for each byte.
-- Assumes nothing.
use mathlib.Core.Path.{◌≡◌}
use native.Mathlib.Omega.{arith}
use Rattle.certify_trail.specs.Trail.{byte_of}
use Rattle.certify_trail.proofs.byte_of.Goals as goal

pub returns-in-0 : goal.returns-in-0
unfolding byte_of
returns-in-0 c = rw c.in-0.is

pub returns-in-1 : goal.returns-in-1
unfolding byte_of
returns-in-1 c = rw c.in-1.is

pub returns-in-2 : goal.returns-in-2
unfolding byte_of
returns-in-2 c = rw c.in-2.is

pub returns-in_default : goal.returns-in_default
unfolding byte_of
returns-in_default c = let e : c.args.j ≡ 3 = omega (arith, c.requires) in rw e
