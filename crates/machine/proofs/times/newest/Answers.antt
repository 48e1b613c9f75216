-- `machine::times::newest` meets its contract: the digits below the leading zeros are the times up to the newest.
-- Assumes nothing.
use native.Mathlib.Omega.{arith}
use lib.Count.{leading_le}
use Rattle.machine.proofs.TimeSets.{newest_of}
use Rattle.machine.proofs.times.newest.Goals as goal

pub overflow_cast-result : goal.overflow_cast-result
overflow_cast-result c = omega (arith, leading_le 16 c.args.p)

pub overflow_sub-result : goal.overflow_sub-result
overflow_sub-result c = omega (arith, leading_le 16 c.args.p)

pub returns : goal.returns
returns c = newest_of c.args.p c.ranges.p.fits
