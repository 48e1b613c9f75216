-- `machine::promises::first` meets its contract: the trailing zeros are the times before the first.
-- Assumes nothing.
use native.Mathlib.Omega.{arith}
use lib.Count.{trailing_le}
use Rattle.machine.proofs.Words.{first_of}
use Rattle.machine.proofs.promises.first.Goals as goal

pub overflow_cast-result : goal.overflow_cast-result
overflow_cast-result c = omega (arith, trailing_le 16 c.args.p)

pub overflow_add-result : goal.overflow_add-result
overflow_add-result c = omega (arith, trailing_le 16 c.args.p)

pub returns : goal.returns
returns c = first_of c.args.p c.ranges.p.fits c.requires
