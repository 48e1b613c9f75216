-- `machine::times::up_to` meets its contract: from 16 on no time is cut off.
-- Assumes nothing.
use lib.Pow.{pow_pos}
use Rattle.machine.specs.Inner.{up_to}
use Rattle.machine.proofs.Words.{shl_one}
use Rattle.machine.proofs.TimeSets.{up_to_all}
use Rattle.machine.proofs.times.up_to.Goals as goal

pub returns-then-v-ge16 : goal.returns-then-v-ge16
returns-then-v-ge16 c = up_to_all _ _ c.ranges.p.fits c.if-v-ge16.true

pub nonzero_rem-result : goal.nonzero_rem-result
nonzero_rem-result c = rw (shl_one _ c.if-v-ge16.false) (pow_pos _)

pub returns : goal.returns
unfolding up_to
returns c = rw (shl_one _ c.if-v-ge16.false)
