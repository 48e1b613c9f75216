-- `machine::promises::has` meets its contract: no time is 0, none is above 16.
-- Assumes nothing.
use Rattle.machine.proofs.Words.{has_zero, has_late, has_digit}
use Rattle.machine.proofs.promises.has.Goals as goal

pub returns-then-t-eq0 : goal.returns-then-t-eq0
returns-then-t-eq0 c = has_zero _ _ c.if-t-eq0.true

pub returns-then-t-gt16 : goal.returns-then-t-gt16
returns-then-t-gt16 c = has_late _ _ c.ranges.p.fits c.if-t-gt16.true

pub returns : goal.returns
returns c = has_digit _ _ c.if-t-eq0.false
