-- `certify_sought::places::locations` meets its contract.
-- Assumes nothing.
use Rattle.certify_sought.proofs.Placing.{located_first}
use Rattle.certify_sought.proofs.places.locations.Goals as goal

pub loop-u-init : goal.loop-u-init
loop-u-init c = (c.after-u.ensures.later, located_first c.args.m _ _ _ c.after-u.ensures)
