-- `certify_cares::barred::either` meets its contract.
-- Assumes nothing.
use Rattle.certify_cares.proofs.Marks.{marked_left, marked_right}
use Rattle.certify_cares.proofs.barred.either.Goals as goal

pub returns : goal.returns
returns c = (marked_left c.args.one c.args.two, marked_right c.args.one c.args.two)
