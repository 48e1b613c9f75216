-- `certify_cares::joined` meets its contract: one case for each way to join.
-- Assumes nothing.
use Rattle.certify_cares.proofs.Agreeing.{both_asked}
use Rattle.certify_cares.proofs.joined.Goals as goal

pub returns-then-a-b : goal.returns-then-a-b
returns-then-a-b c = both_asked c.args.k c.args.l c.if-a-b.true
