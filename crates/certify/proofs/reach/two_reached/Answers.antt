-- `certify::reach::two_reached` meets its contract.
-- Assumes nothing.
use Rattle.certify.proofs.Reaching.{found_twice}
use Rattle.certify.proofs.reach.two_reached.Goals as goal

pub returns : goal.returns
returns c = found_twice _ _ _ _ _ c.search_runs.ensures.found
