-- `certify::is_certified` meets its contract.
-- Assumes nothing.
use Rattle.certify.proofs.Reaching.{found_certified}
use Rattle.certify.proofs.is_certified.Goals as goal

pub two_reached-requires : goal.two_reached-requires
two_reached-requires c = c.requires

pub returns : goal.returns
returns c = found_certified _ _ _ _ _ (rw c.certified.ensures at c.two_reached.ensures)
