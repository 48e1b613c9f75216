-- `certify::own_message` meets its contract.
-- Assumes nothing.
use Rattle.certify.proofs.own_message.Goals as goal

pub returns : goal.returns
returns c = rw (c.value_of-2.ensures, c.address.ensures.0, c.value_of.ensures)
