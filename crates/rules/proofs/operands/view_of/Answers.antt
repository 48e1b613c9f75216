-- `rules::operands::view_of` meets its contract: one case for each kind of operand.
-- Assumes nothing.
use Rattle.rules.proofs.operands.view_of.Goals as goal

pub returns-in-OfRegister : goal.returns-in-OfRegister
returns-in-OfRegister c = rw (c.register_at.ensures, c.in-OfRegister.is)
