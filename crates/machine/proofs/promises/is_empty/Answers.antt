-- `machine::promises::is_empty` meets its contract: a set with no ones is empty.
-- Assumes nothing.
use Rattle.machine.proofs.Words.{ones_eqb}
use Rattle.machine.proofs.promises.is_empty.Goals as goal

pub returns : goal.returns
returns c = ones_eqb c.args.p
