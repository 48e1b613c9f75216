-- `machine::Views::raise_rel` meets its contract.
-- Assumes nothing.
use Rattle.machine.proofs.Views.raise_rel.Goals as goal

pub returns : goal.returns
returns c = rw c.larger.ensures
