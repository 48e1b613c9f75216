-- `machine::Views::raise_w_old` meets its contract.
-- Assumes nothing.
use Rattle.machine.proofs.Views.raise_w_old.Goals as goal

pub returns : goal.returns
returns c = rw c.larger.ensures
