-- `machine::Views::raise_r_old` meets its contract.
-- Assumes nothing.
use Rattle.machine.proofs.Views.raise_r_old.Goals as goal

pub returns : goal.returns
returns c = rw c.larger.ensures
