-- `machine::Views::raise_w_new` meets its contract.
-- Assumes nothing.
use Rattle.machine.proofs.Views.raise_w_new.Goals as goal

pub returns : goal.returns
returns c = rw c.larger.ensures
