-- `machine::Views::raise_cap` meets its contract.
-- Assumes nothing.
use Rattle.machine.proofs.Views.raise_cap.Goals as goal

pub returns : goal.returns
returns c = rw c.larger.ensures
