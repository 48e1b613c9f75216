-- `machine::Thread::raise_coherence` meets its contract.
-- Assumes nothing.
use Rattle.machine.proofs.Thread.raise_coherence.Goals as goal

pub returns : goal.returns
returns c = rw c.larger.ensures
