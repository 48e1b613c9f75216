-- `machine::Thread::take_out` meets its contract.
-- Assumes nothing.
use Rattle.machine.proofs.Thread.take_out.Goals as goal

pub returns : goal.returns
returns c = rw (c.with_promises.ensures, c.without.ensures)
