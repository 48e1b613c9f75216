-- `machine::machines::fresh` meets its contract.
-- Assumes nothing.
use Rattle.machine.specs.State.{fresh}
use Rattle.machine.proofs.machines.fresh.Goals as goal

pub returns : goal.returns
unfolding fresh
returns c = rw (c.fresh_memory.ensures, c.fresh_thread.ensures)
