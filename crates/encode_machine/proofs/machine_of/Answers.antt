-- `encode_machine::machine_of` meets its contract: the memory, then the threads.
-- Assumes nothing.
use Rattle.encode_machine.specs.Value.{memory_from, machine_of}
use Rattle.encode_machine.proofs.machine_of.Goals as goal

pub returns : goal.returns
unfolding machine_of memory_from
returns c = rw (c.each_from-2.ensures, c.each_from.ensures)
