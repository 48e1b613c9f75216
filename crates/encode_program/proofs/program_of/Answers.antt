-- `encode_program::program_of` meets its contract: part after part.
-- Assumes nothing.
use Rattle.encode_program.specs.Value.{program_of}
use Rattle.encode_program.proofs.program_of.Goals as goal

pub returns : goal.returns
unfolding program_of
returns c = rw (c.each_from-2.ensures, c.each_from.ensures)
