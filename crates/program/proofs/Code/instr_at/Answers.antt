-- `program::Code::instr_at` meets its contract: the position is before the thread's end.
-- Assumes nothing.
use borrow.Author.Tests.{lt-ltb}
use Rattle.program.specs.Program.{instr_at}
use Rattle.program.proofs.Code.instr_at.Goals as goal

pub returns : goal.returns
unfolding instr_at
returns c = rw (lt-ltb _ _ c.requires.1, c.decode.ensures, c.instruction_at.ensures)
