-- `file_threads::with_instruction` meets its contract.
-- Assumes nothing.
use Rattle.file_threads.proofs.with_instruction.Goals as goal

pub returns : goal.returns
returns c = rw (c.with_code.ensures, c.code_of-c.ensures)
