-- `encode_answers::put_read` meets its contract: no refusal and the program, or the refusal and the program of all 0.
-- Assumes nothing.
use Rattle.encode_answers.specs.Value.{read_bytes}
use Rattle.encode_answers.proofs.put_read.Goals as goal

pub returns-in-Ok : goal.returns-in-Ok
unfolding read_bytes
returns-in-Ok c = rw c.in-Ok.is c.put_file.ensures

pub returns-in-Err : goal.returns-in-Err
unfolding read_bytes
returns-in-Err c = rw c.in-Err.is (rw (c.number.ensures, c.default.ensures) at c.put_file-in-Err.ensures)
