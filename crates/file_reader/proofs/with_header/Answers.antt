-- `file_reader::with_header` meets its contract.
-- Assumes nothing.
use Rattle.file_reader.proofs.with_header.Goals as goal

pub returns : goal.returns
returns c = rw c.default-p.ensures
