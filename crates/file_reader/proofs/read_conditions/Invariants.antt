-- `file_reader::read_conditions` meets its contract.
-- Assumes nothing.
use Rattle.program.specs.File.{read_condition}
use Rattle.file_cursor.proofs.Cursors.{Ahead}
use Rattle.file_reader.proofs.read_conditions.Given as goal

abbrev pub invariant-loop-k : goal.invariant-loop-k
invariant-loop-k l = Ahead l.file (read_condition l.file) l.n l.initial.c l.k l.c
