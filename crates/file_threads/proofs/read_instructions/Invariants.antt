-- `file_threads::read_instructions` meets its contract.
-- Assumes nothing.
use Rattle.program.specs.File.{read_instruction}
use Rattle.file_cursor.proofs.Cursors.{Ahead}
use Rattle.file_threads.proofs.read_instructions.Given as goal

abbrev pub invariant-loop-k : goal.invariant-loop-k
invariant-loop-k l = Ahead l.file (read_instruction l.file l.i) l.n l.initial.c l.k l.c
