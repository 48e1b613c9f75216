-- `file_threads::read_threads` meets its contract.
-- Assumes nothing.
use Rattle.program.specs.File.{read_thread}
use Rattle.file_cursor.proofs.Cursors.{Ahead}
use Rattle.file_threads.proofs.read_threads.Given as goal

abbrev pub invariant-loop-i : goal.invariant-loop-i
invariant-loop-i l = Ahead l.file (read_thread l.file) l.n l.initial.c l.i l.c
