-- `file_reader::read_header` meets its contract.
-- Assumes nothing.
use mathlib.Core.Path.{refl, ap}
use native.Mathlib.Omega.{arith}
use Rattle.std.specs.Prelude.{Err}
use Rattle.program.proofs.PassedOn.{passed_on}
use Rattle.program.proofs.Reading.{mark_fits, header_fault, header_3, header_4, header_on}
use Rattle.file_cursor.proofs.Cursors.{as_read}
use Rattle.file_reader.proofs.read_header.Goals as goal

pub returns-in_err-marked : goal.returns-in_err-marked
returns-in_err-marked c = as_read (passed_on _ _ c.from_residual.ensures.1) (header_fault _ c.in_err-marked.ensures)

pub bounds-file-2 : goal.bounds-file-2
bounds-file-2 c = omega (arith, mark_fits _ _ _ _ _ c.in_ok-marked.ensures)

pub returns-then-version-ne1 : goal.returns-then-version-ne1
returns-then-version-ne1 c = as_read (ap Err c.at.ensures) (header_3 _ c.in_ok-marked.ensures c.if-version-ne1.true)

pub bounds-file-3 : goal.bounds-file-3
bounds-file-3 c = omega (arith, mark_fits _ _ _ _ _ c.in_ok-marked.ensures)

pub returns-then-threads : goal.returns-then-threads
returns-then-threads c = as_read refl (header_on _ c.in_ok-marked.ensures c.if-version-ne1.false c.if-threads.true c.with_header.ensures)

pub returns-else-threads : goal.returns-else-threads
returns-else-threads c = as_read (ap Err c.at-else-threads.ensures) (header_4 _ c.in_ok-marked.ensures c.if-version-ne1.false c.if-threads.false)
