-- `file_reader::read_condition` meets its contract.
-- Assumes nothing.
use mathlib.Core.Path.{refl, ap}
use native.Mathlib.Omega.{arith}
use Rattle.std.specs.Prelude.{Err}
use Rattle.program.proofs.PassedOn.{passed_on}
use Rattle.program.proofs.Reading.{mark_fits, failing_within, condition_fault, condition_8, condition_on}
use Rattle.file_cursor.proofs.Cursors.{as_read}
use Rattle.file_reader.proofs.read_condition.Goals as goal

pub returns-in_err-marked : goal.returns-in_err-marked
returns-in_err-marked c = as_read (passed_on _ _ c.from_residual.ensures.1) (condition_fault _ _ _ _ _ c.in_err-marked.ensures)

pub condition_at-x-requires : goal.condition_at-x-requires
condition_at-x-requires c = omega (arith, mark_fits _ _ _ _ _ c.in_ok-marked.ensures)

pub overflow_add-at-in-Some : goal.overflow_add-at-in-Some
overflow_add-at-in-Some c = omega (arith, mark_fits _ _ _ _ _ c.in_ok-marked.ensures, failing_within _ _ c.in-Some.ensures)

pub returns-in-Some : goal.returns-in-Some
returns-in-Some c = as_read (ap Err c.at.ensures) (condition_8 _ _ _ _ _ c.in_ok-marked.ensures c.condition_at-x.ensures c.in-Some.ensures)

pub returns : goal.returns
returns c = as_read refl (condition_on _ _ _ _ _ c.in_ok-marked.ensures c.condition_at-x.ensures c.in_default.ensures c.with_condition.ensures)
