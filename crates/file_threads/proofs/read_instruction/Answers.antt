-- `file_threads::read_instruction` meets its contract.
-- Assumes nothing.
use mathlib.Core.Path.{refl, ap}
use native.Mathlib.Omega.{arith}
use Rattle.std.specs.Prelude.{Err}
use Rattle.program.proofs.PassedOn.{passed_on}
use Rattle.program.proofs.Reading.{mark_fits, failing_within, instruction_fault, instruction_6, instruction_7, instruction_on, store_few}
use Rattle.file_cursor.proofs.Cursors.{as_read}
use Rattle.file_threads.proofs.read_instruction.Goals as goal

pub returns-in_err-marked : goal.returns-in_err-marked
returns-in_err-marked c = as_read (passed_on _ _ c.from_residual.ensures.1) (instruction_fault _ _ _ _ _ _ c.in_err-marked.ensures)

pub instruction_at-x-requires : goal.instruction_at-x-requires
instruction_at-x-requires c = omega (arith, mark_fits _ _ _ _ _ c.in_ok-marked.ensures)

pub overflow_add-at-in-Some : goal.overflow_add-at-in-Some
overflow_add-at-in-Some c = omega (arith, mark_fits _ _ _ _ _ c.in_ok-marked.ensures, failing_within _ _ c.in-Some.ensures)

pub returns-in-Some : goal.returns-in-Some
returns-in-Some c = as_read (ap Err c.at.ensures) (instruction_6 _ _ _ _ _ _ c.in_ok-marked.ensures c.instruction_at-x.ensures c.code_of-n.ensures c.in-Some.ensures)

pub overflow_add-stores : goal.overflow_add-stores
overflow_add-stores c = omega (arith, store_few _ _ c.one_store.ensures)

pub returns-then-stores-gt16 : goal.returns-then-stores-gt16
returns-then-stores-gt16 c =
    as_read (ap Err c.at-then-stores-gt16.ensures) (instruction_7 _ _ _ _ _ _ c.in_ok-marked.ensures c.instruction_at-x.ensures c.code_of-n.ensures c.in_default.ensures c.one_store.ensures c.if-stores-gt16.true)

pub returns : goal.returns
returns c = as_read refl (instruction_on _ _ _ _ _ _ c.in_ok-marked.ensures c.instruction_at-x.ensures c.code_of-n.ensures c.in_default.ensures c.one_store.ensures c.if-stores-gt16.false c.with_instruction.ensures)
