-- `file_reader::read_question` meets its contract.
-- Assumes nothing.
use mathlib.Core.Path.{ap}
use native.Mathlib.Omega.{arith}
use Rattle.std.specs.Prelude.{Err}
use Rattle.program.specs.declared.Program.{Program}
use Rattle.program.proofs.PassedOn.{passed_on}
use Rattle.program.proofs.Reading.{mark_fits, question_fault, question_8, question_on}
use Rattle.file_cursor.proofs.Cursors.{as_read}
use Rattle.file_reader.proofs.read_question.Goals as goal

pub returns-in_err-marked : goal.returns-in_err-marked
returns-in_err-marked c = as_read (passed_on _ _ c.from_residual.ensures.1) (question_fault _ _ _ _ c.in_err-marked.ensures)

pub bounds-file-at : goal.bounds-file-at
bounds-file-at c = omega (arith, mark_fits _ _ _ _ _ c.in_ok-marked.ensures)

pub returns-then-n-gt8 : goal.returns-then-n-gt8
returns-then-n-gt8 c = as_read (ap Err c.at.ensures) (question_8 _ _ _ _ c.in_ok-marked.ensures c.if-n-gt8.true)

pub read_conditions-requires : goal.read_conditions-requires
read_conditions-requires c =
    let w = c.requires in
    let l = mark_fits _ _ _ _ _ c.in_ok-marked.ensures in
    let t = ap (λ (q : Program). q.threads) c.with_conditions.ensures in
    (omega (arith, c.if-n-gt8.false), record { place = omega arith; stores = w.stores; threads = omega arith })

pub returns : goal.returns
returns c = as_read c.read_conditions.ensures (question_on _ _ _ _ c.in_ok-marked.ensures c.if-n-gt8.false c.with_conditions.ensures)
