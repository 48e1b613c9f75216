-- `file_reader::read` meets its contract.
-- Assumes nothing.
use mathlib.Core.Path.{sym, ◌∙◌}
use Rattle.program.specs.File.{read_body}
use Rattle.program.proofs.PassedOn.{passed_on}
use Rattle.file_cursor.proofs.Cursors.{onward, header_within, body_within, header_ends, body_ends, question_ends, read_through}
use Rattle.file_reader.proofs.read.Goals as goal

pub returns-in_err-header : goal.returns-in_err-header
returns-in_err-header c = passed_on _ _ c.from_residual.ensures.1 ∙ sym (header_ends _ _ c.in_err-header.ensures)

pub read_threads-requires : goal.read_threads-requires
read_threads-requires c =
    let w = onward _ _ _ c.in_ok-header.ensures (header_within _) in
    (w.threads, w)

pub returns-in_err-threads : goal.returns-in_err-threads
unfolding read_body
returns-in_err-threads c = passed_on _ _ c.from_residual-in_err-threads.ensures.1 ∙ sym (body_ends _ _ c.in_ok-header.ensures _ c.in_err-threads.ensures)

pub read_question-requires : goal.read_question-requires
unfolding read_body
read_question-requires c = onward _ _ _ c.in_ok-threads.ensures (body_within _ _ (onward _ _ _ c.in_ok-header.ensures (header_within _)))

pub returns-in_err-question : goal.returns-in_err-question
unfolding read_body
returns-in_err-question c =
    passed_on _ _ c.from_residual-in_err-question.ensures.1 ∙ sym (question_ends _ _ c.in_ok-header.ensures _ c.in_ok-threads.ensures _ c.in_err-question.ensures)

pub returns : goal.returns
unfolding read_body
returns c = c.read_end.ensures ∙ sym (read_through _ _ c.in_ok-header.ensures _ c.in_ok-threads.ensures _ c.in_ok-question.ensures)
