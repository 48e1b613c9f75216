-- `file_reader::read_end` meets its contract.
-- Assumes nothing.
use mathlib.Core.Path.{sym, ap, ◌∙◌}
use Rattle.std.specs.Prelude.{Err}
use Rattle.program.specs.Answers.{file_read}
use Rattle.file_cursor.proofs.Cursors.{end_good, end_9}
use Rattle.file_reader.proofs.read_end.Goals as goal

pub returns-then-c-end : goal.returns-then-c-end
returns-then-c-end c = ap file_read (sym (end_good _ _ c.if-c-end.true))

pub returns-else-c-end : goal.returns-else-c-end
returns-else-c-end c = ap Err c.at.ensures ∙ ap file_read (sym (end_9 _ _ c.if-c-end.false))
