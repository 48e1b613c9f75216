-- `file_cursor::marked` meets its contract.
-- Assumes nothing.
use mathlib.Core.Path.{◌∙◌}
use Rattle.program.proofs.Reading.{marked_short, marked_other, marked_right}
use Rattle.file_cursor.proofs.marked.Goals as goal

pub returns-then-file-at : goal.returns-then-file-at
returns-then-file-at c = λ on. marked_short _ _ _ _ _ on c.requires.0 c.if-file-at.true ∙ rw c.at.ensures

pub returns-then-file-at-2 : goal.returns-then-file-at-2
returns-then-file-at-2 c = λ on. marked_right _ _ _ _ _ on c.requires.0 c.if-file-at.false c.if-file-at-2.true

pub returns-else-file-at-2 : goal.returns-else-file-at-2
returns-else-file-at-2 c = λ on. marked_other _ _ _ _ _ on c.requires.0 c.if-file-at.false c.if-file-at-2.false ∙ rw c.at-else-file-at-2.ensures
