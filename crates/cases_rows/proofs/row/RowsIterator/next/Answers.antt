-- `cases_rows::row::Rows::next` meets its contract: a line that is no row is passed.
-- Assumes nothing.
use Rattle.std.proofs.Common.{◌≡◌, List, ◌++◌, ℕ, ap, ◌∙◌, append_assoc}
use Rattle.cases_rows.proofs.row.RowsIterator.next.Goals as goal

passed : (before line cut others : List ℕ) → before ++ (line ++ (cut ++ others)) ≡ (before ++ (line ++ cut)) ++ others
passed before line cut others = simp append_assoc

pub loop-line-preserved-in-None : goal.loop-line-preserved-in-None
loop-line-preserved-in-None c =
    let line = c.in-Some.ensures.steps in
    (_, c.loop-line.invariant.1 ∙ ap (λ l. c.loop-line.invariant.0 ++ l) line.1.1 ∙ passed c.loop-line.invariant.0 _ line.1.0 _)

pub loop-line-preserved : goal.loop-line-preserved
loop-line-preserved c =
    let line = c.in-Some.ensures.steps in
    (_, c.loop-line.invariant.1 ∙ ap (λ l. c.loop-line.invariant.0 ++ l) line.1.1 ∙ passed c.loop-line.invariant.0 _ line.1.0 _)
