-- `cases_rows::lines::Lines::next` meets its contract: the comment and the line's end are cut out.
-- Assumes nothing.
use Rattle.std.proofs.Common.{◌≡◌, List, ◌++◌, ℕ, ap, ◌∙◌, append_assoc, rules}
use Rattle.cases_rows.proofs.lines.LinesIterator.next.Goals as goal

cut_twice : (said cut rest end others : List ℕ) → (said ++ (cut ++ rest)) ++ (end ++ others) ≡ said ++ ((cut ++ (rest ++ end)) ++ others)
cut_twice said cut rest end others = simp append_assoc

pub returns-clause-steps : goal.returns-clause-steps
returns-clause-steps c =
    let line = c.cut_at.ensures.parts in
    let said = c.cut_at-2.ensures.parts in
    (search rules, (_, line.1 ∙ ap (λ l. l ++ (line.0 ++ c.cut_at.result.1.now)) said.1 ∙ cut_twice _ said.0 _ line.0 _))
