-- `cases_rows::lines::cut_at` meets its contract: the byte itself is cut out.
-- Assumes nothing.
use Rattle.std.proofs.Common.{[], ◌∷◌}
use Rattle.cases_rows.proofs.lines.cut_at.Goals as goal

pub returns-in-Some-clause-parts : goal.returns-in-Some-clause-parts
returns-in-Some-clause-parts c = (c.args.b ∷ [], c.in-Some.ensures)
