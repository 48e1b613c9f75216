-- `cases_rows::row::Rows::next` meets its contract: what it has passed stands before what is left.
-- Assumes nothing.
use Rattle.std.proofs.Common.{◌≡◌, List, ◌++◌, ℕ, length}
use Rattle.cases_rows.proofs.row.RowsIterator.next.Given as goal

abbrev pub invariant-loop-line : goal.invariant-loop-line
invariant-loop-line l = (before : List ℕ) × (l.initial.self.lines.0.now ≡ before ++ l.self.lines.0.now)

abbrev pub decreases-loop-line : goal.decreases-loop-line
decreases-loop-line l = length l.self.lines.0.now
