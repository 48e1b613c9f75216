-- `rules_loads::read_view` meets its contract: one case for each arm.
-- Assumes nothing.
use borrow.Author.Tests.{eq-eqb, ne_eqb}
use Rattle.rules_loads.proofs.read_view.Goals as goal

pub returns-then-t-w : goal.returns-then-t-w
returns-then-t-w c = rw (← c.forward_at-w.ensures, eq-eqb _ _ c.if-t-w.true)

pub returns-else-t-w : goal.returns-else-t-w
returns-else-t-w c = rw (← c.forward_at-w.ensures, ne_eqb _ _ c.if-t-w.false)
