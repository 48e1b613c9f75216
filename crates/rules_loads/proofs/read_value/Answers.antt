-- `rules_loads::read_value` meets its contract: time 0 holds 0.
-- Assumes nothing.
use borrow.Author.Tests.{eq-eqb, ne_eqb}
use Rattle.machine.specs.Rules.{read_value}
use Rattle.rules_loads.proofs.read_value.Goals as goal

pub returns-then-t-eq0 : goal.returns-then-t-eq0
unfolding read_value
returns-then-t-eq0 c = simp (eq-eqb _ _ c.if-t-eq0.true)

pub returns-else-t-eq0 : goal.returns-else-t-eq0
unfolding read_value
returns-else-t-eq0 c = simp (ne_eqb _ _ c.if-t-eq0.false, c.message_at.ensures)
