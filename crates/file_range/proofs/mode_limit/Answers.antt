-- `file_range::mode_limit` meets its contract.
-- Assumes nothing.
use borrow.Author.Tests.{eq-eqb, ne_eqb}
use Rattle.program.specs.WellFormed.{mode_limit}
use Rattle.file_range.proofs.mode_limit.Goals as goal

pub returns-then-op-eq0 : goal.returns-then-op-eq0
unfolding mode_limit
returns-then-op-eq0 c = rw (eq-eqb _ _ c.if-op-eq0.true)

pub returns-then-op-eq1 : goal.returns-then-op-eq1
unfolding mode_limit
returns-then-op-eq1 c = rw (ne_eqb _ _ c.if-op-eq0.false, eq-eqb _ _ c.if-op-eq1.true)

pub returns-then-op-eq2 : goal.returns-then-op-eq2
unfolding mode_limit
returns-then-op-eq2 c = rw (ne_eqb _ _ c.if-op-eq0.false, ne_eqb _ _ c.if-op-eq1.false, eq-eqb _ _ c.if-op-eq2.true)

pub returns-then-op-eq3 : goal.returns-then-op-eq3
unfolding mode_limit
returns-then-op-eq3 c = rw (ne_eqb _ _ c.if-op-eq0.false, ne_eqb _ _ c.if-op-eq1.false, ne_eqb _ _ c.if-op-eq2.false, eq-eqb _ _ c.if-op-eq3.true)

pub returns-else-op-eq3 : goal.returns-else-op-eq3
unfolding mode_limit
returns-else-op-eq3 c = rw (ne_eqb _ _ c.if-op-eq0.false, ne_eqb _ _ c.if-op-eq1.false, ne_eqb _ _ c.if-op-eq2.false, ne_eqb _ _ c.if-op-eq3.false)
