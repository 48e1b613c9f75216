-- `file_range::number_ok` meets its contract.
-- Assumes nothing.
use borrow.Author.Tests.{eq-eqb, ne_eqb}
use Rattle.program.specs.WellFormed.{number_test}
use Rattle.file_range.proofs.number_ok.Goals as goal

pub returns-then-op-eq4 : goal.returns-then-op-eq4
unfolding number_test
returns-then-op-eq4 c = rw (eq-eqb _ _ c.if-op-eq4.true)

pub returns-then-k-eq0 : goal.returns-then-k-eq0
unfolding number_test
returns-then-k-eq0 c = rw (ne_eqb _ _ c.if-op-eq4.false, eq-eqb _ _ c.if-k-eq0.true)

pub returns-else-k-eq0 : goal.returns-else-k-eq0
unfolding number_test
returns-else-k-eq0 c = rw (ne_eqb _ _ c.if-op-eq4.false, ne_eqb _ _ c.if-k-eq0.false)
