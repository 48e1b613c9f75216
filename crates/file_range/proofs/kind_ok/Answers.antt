-- `file_range::kind_ok` meets its contract.
-- Assumes nothing.
use borrow.Author.Tests.{eq-eqb, ne_eqb}
use Rattle.program.specs.WellFormed.{kind_test}
use Rattle.file_range.proofs.kind_ok.Goals as goal

pub returns-then-op-eq4 : goal.returns-then-op-eq4
unfolding kind_test
returns-then-op-eq4 c = rw (eq-eqb _ _ c.if-op-eq4.true)

pub returns-else-op-eq4 : goal.returns-else-op-eq4
unfolding kind_test
returns-else-op-eq4 c = rw (ne_eqb _ _ c.if-op-eq4.false)
