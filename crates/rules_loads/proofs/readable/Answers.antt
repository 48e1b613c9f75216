-- `rules_loads::readable` meets its contract: one case for each test.
-- Assumes nothing.
use borrow.Author.Tests.{eq-eqb, ne_eqb, le-leb, lt-leb}
use Rattle.machine.specs.Rules.{readable}
use Rattle.rules_loads.proofs.readable.Goals as goal

pub returns-then-t-eq0 : goal.returns-then-t-eq0
unfolding readable
returns-then-t-eq0 c = simp (eq-eqb _ _ c.if-t-eq0.true)

pub returns-then-m-t : goal.returns-then-m-t
unfolding readable
returns-then-m-t c = simp (ne_eqb _ _ c.if-t-eq0.false, lt-leb _ _ c.if-m-t.true)

pub returns : goal.returns
unfolding readable
returns c =
    simp (
      ne_eqb _ _ c.if-t-eq0.false,
      le-leb _ _ c.if-m-t.false,
      c.message_at.ensures,
    )
