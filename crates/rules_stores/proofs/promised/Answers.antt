-- `rules_stores::promised` meets its contract: one case for each test.
-- Assumes nothing.
use mathlib.Core.Path.{sym, subst, ◌∙◌}
use native.Mathlib.Omega.{arith}
use lib.Dec.{T}
use borrow.Author.Tests.{eq-eqb, ne_eqb, le-leb, lt-leb}
use Rattle.machine.specs.Rules.{promised}
use Rattle.machine.proofs.Sets.{has_positive}
use Rattle.rules_stores.proofs.promised.Goals as goal

pub returns-then-not-has : goal.returns-then-not-has
unfolding promised
returns-then-not-has c = simp (sym c.has.ensures ∙ c.if-not-has.true)

pub returns-then-m-t : goal.returns-then-m-t
unfolding promised
returns-then-m-t c = simp (sym c.has.ensures ∙ c.if-not-has.false, lt-leb _ _ c.if-m-t.true)

pub message_at-w-requires : goal.message_at-w-requires
message_at-w-requires c = let h = has_positive _ _ (subst T (sym (sym c.has.ensures ∙ c.if-not-has.false)) tt) in omega arith

pub returns-then-w-l : goal.returns-then-w-l
unfolding promised
returns-then-w-l c = simp (sym c.has.ensures ∙ c.if-not-has.false, le-leb _ _ c.if-m-t.false, ← c.message_at-w.ensures, eq-eqb _ _ c.if-w-l.true)

pub returns-else-w-l : goal.returns-else-w-l
unfolding promised
returns-else-w-l c =
    simp (
      sym c.has.ensures ∙ c.if-not-has.false,
      le-leb _ _ c.if-m-t.false,
      ← c.message_at-w.ensures,
      ne_eqb _ _ c.if-w-l.false,
    )
