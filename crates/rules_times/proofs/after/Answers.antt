-- `rules_times::after` meets its contract.
-- Assumes nothing.
use borrow.Author.Tests.{eqb-true, eqb-false}
use mathlib.Core.Path.{refl, sym, ◌∙◌}
use Rattle.rules_times.proofs.Sets.{after_last, after_none, after_first}
use native.Mathlib.Omega.{arith}
use Rattle.rules_times.proofs.after.Goals as goal

pub returns-then-t-eq16 : goal.returns-then-t-eq16
returns-then-t-eq16 c = rw c.if-t-eq16.true (after_last _)

pub returns-then-is_empty : goal.returns-then-is_empty
returns-then-is_empty c = after_none _ _ (let h = c.requires in omega (arith, c.if-t-eq16.false)) _ refl (eqb-true _ _ (sym c.is_empty.ensures ∙ c.if-is_empty.true))

pub first-requires : goal.first-requires
first-requires c = eqb-false _ _ (sym c.is_empty.ensures ∙ c.if-is_empty.false)

pub returns : goal.returns
returns c = after_first _ _ c.ranges.p.fits _ _ refl c.first.ensures
