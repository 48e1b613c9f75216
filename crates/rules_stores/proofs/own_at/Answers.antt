-- `rules_stores::own_at` meets its contract: one law of the rules for each answer.
-- Assumes nothing.
use mathlib.Core.Path.{sym, ◌∙◌}
use Rattle.machine.proofs.Cases.{own_28, own_next}
use Rattle.rules_stores.proofs.own_at.Goals as goal

pub returns-then-not-below_time : goal.returns-then-not-below_time
returns-then-not-below_time c = rw (own_28 _ _ _ _ _ _ (sym c.below_time.ensures ∙ c.if-not-below_time.true))

pub returns : goal.returns
returns c =
    rw (
      own_next _ _ _ _ _ _ (sym c.below_time.ensures ∙ c.if-not-below_time.false),
      c.stored.ensures,
    )
