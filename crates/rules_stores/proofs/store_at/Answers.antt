-- `rules_stores::store_at` meets its contract: one law of the rules for each answer.
-- Assumes nothing.
use mathlib.Core.Path.{sym, ◌∙◌}
use native.Mathlib.Omega.{arith}
use Rattle.machine.proofs.Cases.{promised_in, store_26, store_28, store_next}
use Rattle.rules_stores.proofs.store_at.Goals as goal

pub returns-then-not-promised : goal.returns-then-not-promised
returns-then-not-promised c = rw (store_26 _ _ _ _ _ _ _ _ (sym c.promised.ensures ∙ c.if-not-promised.true))

pub returns-then-not-below_time : goal.returns-then-not-below_time
returns-then-not-below_time c =
    let p = sym c.promised.ensures ∙ c.if-not-promised.false in
    rw (store_28 _ _ _ _ _ _ _ _ p (sym c.below_time.ensures ∙ c.if-not-below_time.true))

pub store_done-requires : goal.store_done-requires
store_done-requires c =
    let h = promised_in _ _ _ _ _ (sym c.promised.ensures ∙ c.if-not-promised.false) in
    (omega arith, (omega arith, h))

pub returns : goal.returns
returns c =
    let p = sym c.promised.ensures ∙ c.if-not-promised.false in
    rw (
      store_next _ _ _ _ _ _ _ _ p (sym c.below_time.ensures ∙ c.if-not-below_time.false),
      c.store_done.ensures,
    )
