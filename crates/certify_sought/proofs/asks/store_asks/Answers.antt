-- `certify_sought::asks::store_asks` meets its contract: one case for a store that cannot fill the hole, and one for others.
-- Assumes nothing.
use mathlib.Core.Path.{sym, ◌∙◌}
use Rattle.certify_sought.proofs.Asking.{keeps_hole, fills_hole}
use Rattle.certify_sought.proofs.asks.store_asks.Goals as goal

pub returns-then-not-has : goal.returns-then-not-has
returns-then-not-has c =
    keeps_hole _ _ _ _ _ c.requires _ _ _ _ _ _ c.value_of.ensures c.address-l.ensures.0 c.value_of-v.ensures c.place.ensures c.barring.ensures c.other_values.ensures _
    (λ s' g. let n = c.noting-kept.ensures c.args.s s' g in ((c.noting.ensures c.args.s s' n.0).1, n.1)) (sym c.has.ensures ∙ c.if-not-has.true)

pub returns : goal.returns
returns c =
    let s = c.args.s in
    fills_hole _ _ _ _ _ c.requires _ _ _ _ _ _ c.value_of.ensures c.address-l.ensures.0 c.value_of-v.ensures c.place.ensures c.barring.ensures c.other_values.ensures _
    (λ s' g. let n = c.noting-kept.ensures s s' (c.noting-2.ensures s s' g).0 in ((c.noting.ensures s s' n.0).1, n.1)) _ c.unsought.ensures (λ s' g. (c.noting-2.ensures s s' g).1)
