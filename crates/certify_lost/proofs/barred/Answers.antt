-- `certify_lost::barred` meets its contract: one case for each instruction, and for a store one for each way in which it cannot.
-- Assumes nothing.
use mathlib.Core.Path.{sym, ap, subst, ◌∙◌}
use Rattle.machine.specs.Rules.{address}
use Rattle.certify_cares.specs.Cares.{Marked}
use Rattle.certify_lost.specs.Lost.{InRange}
use Rattle.certify_lost.proofs.Losing.{and-not, store_elsewhere, store_other}
use Rattle.certify_lost.proofs.barred.Goals as goal

pub returns-then-unwritten-marked : goal.returns-then-unwritten-marked
returns-then-unwritten-marked c =
    let f = and-not _ _ c.unwritten.ensures c.marked.ensures.1 c.if-unwritten-marked.true in store_elsewhere _ _ _ _ _ _ _ _ _ c.in-Store.is f.0 (λ m. f.1 (subst (Marked c.args.w.places) (sym (c.address.ensures.0 ∙ ap address c.value_of.ensures)) m)) _ c.barring.ensures _ c.noting.ensures

pub returns-then-unwritten-in_range : goal.returns-then-unwritten-in_range
returns-then-unwritten-in_range c =
    let f = and-not _ _ c.unwritten-in-Store.ensures c.in_range.ensures c.if-unwritten-in_range.true in
    store_other _ _ _ _ _ _ _ _ _ c.in-Store.is f.0 (λ m. f.1 (subst (InRange c.args.w) (sym c.value_of-stored.ensures) m)) _ (rw c.value_of-stored.ensures at c.out_of_range.ensures) _ c.noting-then-unwritten-in_range.ensures
