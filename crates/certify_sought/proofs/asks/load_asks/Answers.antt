-- `certify_sought::asks::load_asks` meets its contract: one case for each operand that keeps its location.
-- Assumes nothing.
use Rattle.certify_sought.proofs.Asking.{first_kept, second_kept}
use Rattle.certify_sought.proofs.asks.load_asks.Goals as goal

pub returns-then-view_of : goal.returns-then-view_of
returns-then-view_of c =
    let e = c.args in
    first_kept e.m e.s e.a e.b e.apart _ _ _ _ _ c.value_of-x.ensures c.value_of-y.ensures c.address_of_sum.ensures.0 c.vacancy-set.ensures c.noting-then-view_of.result.of c.turned.ensures _ _ c.barring.ensures c.barring-then-view_of.ensures
    (λ s' g. let n = c.noting-then-view_of.ensures e.s s' g in ((c.noting.ensures e.s s' n.0).1, n.1))

pub returns : goal.returns
returns c =
    let e = c.args in
    second_kept e.m e.s e.a e.b e.apart _ _ _ _ _ c.value_of-x.ensures c.value_of-y.ensures c.address_of_sum.ensures.0 c.vacancy-set.ensures c.noting-3.result.of c.turned-2.ensures _ _ c.barring-2.ensures c.barring-3.ensures
    (λ s' g. let n = c.noting-3.ensures e.s s' g in ((c.noting-2.ensures e.s s' n.0).1, n.1))
