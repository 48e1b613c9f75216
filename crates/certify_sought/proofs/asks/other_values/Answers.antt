-- `certify_sought::asks::other_values` meets its contract.
-- Assumes nothing.
use native.Mathlib.Omega.{arith}
use Rattle.certify_sought.proofs.Asking.{values_first, values_other, values_same, values_all}
use Rattle.certify_sought.proofs.asks.other_values.Goals as goal
use Rattle.certify_sought.proofs.asks.other_values.Goals.{then-w-l, else-w-l}

pub loop-u-init : goal.loop-u-init
loop-u-init c = (c.after-u.ensures.later, values_first c.args.m _ _ _ _ _ c.after-u.ensures)

pub loop-u-preserved : goal.loop-u-preserved
loop-u-preserved c =
    let a = c.args in
    let i = c.loop-u.invariant in
    let f = i.0 in
    let g = c.after-u-in-loop-u.ensures.later in (
      omega arith,
      elim c.if-w-l.branch [
        | then-w-l w ↦ rw w.care-is (values_other a.m _ _ _ _ _ _ i.1 c.message_at-w.result c.message_at-w.ensures c.after-u-in-loop-u.ensures (omega (arith, c.message_at-w.type_inv)) _ w.joined-care.ensures)
        | else-w-l w ↦ rw w.care-is (values_same a.m _ _ _ _ _ _ i.1 c.message_at-w.result c.message_at-w.ensures c.after-u-in-loop-u.ensures w.if-w-l.false)
      ],
    )

pub returns : goal.returns
returns c = values_all c.args.m _ _ _ _ _ c.loop-u.invariant.1 c.loop-u-test.false
