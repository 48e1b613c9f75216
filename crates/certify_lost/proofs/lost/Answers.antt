-- `certify_lost::lost` meets its contract.
-- Assumes nothing.
use Rattle.certify_lost.proofs.Losing.{no_store, passed_none, passed_more, passed_all}
use Rattle.certify_lost.proofs.lost.Goals as goal
use Rattle.certify_lost.proofs.lost.Goals.{then-is_store+in_ok-rests, else-is_store}

pub loop-at-init : goal.loop-at-init
loop-at-init c = passed_none _ _ _ _

pub loop-at-preserved : goal.loop-at-preserved
loop-at-preserved c =
    passed_more _ _ _ _ _ _ _ _ c.loop-at.invariant _ c.instr_at-x.ensures c.if-is_store.rests
    (elim c.if-is_store.branch [
      | then-is_store+in_ok-rests w ↦ rw w.rests-is w.in_ok-rests.ensures
      | else-is_store w ↦ rw w.rests-is (no_store _ _ _ _ _ _ (c.is_store.ensures w.if-is_store.false))
    ])
    _ c.passing-v.ensures _ c.written-set.ensures _ c.farther-far.ensures

pub returns : goal.returns
returns c = passed_all _ _ _ _ _ _ _ _ c.loop-at.invariant c.loop-at-test.false
