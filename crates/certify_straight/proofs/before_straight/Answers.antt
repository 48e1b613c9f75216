-- `certify_straight::before_straight` meets its contract: step by step back, the last first.
-- Assumes nothing.
use Rattle.std.proofs.Common.{refl, arith}
use Rattle.program.proofs.Arrays.{length_mapped}
use Rattle.certify_straight.proofs.Walking.{one_compute_back, one_branch_back, one_fence_back, back_start, back_end}
use Rattle.certify_straight.proofs.before_straight.Goals as goal

pub loop-j-init : goal.loop-j-init
loop-j-init c = (search length_mapped depth 7, (c.requires, λ c' s z g. back_start c' s z _ _ _ g))

pub loop-j-preserved-then-e-eq0 : goal.loop-j-preserved-then-e-eq0
loop-j-preserved-then-e-eq0 c =
    let b = c.loop-j.invariant.1 in
    let h = b.0 in
    (c.before_compute.ensures.of_len, (omega arith, λ c' s z g. one_compute_back _ _ _ _ c.loop-j-test.true c.if-e-eq0.true c.before_compute.ensures.agreeing_but c' s z _ (b.1 c' s z g)))

pub loop-j-preserved-then-e-eq3 : goal.loop-j-preserved-then-e-eq3
loop-j-preserved-then-e-eq3 c =
    let b = c.loop-j.invariant.1 in
    let h = b.0 in
    (c.before_branch.ensures.of_len, (omega arith, λ c' s z g. one_branch_back _ _ _ _ c.loop-j-test.true c.if-e-eq3.true c.before_branch.ensures.agreeing c' s z _ (b.1 c' s z g)))

pub loop-j-preserved : goal.loop-j-preserved
loop-j-preserved c =
    let b = c.loop-j.invariant.1 in
    let h = b.0 in
    (c.loop-j.invariant.0, (omega arith, λ c' s z g. one_fence_back _ _ _ _ c.loop-j-test.true c.if-e-eq0.false c.if-e-eq3.false refl c' s z _ (b.1 c' s z g)))

pub returns : goal.returns
returns c = λ c' s y s' g. back_end c' s _ _ _ _ _ (let l = c.loop-j-test.false in omega arith) (c.loop-j.invariant.1.1 c' s y g) s'
