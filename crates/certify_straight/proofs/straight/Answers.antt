-- `certify_straight::straight` meets its contract: one case for each kind of instruction.
-- Assumes nothing.
use Rattle.std.proofs.Common.{refl, arith}
use Rattle.program.proofs.Arrays.{length_mapped}
use Rattle.certify_straight.proofs.Plain.{halts_end, halts_op}
use Rattle.certify_straight.proofs.Walking.{op_rest, a_turn, turn_compute, turn_past, turn_lands, turn_branch, turn_fork, turn_fence, on_start, on_gone}
use Rattle.certify_straight.proofs.straight.Goals as goal

pub loop-n-init : goal.loop-n-init
loop-n-init c = on_start _ _ _ refl (search length_mapped depth 7)

pub returns-then-i : goal.returns-then-i
returns-then-i c = on_gone c.loop-n.invariant _ c.standing.ensures (halts_op _ _ _ refl c.if-i.true)

pub loop-n-preserved-then-i-lt8 : goal.loop-n-preserved-then-i-lt8
loop-n-preserved-then-i-lt8 c =
    let turn = a_turn c.operand_in-a.result c.operand_in-b.result c.loop-n.invariant c.step_over.ensures c.loop-n-test.true c.requires.short c.operand_in-a.ensures c.operand_in-b.ensures in
    turn_compute turn c.if-i-eq0.true _ c.computed.ensures

pub loop-n-preserved-else-i-lt8 : goal.loop-n-preserved-else-i-lt8
loop-n-preserved-else-i-lt8 c =
    let turn = a_turn c.operand_in-a.result c.operand_in-b.result c.loop-n.invariant c.step_over.ensures c.loop-n-test.true c.requires.short c.operand_in-a.ensures c.operand_in-b.ensures in
    turn_past turn c.if-i-eq0.true c.if-i-lt8.false

pub passed-by-requires : goal.passed-by-requires
passed-by-requires c =
    let turn = a_turn c.operand_in-a.result c.operand_in-b.result c.loop-n.invariant c.step_over.ensures c.loop-n-test.true c.requires.short c.operand_in-a.ensures c.operand_in-b.ensures in
    let h = turn_lands turn c.requires c.if-i-eq3.true in omega arith

pub overflow_add-n-then-both_ways-open : goal.overflow_add-n-then-both_ways-open
overflow_add-n-then-both_ways-open c =
    let turn = a_turn c.operand_in-a.result c.operand_in-b.result c.loop-n.invariant c.step_over.ensures c.loop-n-test.true c.requires.short c.operand_in-a.ensures c.operand_in-b.ensures in
    let h = turn_lands turn c.requires c.if-i-eq3.true in let p = c.passed-by.ensures.1.1 in omega arith

pub overflow_add-result : goal.overflow_add-result
overflow_add-result c =
    let turn = a_turn c.operand_in-a.result c.operand_in-b.result c.loop-n.invariant c.step_over.ensures c.loop-n-test.true c.requires.short c.operand_in-a.ensures c.operand_in-b.ensures in
    let h = turn_lands turn c.requires c.if-i-eq3.true in omega arith

pub overflow_add-result-then-both_ways-open : goal.overflow_add-result-then-both_ways-open
overflow_add-result-then-both_ways-open c =
    let turn = a_turn c.operand_in-a.result c.operand_in-b.result c.loop-n.invariant c.step_over.ensures c.loop-n-test.true c.requires.short c.operand_in-a.ensures c.operand_in-b.ensures in
    let h = turn_lands turn c.requires c.if-i-eq3.true in let p = c.passed-by.ensures.1.1 in omega arith

pub returns-then-both_ways-open : goal.returns-then-both_ways-open
returns-then-both_ways-open c =
    let turn = a_turn c.operand_in-a.result c.operand_in-b.result c.loop-n.invariant c.step_over.ensures c.loop-n-test.true c.requires.short c.operand_in-a.ensures c.operand_in-b.ensures in
    turn_fork turn c.if-i-eq3.true _ c.passed-by.ensures.1.0 c.passed-by.ensures.0 _ (rw (c.raise_cap-views.ensures, c.larger.ensures) refl) c.passed-by.ensures.1.1 _ c.standing-then-both_ways-open.ensures (record { other = _; held = c.earlier.result }) refl

pub overflow_add-n-then-i-eq3 : goal.overflow_add-n-then-i-eq3
overflow_add-n-then-i-eq3 c =
    let turn = a_turn c.operand_in-a.result c.operand_in-b.result c.loop-n.invariant c.step_over.ensures c.loop-n-test.true c.requires.short c.operand_in-a.ensures c.operand_in-b.ensures in
    let h = turn_lands turn c.requires c.if-i-eq3.true in let p = c.passed-by.ensures.1.1 in omega arith

pub loop-n-preserved-then-i-eq3 : goal.loop-n-preserved-then-i-eq3
loop-n-preserved-then-i-eq3 c =
    let turn = a_turn c.operand_in-a.result c.operand_in-b.result c.loop-n.invariant c.step_over.ensures c.loop-n-test.true c.requires.short c.operand_in-a.ensures c.operand_in-b.ensures in
    turn_branch turn c.if-i-eq3.true _ c.passed-by.ensures.1.0 c.passed-by.ensures.0 _ (rw (c.raise_cap-views.ensures, c.larger.ensures) refl)

pub loop-n-preserved : goal.loop-n-preserved
loop-n-preserved c =
    let turn = a_turn c.operand_in-a.result c.operand_in-b.result c.loop-n.invariant c.step_over.ensures c.loop-n-test.true c.requires.short c.operand_in-a.ensures c.operand_in-b.ensures in
    turn_fence turn (op_rest _ c.if-i.false c.if-i-eq0.false c.if-i-eq3.false) _ c.fenced-views.ensures

pub returns : goal.returns
returns c = on_gone c.loop-n.invariant _ c.standing-2.ensures (halts_end _ _ (let l = c.loop-n-test.false in omega arith))
