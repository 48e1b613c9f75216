-- `trace_replay::replay_from` meets its contract: the replay of the whole is that of the rest.
-- Assumes nothing.
use mathlib.Core.Path.{sym, ap, ◌∙◌}
use native.Mathlib.Omega.{arith}
use Rattle.trace_replay.specs.Answers.{replayed}
use Rattle.trace_replay.proofs.Records.{begins, at_end_lem, cut, full, unmarked, step_refused, step_taken}
use Rattle.trace_replay.proofs.replay_from.Goals as goal

pub loop-n-init : goal.loop-n-init
loop-n-init c = begins _ _ _ _ c.requires (omega arith) (omega arith)

pub marked_at-requires : goal.marked_at-requires
marked_at-requires c = full _ _ _ _ c.loop-n.invariant c.loop-n-test.true

pub returns-then-not-marked_at : goal.returns-then-not-marked_at
returns-then-not-marked_at c =
    (rw c.at.ensures at c.stopped.ensures)
    ∙ ap (replayed _) (sym (unmarked _ _ _ _ c.loop-n.invariant c.loop-n-test.true (sym c.marked_at.ensures ∙ c.if-not-marked_at.true)))

pub step_at-requires : goal.step_at-requires
step_at-requires c = full _ _ _ _ c.loop-n.invariant c.loop-n-test.true

pub rule_step-requires : goal.rule_step-requires
rule_step-requires c = c.loop-n.invariant.well

pub returns-in-Err : goal.returns-in-Err
returns-in-Err c =
    (rw c.at-in-Err.ensures at c.stopped-in-Err.ensures)
    ∙ ap (replayed _) (sym (step_refused _ _ _ _ c.loop-n.invariant c.loop-n-test.true (sym c.marked_at.ensures ∙ c.if-not-marked_at.false) _ c.step_at.ensures _ c.rule_step.ensures c.in-Err.is))

pub loop-n-preserved : goal.loop-n-preserved
loop-n-preserved c =
    step_taken _ _ _ _ c.loop-n.invariant c.loop-n-test.true (sym c.marked_at.ensures ∙ c.if-not-marked_at.false) _ c.step_at.ensures _ c.rule_step.ensures c.in-Ok.is

pub returns-then-trace-ne0 : goal.returns-then-trace-ne0
returns-then-trace-ne0 c =
    let i = c.loop-n.invariant in
    let w = i.whole in
    let e = c.if-trace-ne0.true in
    (rw c.at-then-trace-ne0.ensures at c.stopped-then-trace-ne0.ensures) ∙ ap (replayed _) (sym (cut _ _ _ _ i c.loop-n-test.false (omega arith)))

pub finished-requires : goal.finished-requires
finished-requires c = c.loop-n.invariant.well

pub returns : goal.returns
returns c =
    let i = c.loop-n.invariant in
    let w = i.last in
    let e = c.if-trace-ne0.false in
    c.finished.ensures ∙ ap (replayed _) (sym (at_end_lem _ _ _ _ i c.loop-n-test.false (omega arith)))
