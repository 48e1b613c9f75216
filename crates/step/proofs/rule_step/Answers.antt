-- `step::rule_step` meets its contract.
-- Assumes nothing.
use Rattle.program.proofs.PassedOn.{passed_on}
use Rattle.step.proofs.Stepping.{rule_21, rule_taken, rule_refused, thread_ready}
use Rattle.certify_runs.proofs.Ready.{of_four}
use Rattle.step.specs.Answers.{stepped}
use mathlib.Core.Path.{sym, ap, ◌∙◌}
use Rattle.step.proofs.rule_step.Goals as goal

pub returns-then-p-i : goal.returns-then-p-i
returns-then-p-i c = ap stepped (sym (rule_21 _ _ _ c.if-p-i.true))

pub code_of-requires : goal.code_of-requires
code_of-requires c = of_four _ _ c.requires _ c.if-p-i.false

pub thread_of-requires : goal.thread_of-requires
thread_of-requires c = of_four _ _ c.requires _ c.if-p-i.false

pub thread_step-requires : goal.thread_step-requires
thread_step-requires c = thread_ready _ _ c.requires _ c.if-p-i.false _ _ c.code_of.ensures c.thread_of.ensures

pub moved-requires : goal.moved-requires
moved-requires c = of_four _ _ c.requires _ c.if-p-i.false

pub returns-in_err-s : goal.returns-in_err-s
returns-in_err-s c = passed_on _ _ c.from_residual.ensures.1 ∙ rule_refused _ _ _ c.if-p-i.false _ _ _ c.code_of.ensures c.thread_of.ensures c.thread_step.ensures c.in_err-s.was

pub returns : goal.returns
returns c =
    rule_taken _ _ _ c.if-p-i.false _ _ _ c.code_of.ensures c.thread_of.ensures c.thread_step.ensures c.in_ok-s.was _ c.memory_after.ensures _ c.moved.ensures
