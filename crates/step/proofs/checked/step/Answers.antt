-- `step::checked::step` meets its contract: well formed or not.
-- Assumes nothing.
use mathlib.Core.Path.{◌∙◌, ap, sym}
use Rattle.certify_runs.proofs.Ready.{formed}
use Rattle.step.specs.Answers.{stepped}
use Rattle.step.proofs.Stepping.{step_20, step_formed}
use Rattle.step.proofs.checked.step.Goals as goal

pub rule_step-requires : goal.rule_step-requires
rule_step-requires c = formed _ _ _ c.both_formed.ensures c.if-both_formed.true

pub returns-then-both_formed : goal.returns-then-both_formed
returns-then-both_formed c = c.rule_step.ensures ∙ ap stepped (sym (step_formed _ _ _ _ c.both_formed.ensures c.if-both_formed.true))

pub returns-else-both_formed : goal.returns-else-both_formed
returns-else-both_formed c = ap stepped (sym (step_20 _ _ _ _ c.both_formed.ensures c.if-both_formed.false))
