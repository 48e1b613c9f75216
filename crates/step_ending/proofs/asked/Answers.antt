-- `step_ending::asked` meets its contract: a machine that is not complete decides.
-- Assumes nothing.
use mathlib.Core.Path.{sym, ◌∙◌}
use Rattle.step.specs.Outcome.{asked}
use Rattle.step_ending.proofs.asked.Goals as goal

pub returns-then-complete : goal.returns-then-complete
unfolding asked
returns-then-complete c = rw (c.question_holds.ensures, sym c.complete.ensures ∙ c.if-complete.true)

pub returns-else-complete : goal.returns-else-complete
unfolding asked
returns-else-complete c = let not_yet = sym c.complete.ensures ∙ c.if-complete.false in rw (c.complete.ensures, not_yet)
