-- `search_tries::step_at` meets its contract.
-- Assumes nothing.
use Rattle.search_tries.proofs.Worth.{at_time, at_key}
use mathlib.Core.Path.{◌∙◌}
use Rattle.search_tries.proofs.step_at.Goals as goal

pub returns-then-k-lt17 : goal.returns-then-k-lt17
returns-then-k-lt17 c = c.execution.ensures ∙ at_time _ _ c.if-k-lt17.true

pub returns : goal.returns
returns c = c.promise.ensures ∙ at_key _ _ c.if-k-lt17.false
