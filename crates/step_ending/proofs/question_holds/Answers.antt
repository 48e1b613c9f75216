-- `step_ending::question_holds` meets its contract.
-- Assumes nothing.
use Rattle.step.specs.Outcome.{question_holds}
use Rattle.step_ending.proofs.Asking.{askable}
use Rattle.step_ending.proofs.question_holds.Goals as goal

pub all_hold-requires : goal.all_hold-requires
all_hold-requires c = askable _ _ c.requires

pub returns : goal.returns
unfolding question_holds
returns c = c.all_hold.ensures
