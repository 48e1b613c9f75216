-- `program_form::condition_test` meets its contract: all pass where none fails.
-- Assumes nothing.
use Rattle.program.specs.WellFormed.{condition_test}
use Rattle.program.proofs.Reading.{none_test}
use Rattle.program_form.proofs.condition_test.Goals as goal

pub returns : goal.returns
unfolding condition_test
returns c = none_test _ c.is_none.ensures c.condition_fault.ensures
