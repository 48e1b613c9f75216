-- `program_form::instruction_test` meets its contract: all pass where none fails.
-- Assumes nothing.
use Rattle.program.specs.WellFormed.{instruction_test}
use Rattle.program.proofs.Reading.{none_test}
use Rattle.program_form.proofs.instruction_test.Goals as goal

pub returns : goal.returns
unfolding instruction_test
returns c = none_test _ c.is_none.ensures c.instruction_fault.ensures
