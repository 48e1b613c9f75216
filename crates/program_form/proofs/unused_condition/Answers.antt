-- `program_form::unused_condition` meets its contract: its four bytes.
-- Assumes nothing.
use mathlib.Core.Bool.{and_assoc, and-true}
use Rattle.program.specs.Tests.{all_of}
use Rattle.program.specs.WellFormed.{unused_condition}
use Rattle.program_form.proofs.unused_condition.Goals as goal

pub returns : goal.returns
unfolding unused_condition all_of
returns c = simp (and_assoc, and-true)
