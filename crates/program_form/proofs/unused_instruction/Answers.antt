-- `program_form::unused_instruction` meets its contract: its seven bytes.
-- Assumes nothing.
use mathlib.Core.Bool.{and_assoc, and-true}
use Rattle.program.specs.Tests.{all_of}
use Rattle.program.specs.WellFormed.{unused_instruction}
use Rattle.program_form.proofs.unused_instruction.Goals as goal

pub returns : goal.returns
unfolding unused_instruction all_of
returns c = simp (and_assoc, and-true)
