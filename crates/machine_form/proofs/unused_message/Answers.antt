-- `machine_form::unused_message` meets its contract: its three bytes.
-- Assumes nothing.
use mathlib.Core.Bool.{and_assoc, and-true}
use Rattle.program.specs.Tests.{all_of}
use Rattle.machine.specs.WellFormed.{unused_message}
use Rattle.machine_form.proofs.unused_message.Goals as goal

pub returns : goal.returns
unfolding unused_message all_of
returns c = simp (and_assoc, and-true)
