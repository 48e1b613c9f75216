-- `machine_form::message_test` meets its contract: its two parts.
-- Assumes nothing.
use mathlib.Core.Bool.{and-true}
use Rattle.program.specs.Tests.{all_of}
use Rattle.machine.specs.WellFormed.{message_test}
use Rattle.machine_form.proofs.message_test.Goals as goal

pub returns : goal.returns
unfolding message_test all_of
returns c = simp and-true
