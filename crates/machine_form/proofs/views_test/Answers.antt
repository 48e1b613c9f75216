-- `machine_form::views_test` meets its contract: its six views.
-- Assumes nothing.
use mathlib.Core.Bool.{and_assoc, and-true}
use Rattle.program.specs.Tests.{all_of}
use Rattle.machine.specs.WellFormed.{views_test}
use Rattle.machine_form.proofs.views_test.Goals as goal

pub returns : goal.returns
unfolding views_test all_of
returns c = simp (and_assoc, and-true)
