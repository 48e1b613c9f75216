-- `machine_form::own_entry` meets its contract: time k + 1 is bit k.
-- Assumes nothing.
use Rattle.machine_form.proofs.Loops.{has_place}
use Rattle.machine_form.proofs.own_entry.Goals as goal

pub returns : goal.returns
returns c = rw has_place
