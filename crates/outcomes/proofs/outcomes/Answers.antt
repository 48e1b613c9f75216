-- `outcomes::outcomes` meets its contract.
-- Assumes nothing.
use mathlib.Core.Path.{refl}
use Rattle.trace_replay.proofs.Files.{good_formed}
use Rattle.outcomes.proofs.Told.{file_listed, file_refused}
use Rattle.outcomes.proofs.outcomes.Goals as goal

pub list_program-requires : goal.list_program-requires
list_program-requires c = (good_formed _ _ c.read.ensures c.in-Ok.is).program_formed

pub returns-in-Ok : goal.returns-in-Ok
returns-in-Ok c = file_listed _ _ _ _ _ c.read.ensures c.in-Ok.is _ _ _ _ c.list_program.ensures

pub returns-in-Err : goal.returns-in-Err
returns-in-Err c = file_refused _ _ _ _ _ c.read.ensures c.in-Err.is _ refl
