-- `search::search_within` meets its contract.
-- Assumes nothing.
use mathlib.Core.Path.{ap, refl}
use Rattle.std.specs.Prelude.{Err}
use Rattle.trace_replay.proofs.Files.{good_formed}
use Rattle.search.proofs.Told.{area_short, area_long, file_refused}
use Rattle.search.proofs.search_within.Goals as goal

pub returns-then-area-lt480 : goal.returns-then-area-lt480
returns-then-area-lt480 c = area_short _ _ _ _ _ c.read.ensures c.in-Ok.is c.if-area-lt480.true _ (ap Err c.at.ensures)

pub search_program-requires : goal.search_program-requires
search_program-requires c = ((good_formed _ _ c.read.ensures c.in-Ok.is).program_formed, c.if-area-lt480.false)

pub returns-else-area-lt480 : goal.returns-else-area-lt480
returns-else-area-lt480 c = area_long _ _ _ _ _ c.read.ensures c.in-Ok.is c.if-area-lt480.false _ _ _ c.search_program.ensures.0 c.search_program.ensures.1

pub returns-in-Err : goal.returns-in-Err
returns-in-Err c = file_refused _ _ _ _ _ c.read.ensures c.in-Err.is _ refl
