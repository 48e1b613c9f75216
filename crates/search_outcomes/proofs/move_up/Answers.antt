-- `search_outcomes::move_up` meets its contract: the bytes are copied within the area.
-- Assumes nothing.
use mathlib.Core.Path.{◌∙◌}
use Rattle.search_outcomes.proofs.Writing.{copy_within_put}
use Rattle.search_outcomes.proofs.move_up.Goals as goal

pub returns : goal.returns
returns c = let a = c.args in c.copy_within.ensures.after ∙ copy_within_put a.start a.end a.w a.area.now c.requires.0 c.requires.1
