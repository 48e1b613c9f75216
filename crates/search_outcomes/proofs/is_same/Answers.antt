-- `search_outcomes::is_same` meets its contract: slices that compare as equal are equal.
-- Assumes nothing.
use Rattle.search_outcomes.proofs.Comparing.{key_same}
use Rattle.search_outcomes.proofs.is_same.Goals as goal

pub returns : goal.returns
returns c = key_same c.args.at c.args.area.now c.args.key.now _ c.eq.ensures
