-- `search_outcomes::is_smaller` meets its contract: the order of slices is that of outcomes.
-- Assumes nothing.
use mathlib.Core.Path.{◌∙◌}
use Rattle.search_outcomes.proofs.Comparing.{key_smaller}
use Rattle.search_outcomes.proofs.is_smaller.Goals as goal

pub returns : goal.returns
returns c = c.is_lt.ensures ∙ key_smaller c.args.at c.args.area.now c.args.key.now _ c.cmp.ensures
