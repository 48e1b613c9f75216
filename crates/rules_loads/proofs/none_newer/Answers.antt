-- `rules_loads::none_newer` meets its contract.
-- Assumes nothing.
use Rattle.rules_loads.proofs.Newest.{none_between, none_newest}
use Rattle.rules_loads.proofs.none_newer.Goals as goal

pub returns-then-v-t : goal.returns-then-v-t
returns-then-v-t c = none_between _ _ _ _ c.if-v-t.true

pub returns : goal.returns
returns c = none_newest _ _ _ _ _ _ c.times_at.ensures (rw c.up_to-seen.ensures at c.newest.ensures)
