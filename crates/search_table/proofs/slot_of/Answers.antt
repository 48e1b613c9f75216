-- `search_table::slot_of` meets its contract: a remainder is below the divisor.
-- Assumes nothing.
use native.Mathlib.Nat.{mod-lt}
use Rattle.search_table.proofs.slot_of.Goals as goal

pub returns : goal.returns
returns c = mod-lt _ c.requires
