-- `rules_stores::store_done` meets its contract.
-- Assumes nothing.
use native.Mathlib.Omega.{arith}
use Rattle.rules_stores.proofs.store_done.Goals as goal

pub stored-requires : goal.stored-requires
stored-requires c = rw c.take_out.ensures (omega arith)

pub returns : goal.returns
returns c = rw (c.stored.ensures, c.take_out.ensures)
