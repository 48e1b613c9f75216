-- `search_tries::tries_of` meets its contract.
-- Assumes nothing.
use native.Mathlib.Omega.{arith}
use lib.Count.{ones-le}
use Rattle.search_tries.proofs.Worth.{what_is_worth}
use Rattle.search_tries.proofs.tries_of.Goals as goal

pub overflow_add-s : goal.overflow_add-s
overflow_add-s c = let h = ones-le _ _ c.requires.0.promises_in in let r = c.requires.0.room in omega (arith, h, r)

pub returns : goal.returns
returns c = what_is_worth _ _ _ _ c.requires.1 _ c.at_zero.ensures _ c.later_times.ensures _ c.fewer_stores.ensures
