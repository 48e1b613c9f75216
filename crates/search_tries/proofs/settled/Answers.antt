-- `search_tries::settled` meets its contract.
-- Assumes nothing.
use native.Mathlib.Omega.{arith}
use Rattle.machine.proofs.Effects.{effect, effect_time}
use Rattle.step.proofs.Stepping.{settle_free}
use Rattle.search_tries.proofs.Beaten.{found_settles, lost_settles, narrowed_worth}
use Rattle.search_tries.proofs.settled.Goals as goal

pub returns-then-is_empty : goal.returns-then-is_empty
returns-then-is_empty c = (settle_free _ _ _ _ _ c.is_empty.ensures c.if-is_empty.true, c.requires.3)

pub returns-then-found-eq0 : goal.returns-then-found-eq0
returns-then-found-eq0 c =
    (found_settles _ _ _ _ _ (rw c.certified.ensures at c.search_runs-found.ensures.found) c.if-found-eq0.true, c.requires.3)

pub narrowed-requires : goal.narrowed-requires
narrowed-requires c = let l = effect_time (effect _ _ _ _ _ c.requires.2) in let h = c.requires.0.room in omega arith

pub returns : goal.returns
returns c =
    let f = (rw c.certified.ensures at c.search_runs-found.ensures.found) in
    (lost_settles _ _ _ _ _ f c.if-found-eq0.false, narrowed_worth _ _ _ _ c.requires.1 c.requires.0.room _ _ _ c.requires.2 _ f c.if-found-eq0.false _ _ c.requires.3 c.narrowed.ensures)
