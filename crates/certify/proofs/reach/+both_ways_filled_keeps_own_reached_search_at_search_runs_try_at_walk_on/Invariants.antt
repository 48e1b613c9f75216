-- The cycle of `certify::reach::search_runs` meets its contracts: each instruction moves the position on.
-- Assumes nothing.
use mathlib.Core.Path.{◌≡◌}
use Prim.Native.Nat.{◌+◌, ◌-◌, ◌*◌, ◌≤◌}
use Rattle.certify_cares.specs.Cares.{Covers}
use Rattle.certify_sought.specs.Numbers.{certifying, Better}
use Rattle.certify_sought.specs.Aim.{Meets}
use Rattle.certify.specs.Search.{Missed}
use Rattle.certify.proofs.reach.+both_ways_filled_keeps_own_reached_search_at_search_runs_try_at_walk_on.Given as goal

abbrev pub decreases-walk_on : goal.decreases-walk_on
decreases-walk_on l = 5 * (20 - l.s.position) + 4

abbrev pub decreases-try_at : goal.decreases-try_at
decreases-try_at l = 5 * (20 - l.s.position) + 2

abbrev pub decreases-search_runs : goal.decreases-search_runs
decreases-search_runs l = 5 * (20 - l.s.position) + 5

abbrev pub decreases-search_at : goal.decreases-search_at
decreases-search_at l = 5 * (20 - l.s.position) + 3

abbrev pub decreases-own_reached : goal.decreases-own_reached
decreases-own_reached l = 5 * (20 - l.s.position) + 1

abbrev pub decreases-keeps : goal.decreases-keeps
decreases-keeps l = 5 * (20 - l.s.position) + 1

abbrev pub decreases-filled : goal.decreases-filled
decreases-filled l = 5 * (20 - l.s.position) + 2

abbrev pub decreases-both_ways : goal.decreases-both_ways
decreases-both_ways l = 5 * (20 - l.s.position) + 3

abbrev pub invariant-search_at-loop-t : goal.invariant-search_at-loop-t
invariant-search_at-loop-t l =
    Missed l.c l.i l.m l.s l.x l.q l.r 0 l.t × (Better l.q.from (Meets l.c l.i l.m l.s l.q.hole) l.initial.r.met l.r.met × (Covers l.r.cares.of l.initial.r.cares.of × ((l.t ≤ 17) × (l.q ≡ certifying → l.r.met ≡ l.q.met))))

abbrev pub decreases-search_at-loop-t : goal.decreases-search_at-loop-t
decreases-search_at-loop-t l =
    17 - l.t
