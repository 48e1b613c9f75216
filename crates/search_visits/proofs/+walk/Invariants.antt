-- `search_visits::walk` meets its contract.
-- Assumes nothing.
use Rattle.search_visits.proofs.Loops.{ahead_of, AtThread, AtStep}
use Rattle.search_arrivals.proofs.Known.{Trusted}
use Rattle.step.specs.Inner.{potential}
use Prim.Native.Nat.{◌-◌}
use Rattle.search_visits.proofs.+walk.Given as goal

abbrev pub decreases-walk : goal.decreases-walk
decreases-walk l = potential l.p l.x

abbrev pub invariant-loop-k : goal.invariant-loop-k
invariant-loop-k l =
    AtStep l.p l.aim l.initial.y l.depth (ahead_of l.p l.aim l.initial.y l.i l.initial.k.next l.initial.rest (l.initial.area, l.initial.sheet)) (l.initial.area, l.initial.sheet) l.i l.c l.s l.w l.t l.y (l.area, l.sheet) l.rest l.k × Trusted l.p l.aim (l.area, l.sheet) l.initial.table l.table

abbrev pub decreases-loop-k : goal.decreases-loop-k
decreases-loop-k l =
    4113 - l.k.next

abbrev pub invariant-loop-i : goal.invariant-loop-i
invariant-loop-i l =
    AtThread l.p l.aim l.initial.y l.depth l.left (l.initial.area, l.initial.sheet) l.y (l.area, l.sheet) l.rest l.i × Trusted l.p l.aim (l.area, l.sheet) l.initial.table l.table

abbrev pub decreases-loop-i : goal.decreases-loop-i
decreases-loop-i l =
    4 - l.i
