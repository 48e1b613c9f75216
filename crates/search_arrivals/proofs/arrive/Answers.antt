-- `search_arrivals::arrive` meets its contract.
-- Assumes nothing.
use native.Mathlib.Omega.{arith}
use Rattle.search_arrivals.specs.Visits.{Meets}
use Rattle.search_arrivals.proofs.Turns.{out_of_budget, at_the_end}
use Rattle.search_arrivals.proofs.Known.{known_told, seen_known}
use Rattle.search_arrivals.proofs.arrive.Goals as goal

pub returns-then-left-eq0 : goal.returns-then-left-eq0
unfolding Meets
returns-then-left-eq0 c = λ n holds. out_of_budget _ _ _ _ _ n c.if-left-eq0.true

pub returns-then-first-eq4 : goal.returns-then-first-eq4
returns-then-first-eq4 c = λ n holds. rw c.at_end.ensures (at_the_end _ _ _ _ _ _ n c.if-left-eq0.false _ c.next_open-first.ensures c.if-first-eq4.true c.requires)

pub returns-then-table-lt-SLOT : goal.returns-then-table-lt-SLOT
unfolding Meets
returns-then-table-lt-SLOT c =
    λ n holds. record { some_left = c.if-left-eq0.false; next = c.next_open-first.ensures; not_ended = c.if-first-eq4.false; has_slot = λ l. absurd (let h = c.if-table-lt-SLOT.true in omega arith) }

pub returns-then-seen-gt0 : goal.returns-then-seen-gt0
unfolding Meets
returns-then-seen-gt0 c =
    λ n holds. rw c.after_known.ensures (known_told _ _ _ _ _ n _ (seen_known c.requires holds c.look_up-seen.result c.look_up-seen.ensures c.if-seen-gt0.true))

pub returns : goal.returns
unfolding Meets
returns c =
    λ n holds. record { some_left = c.if-left-eq0.false; next = c.next_open-first.ensures; not_ended = c.if-first-eq4.false; has_slot = λ l. c.look_up-seen.ensures.within }
