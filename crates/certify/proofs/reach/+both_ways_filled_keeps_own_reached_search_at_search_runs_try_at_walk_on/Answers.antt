-- The cycle of `certify::reach::search_runs` meets its contracts: each instruction moves the position on.
-- Assumes nothing.
use Rattle.std.proofs.Common.{rules, tests}
use mathlib.Core.Bool.{not}
use mathlib.Core.Path.{◌≡◌, refl, sym, ap, subst, ◌∙◌}
use mathlib.Core.Logic.{inl}
use native.Mathlib.Nat.{mod-lt}
use native.Mathlib.Omega.{arith}
use lib.Dec.{lit<}
use Rattle.program.proofs.Arrays.{length_mapped}
use Rattle.program.proofs.Counts.{there}
use Rattle.machine.proofs.Cases.{ruled_done}
use Rattle.machine.proofs.Effects.{effect}
use Rattle.certify_runs.specs.Below.{Thread}
use Rattle.certify_runs.specs.Runs.{done}
use Rattle.certify_tried.specs.declared.Tried.{Tried}
use Rattle.certify_sought.specs.Numbers.{certifying, same}
use Rattle.certify.specs.Search.{Went}
use Rattle.certify_straight.specs.Straight.{here}
use Rattle.certify_runs.proofs.Ready.{ready_after, ready_as, ready_own, reach_byte}
use Rattle.certify_straight.proofs.Plain.{leads_ready, walked_leads}
use Rattle.certify_sought.proofs.Numbers.{better_on, emptied_better}
use Rattle.certify.proofs.Finding.{covers_self, covers_on, found_over}
use Rattle.certify.proofs.Filling.{fill_no_hole, fill_none, fill_unsought, fill_here, fill_fails, alone_kept, alone_lost, hole_time, trying_filled, keeps_refused, keeps_done}
use Rattle.certify.proofs.Missing.{knows_none, missed_none, missed_on, went_refused, went_hopeless, went_found, went_resumed, resumed_same, resumed_better, noted_met}
use Rattle.certify.proofs.Owning.{owns_none, owns_untried, owns_stuck, owns_better, owns_on}
use Rattle.certify.proofs.Losing.{fruitless_found}
use Rattle.certify.proofs.Blind.{blind_found}
use Rattle.certify.proofs.Showing.{unmet_zero, still_unmet, filled_none, shows_none, shows_stop, shows_walked, shows_missed, shows_emptied, shows_resumed, shows_stored, shows_tried, shows_owned}
use Rattle.certify.proofs.Forking.{fork_other, both_found, ended_further, ended_forked}
use Rattle.certify.proofs.Reaching.{reach_end, fills_meets, tried_meets, owns_meets, reach_all, straight_kept, straight_better, straight_found, further_by, further_own}
use Rattle.certify.proofs.reach.+both_ways_filled_keeps_own_reached_search_at_search_runs_try_at_walk_on.Goals as goal
use Rattle.certify.proofs.reach.+both_ways_filled_keeps_own_reached_search_at_search_runs_try_at_walk_on.Goals.{search_at-then-not-hopeless+else-ended, search_at-else-not-hopeless}

pub both_ways-straight-w-requires : goal.both_ways-straight-w-requires
both_ways-straight-w-requires t c =
    c.requires.0.0.code_ok

pub both_ways-search_runs-r-requires : goal.both_ways-search_runs-r-requires
both_ways-search_runs-r-requires t c =
    let w = c.straight-w.ensures in
    let l = ended_further _ w.0 w.1.0 c.requires.0.1.1 in
    let low = c.requires.0.1.0 in
    let short = c.requires.0.0.code_ok.short in
    (omega (arith, c.decreases), leads_ready (walked_leads w.1.0) c.requires.0.0)

pub both_ways-returns-then-ended : goal.both_ways-returns-then-ended
both_ways-returns-then-ended t c =
    let w = c.straight-w.ensures.1.0 in record { found = found_over _ _ _ _ _ (straight_better _ _ _ _ _ (walked_leads w) c.args.q c.search_runs-r.ensures.found.better) (c.ended.ensures.0 c.if-ended.true); shows = shows_walked c.requires.0.0.code_ok.short c.requires.1 w c.search_runs-r.result c.search_runs-r.ensures.shows _ c.passed.ensures }

pub both_ways-search_runs-o-requires : goal.both_ways-search_runs-o-requires
both_ways-search_runs-o-requires t c =
    let w = c.straight-w.ensures in
    let l = fork_other _ _ _ _ _ _ (ended_forked c.in-Some.is w.0) in
    let low = c.requires.0.1.0 in
    let short = c.requires.0.0.code_ok.short in
    let at = ap (λ (v : Thread). v.position) c.at_position.ensures in
    (omega (arith, c.decreases), ready_as (leads_ready (walked_leads w.1.0) c.requires.0.0) (ap (λ (v : Thread). v.promises) c.at_position.ensures))

pub both_ways-overflow_sub-w : goal.both_ways-overflow_sub-w
both_ways-overflow_sub-w t c =
    let h = (ended_forked c.in-Some.is c.straight-w.ensures.0).some_step in omega arith

pub both_ways-returns-then-eq : goal.both_ways-returns-then-eq
both_ways-returns-then-eq t c =
    let w = c.straight-w.ensures in
    let f = ended_forked c.in-Some.is w.0 in record { found = both_found _ _ _ _ _ _ f _ _ (walked_leads w.1.0) c.args.q _ c.search_runs-r.ensures.found _ c.at_position.ensures _ (rw c.after.ensures at c.search_runs-o.ensures.found) (search (rules, tests)) _ _ c.and.ensures (λ s'. c.before_straight.ensures _ _ _ s' f.walked); shows = shows_none c.args.q _ (λ e. still_unmet c.args.q e _ _ refl c.search_runs-r.ensures.found.better (c.ended.ensures.1 c.if-ended.false)) }

pub both_ways-before_straight-requires-2 : goal.both_ways-before_straight-requires-2
both_ways-before_straight-requires-2 t c =
    c.straight-w.ensures.1.1

pub both_ways-returns : goal.both_ways-returns
both_ways-returns t c =
    record { found = straight_found _ _ _ _ _ (walked_leads c.straight-w.ensures.1.0) c.args.q _ c.search_runs-r.ensures.found _ (λ s'. c.before_straight-2.ensures _ _ _ s' c.straight-w.ensures.1.0); shows = shows_none c.args.q _ (λ e. still_unmet c.args.q e _ _ refl c.search_runs-r.ensures.found.better (c.ended.ensures.1 c.if-ended.false)) }

pub filled-returns-then-not-has : goal.filled-returns-then-not-has
filled-returns-then-not-has t c =
    fill_no_hole _ _ _ _ _ c.args.q _ _ c.has.ensures (ap not c.if-not-has.true)

pub filled-returns-then-not-seeks : goal.filled-returns-then-not-seeks
filled-returns-then-not-seeks t c =
    fill_unsought _ _ _ _ _ c.args.q _ _ _ _ c.in-Store.is _ c.own_message-w.ensures _ (rw c.number_of-number.ensures at c.seeks.ensures.1) (ap not c.if-not-seeks.true)

pub filled-below_time-requires : goal.filled-below_time-requires
filled-below_time-requires t c =
    rw c.own_message-w.ensures (mod-lt _ (lit< tt))

pub filled-returns-then-below_time : goal.filled-returns-then-below_time
filled-returns-then-below_time t c =
    fill_here _ _ _ _ _ c.args.q _ _ _ _ c.in-Store.is _ c.own_message-w.ensures _ refl (omega (arith, c.own_message-w.type_inv)) (rw c.number_of-number.ensures at (c.seeks.ensures.0 (c.if-not-seeks.false))) _ (rw c.number_of-number.ensures at c.with.ensures) (alone_kept c.args.c _ c.args.m _ _ _ _ _ _ c.own_message-w.ensures _ (rw (c.view_of.ensures, c.view_of-then-s-eq1.ensures) at c.below_time.ensures) c.requires.ready.promises_in c.requires.ready.room (search (length_mapped, c.well_formed.1.1.0) depth 7) _ c.has.ensures (ap not c.if-not-has.false) c.if-s-eq1.true c.if-below_time.true)

pub filled-returns-then-s-eq1 : goal.filled-returns-then-s-eq1
filled-returns-then-s-eq1 t c =
    fill_fails _ _ _ _ _ c.args.q _ _ _ _ c.in-Store.is _ c.own_message-w.ensures _ refl (λ s' rests rep p. alone_lost c.args.c _ c.args.m _ _ _ _ _ _ c.own_message-w.ensures _ (rw (c.view_of.ensures, c.view_of-then-s-eq1.ensures) at c.below_time.ensures) c.if-below_time.false _ s' rests.under (λ o a' d' is. rep o a' d' (c.in-Store.is ∙ is)) p)

pub filled-fill-requires : goal.filled-fill-requires
filled-fill-requires t c =
    hole_time _ _ _ _ c.requires _ _ c.has.ensures (ap not c.if-not-has.false)

pub filled-keeps-then-requires : goal.filled-keeps-then-requires
filled-keeps-then-requires t c =
    (omega (arith, c.decreases), (trying_filled _ _ c.requires c.fill.ensures c.in-Store.is, record { mode = _; a = _; d = _; is_store = refl }))

pub filled-returns-then-then-eq0 : goal.filled-returns-then-then-eq0
filled-returns-then-then-eq0 t c =
    fill_here _ _ _ _ _ c.args.q _ _ _ _ c.in-Store.is _ c.own_message-w.ensures _ c.fill.ensures (omega (arith, c.own_message-w.type_inv)) (rw c.number_of-number.ensures at (c.seeks.ensures.0 (c.if-not-seeks.false))) _ (rw c.number_of-number.ensures at c.with.ensures) (c.keeps-then.ensures.is_kept c.if-then-eq0.true)

pub filled-returns-else-then-eq0 : goal.filled-returns-else-then-eq0
filled-returns-else-then-eq0 t c =
    fill_fails _ _ _ _ _ c.args.q _ _ _ _ c.in-Store.is _ c.own_message-w.ensures _ c.fill.ensures (λ s' rests rep p. c.keeps-then.ensures.is_lost c.if-then-eq0.false s' rests (λ o a' d' is. rep o a' d' (c.in-Store.is ∙ is)) p)

pub filled-returns-in-Load : goal.filled-returns-in-Load
filled-returns-in-Load t c =
    fill_none _ _ _ _ _ c.args.q _ (λ y. rw c.in-Load.is)

pub filled-returns-in-Compute : goal.filled-returns-in-Compute
filled-returns-in-Compute t c =
    fill_none _ _ _ _ _ c.args.q _ (λ y. rw c.in-Compute.is)

pub filled-returns-in-Branch : goal.filled-returns-in-Branch
filled-returns-in-Branch t c =
    fill_none _ _ _ _ _ c.args.q _ (λ y. rw c.in-Branch.is)

pub filled-returns-in-Fence : goal.filled-returns-in-Fence
filled-returns-in-Fence t c =
    fill_none _ _ _ _ _ c.args.q _ (λ y. rw c.in-Fence.is)

pub keeps-execute-requires : goal.keeps-execute-requires
keeps-execute-requires t c =
    let w = c.requires.0 in (reach_byte _ _ _ _ w, w.ready.room)

pub keeps-returns-in-Err : goal.keeps-returns-in-Err
keeps-returns-in-Err t c =
    keeps_refused _ _ _ _ _ _ c.requires.1 _ c.execute.ensures c.in-Err.is _

pub keeps-search_runs-requires : goal.keeps-search_runs-requires
keeps-search_runs-requires t c =
    let d = ruled_done _ _ c.execute.ensures c.in-Ok.is in let f = further_by _ _ _ _ c.requires.0 _ _ d in (omega (arith, c.decreases), ready_after c.requires.0.ready (effect _ _ _ _ _ d))

pub keeps-returns-in-Ok : goal.keeps-returns-in-Ok
keeps-returns-in-Ok t c =
    keeps_done _ _ _ _ _ _ c.requires.1 _ c.execute.ensures c.in-Ok.is _ (rw c.certified.ensures at c.search_runs.ensures.found)

pub own_reached-returns-then-not-appending : goal.own_reached-returns-then-not-appending
own_reached-returns-then-not-appending t c =
    record { found = (owns_untried _ _ _ _ _ c.args.q _ _ c.requires.1 (ap not c.if-not-appending.true), λ n u. covers_self _); shows_own = λ e z. unmet_zero c.args.q e _ refl z }

pub own_reached-own_store-requires : goal.own_reached-own_store-requires
own_reached-own_store-requires t c =
    let w = c.requires.0 in
    let h = reach_byte _ _ _ _ w in
    let l = w.ready.code_ok.short in
    let q = rw c.in-Store.is at h in
    (omega arith, (c.requires.1.room (c.if-not-appending.false), w.ready.promises_in))

pub own_reached-returns-in_default : goal.own_reached-returns-in_default
own_reached-returns-in_default t c =
    let asked = c.own_asks.ensures in record { found = (owns_stuck _ _ _ _ _ c.args.q c.args.k _ _ _ c.in-Store.is (c.requires.1.room (c.if-not-appending.false)) _ c.own_store.ensures _ asked.place (asked.value refl) c.in_default.is, λ n u. record { agreeing = asked.besides }); shows_own = λ e z. unmet_zero c.args.q e _ refl z }

pub own_reached-append-requires : goal.own_reached-append-requires
own_reached-append-requires t c =
    c.requires.1.room (c.if-not-appending.false)

pub own_reached-search_runs-then-requires : goal.own_reached-search_runs-then-requires
own_reached-search_runs-then-requires t c =
    let w = c.requires.0 in
    let f = further_own _ _ _ _ w _ _ _ c.in-Store.is _ _ c.own_store.ensures c.in-Ok.is in
    (omega (arith, c.decreases), rw (c.append.ensures, c.own_message-w.ensures) (ready_own _ _ _ _ _ w.ready (c.requires.1.room (c.if-not-appending.false)) (ruled_done _ _ c.own_store.ensures c.in-Ok.is)))

pub own_reached-overflow_add-m : goal.own_reached-overflow_add-m
own_reached-overflow_add-m t c =
    let room = c.requires.1.room (c.if-not-appending.false) in omega arith

pub own_reached-preceded-requires : goal.own_reached-preceded-requires
own_reached-preceded-requires t c =
    let room = c.requires.1.room (c.if-not-appending.false) in (lit< tt, omega arith)

pub own_reached-returns-then-ended : goal.own_reached-returns-then-ended
own_reached-returns-then-ended t c =
    record { found = (found_over _ _ _ _ _ (owns_better _ _ _ _ _ c.args.q c.args.k _ _ _ c.in-Store.is (c.requires.1.room (c.if-not-appending.false)) _ c.own_store.ensures _ (rw (c.append.ensures, c.own_message-w.ensures)) c.in-Ok.is c.search_runs-then.ensures.found.better) (c.ended.ensures.0 c.if-ended.true), λ n u. absurd (c.ended.ensures.0 c.if-ended.true n u)); shows_own = (shows_stored c.requires.0 c.args.q _ _ _ c.in-Store.is (c.requires.1.room (c.if-not-appending.false)) _ c.own_store.ensures c.in-Ok.is _ (rw (c.append.ensures, c.own_message-w.ensures)) c.search_runs-then.result c.search_runs-then.ensures.shows _ c.preceded.ensures) }

pub own_reached-loads_ahead-read-requires : goal.own_reached-loads_ahead-read-requires
own_reached-loads_ahead-read-requires t c =
    c.requires.0.ready.code_ok.short

pub own_reached-returns-else-ended : goal.own_reached-returns-else-ended
own_reached-returns-else-ended t c =
    let asked = c.own_asks-in-Store.ensures in record { found = (owns_on _ _ _ _ _ c.args.q c.args.k _ _ _ c.in-Store.is (c.requires.1.room (c.if-not-appending.false)) _ c.own_store.ensures _ asked.place _ asked.value c.loads_ahead-read.ensures c.requires.0.ready.promises_in _ (rw (c.append.ensures, c.own_message-w.ensures)) c.in-Ok.is _ c.search_runs-then.ensures.found _ c.and.ensures.0 c.and.ensures.1, λ n u. covers_on c.and.ensures.1 (record { agreeing = asked.besides })); shows_own = λ e z. unmet_zero c.args.q e _ (still_unmet c.args.q e _ _ refl c.search_runs-then.ensures.found.better (c.ended.ensures.1 c.if-ended.false)) z }

pub own_reached-returns-in-Load : goal.own_reached-returns-in-Load
own_reached-returns-in-Load t c =
    record { found = (owns_none _ _ _ _ _ c.args.q _ (λ y. rw c.in-Load.is), λ n u. covers_self _); shows_own = λ e z. unmet_zero c.args.q e _ refl z }

pub own_reached-returns-in-Compute : goal.own_reached-returns-in-Compute
own_reached-returns-in-Compute t c =
    record { found = (owns_none _ _ _ _ _ c.args.q _ (λ y. rw c.in-Compute.is), λ n u. covers_self _); shows_own = λ e z. unmet_zero c.args.q e _ refl z }

pub own_reached-returns-in-Branch : goal.own_reached-returns-in-Branch
own_reached-returns-in-Branch t c =
    record { found = (owns_none _ _ _ _ _ c.args.q _ (λ y. rw c.in-Branch.is), λ n u. covers_self _); shows_own = λ e z. unmet_zero c.args.q e _ refl z }

pub own_reached-returns-in-Fence : goal.own_reached-returns-in-Fence
own_reached-returns-in-Fence t c =
    record { found = (owns_none _ _ _ _ _ c.args.q _ (λ y. rw c.in-Fence.is), λ n u. covers_self _); shows_own = λ e z. unmet_zero c.args.q e _ refl z }

pub search_at-worth_a_look-requires : goal.search_at-worth_a_look-requires
search_at-worth_a_look-requires t c =
    let w = c.requires.0 in let h = w.ready.code_ok.short in let l = (there _ _ _ w.is_next).0 in (h, omega arith)

pub search_at-fruitless-requires : goal.search_at-fruitless-requires
search_at-fruitless-requires t c =
    let w = c.requires.0 in (w.ready.code_ok.short, w.ready.room)

pub search_at-returns-in-Some : goal.search_at-returns-in-Some
search_at-returns-in-Some t c =
    record { found = fruitless_found _ _ _ _ c.args.q _ c.in-Some.ensures; shows = shows_none c.args.q _ (λ e. refl) }

pub search_at-worth_asking-requires : goal.search_at-worth_asking-requires
search_at-worth_asking-requires t c =
    let w = c.requires.0 in let l = (there _ _ _ w.is_next).0 in (w.ready.code_ok.short, let h = w.ready.code_ok.short in omega arith)

pub search_at-unread-requires : goal.search_at-unread-requires
search_at-unread-requires t c =
    let h = reach_byte _ _ _ _ c.requires.0 in let q = rw c.in-Load.is at h in omega arith

pub search_at-search_runs-requires : goal.search_at-search_runs-requires
search_at-search_runs-requires t c =
    let w = c.requires.0 in
    let at = ap (λ (v : Thread). v.position) c.unread.ensures in
    let l = (there _ _ _ w.is_next).0 in
    let h = w.ready.code_ok.short in
    (omega (arith, c.decreases), ready_as w.ready (ap (λ (v : Thread). v.promises) c.unread.ensures))

pub search_at-returns-then-worth_asking : goal.search_at-returns-then-worth_asking
search_at-returns-then-worth_asking t c =
    record { found = blind_found _ _ _ _ _ c.requires.0.is_next c.args.q c.requires.1 _ _ _ _ c.in-Load.is _ c.unread.ensures _ c.search_runs.ensures.found _ c.in-Some-told.ensures; shows = shows_none c.args.q _ (λ e. c.in-Some-told.ensures.as_before) }

pub search_at-earliest-t-requires : goal.search_at-earliest-t-requires
search_at-earliest-t-requires t c =
    c.requires.0.ready.room

pub search_at-filled-requires : goal.search_at-filled-requires
search_at-filled-requires t c =
    (omega (arith, c.decreases), c.requires.0)

pub search_at-loop-t-init : goal.search_at-loop-t-init
search_at-loop-t-init t c =
    (missed_none _ _ _ _ _ _ _ _ (knows_none _ _ _ _ _ _ c.requires.1.halting _ _ c.untried-r.ensures) c.earliest-t.ensures, (same, (covers_self _, (c.earliest-t.ensures.within, λ e. ap (λ (p : Tried). p.met) c.untried-r.ensures ∙ filled_none c.args.q e _ c.filled.ensures))))

pub search_at-hopeless-requires : goal.search_at-hopeless-requires
search_at-hopeless-requires t c =
    let w = c.requires.0 in (w.ready.code_ok.short, (w.ready.room, c.loop-t-test.true))

pub search_at-try_at-r-requires : goal.search_at-try_at-r-requires
search_at-try_at-r-requires t c =
    (omega (arith, c.decreases), (c.requires.0, (c.loop-t-test.true, c.loop-t.invariant.0.knows)))

pub search_at-returns-then-ended : goal.search_at-returns-then-ended
search_at-returns-then-ended t c =
    record { found = rw c.so_far.ensures (found_over _ _ _ _ _ (better_on (fills_meets _ _ _ _ c.args.q _ c.requires.0.is_next _ c.filled.ensures) (better_on (rw c.untried-r.ensures at c.loop-t.invariant.1.0) (tried_meets _ _ _ _ c.args.q _ c.requires.0.is_next _ c.filled.ensures _ c.try_at-r.ensures.tried_at.better))) (c.ended.ensures.0 c.if-ended.true)); shows = rw c.so_far.ensures (shows_tried c.requires.0 c.args.q c.requires.1 _ _ c.loop-t.invariant.0 c.loop-t.invariant.1.1.1.1 c.try_at-r.result c.try_at-r.ensures.shows_at) }

pub search_at-following-t-requires : goal.search_at-following-t-requires
search_at-following-t-requires t c =
    (c.requires.0.ready.room, c.loop-t-test.true)

pub search_at-loop-t-preserved : goal.search_at-loop-t-preserved
search_at-loop-t-preserved t c =
    let a = c.args in
    let w = c.requires.0 in
    let l = c.loop-t in
    let went : Went a.c a.i a.m a.s a.x a.q l.r l.t c.if-not-hopeless.r = elim c.if-not-hopeless.branch [
      | search_at-then-not-hopeless+else-ended w' ↦
          subst (Went a.c a.i a.m a.s a.x a.q l.r l.t) (sym w'.r-is) (w'.try_at-r.ensures.tried_at.went (w'.ended.ensures.1 w'.if-ended.false).0 (w'.ended.ensures.1 w'.if-ended.false).1)
      | search_at-else-not-hopeless w' ↦
          subst (Went a.c a.i a.m a.s a.x a.q l.r l.t) (sym w'.r-is) (went_hopeless _ _ _ _ _ _ _ _ l.invariant.0.knows w (c.hopeless.ensures w'.if-not-hopeless.false))
    ] in
    let unmet : a.q ≡ certifying → c.if-not-hopeless.r.met ≡ a.q.met = λ e. elim c.if-not-hopeless.branch [
      | search_at-then-not-hopeless+else-ended w' ↦
          ap (λ (p : Tried). p.met) w'.r-is ∙ still_unmet a.q e _ _ (l.invariant.1.1.1.1 e) w'.try_at-r.ensures.tried_at.better (w'.ended.ensures.1 w'.if-ended.false)
      | search_at-else-not-hopeless w' ↦ ap (λ (p : Tried). p.met) w'.r-is ∙ l.invariant.1.1.1.1 e
    ] in
    (missed_on _ _ _ _ _ _ _ _ _ _ _ l.invariant.0 went c.following-t.ensures, (better_on l.invariant.1.0 (tried_meets _ _ _ _ a.q _ w.is_next _ c.filled.ensures _ went.better), (covers_on went.covers l.invariant.1.1.0, (c.following-t.ensures.within, unmet))))

pub search_at-appends-appending-requires : goal.search_at-appends-appending-requires
search_at-appends-appending-requires t c =
    let w = c.requires.0 in let h = w.ready.code_ok.short in let l = (there _ _ _ w.is_next).0 in (h, omega arith)

pub search_at-own_reached-own-requires : goal.search_at-own_reached-own-requires
search_at-own_reached-own-requires t c =
    (omega (arith, c.decreases), (c.requires.0, c.appends-appending.ensures))

pub search_at-returns-then-ended-2 : goal.search_at-returns-then-ended-2
search_at-returns-then-ended-2 t c =
    record { found = found_over _ _ _ _ _ (better_on (fills_meets _ _ _ _ c.args.q _ c.requires.0.is_next _ c.filled.ensures) (better_on (rw c.untried-r.ensures at c.loop-t.invariant.1.0) (owns_meets _ _ _ _ c.args.q _ c.requires.0.is_next _ c.filled.ensures (rw c.after.ensures at c.own_reached-own.ensures.found.0).better))) (c.ended-2.ensures.0 c.if-ended-2.true); shows = shows_owned c.requires.0 c.args.q c.requires.1 _ _ c.loop-t.invariant.0 c.loop-t.invariant.1.1.1.1 c.loop-t-test.false _ c.after.ensures c.own_reached-own.result c.own_reached-own.ensures.shows_own }

pub search_at-asks-requires : goal.search_at-asks-requires
search_at-asks-requires t c =
    c.requires.0.ready.room

pub search_at-returns : goal.search_at-returns
search_at-returns t c =
    record { found = reach_all _ _ _ _ c.args.q _ c.requires.0.is_next _ c.filled.ensures c.requires.1 c.requires.0.ready.room _ _ (rw c.untried-r.ensures at c.loop-t.invariant.1.0) (rw c.untried-r.ensures at c.loop-t.invariant.1.1.0) c.loop-t.invariant.0 c.loop-t-test.false _ (rw c.after.ensures at c.own_reached-own.ensures.found.0) ((rw c.after.ensures at c.own_reached-own.ensures.found).1 (c.ended-2.ensures.1 c.if-ended-2.false).0 (c.ended-2.ensures.1 c.if-ended-2.false).1) _ c.after-2.ensures _ c.asks.ensures _ c.and.ensures; shows = shows_none c.args.q _ (λ e. still_unmet c.args.q e _ _ (c.loop-t.invariant.1.1.1.1 e) (rw c.after.ensures at c.own_reached-own.ensures.found.0).better (c.ended-2.ensures.1 c.if-ended-2.false)) }

pub search_runs-returns-then-kept : goal.search_runs-returns-then-kept
search_runs-returns-then-kept t c =
    record { found = straight_kept _ _ _ _ _ here c.args.q (c.kept.ensures.0 c.if-kept.true) _ c.emptied.ensures _; shows = shows_stop c.emptied.result (c.kept.ensures.0 c.if-kept.true).1 (record { count = refl; steps = tt }) }

pub search_runs-returns-then-c-s : goal.search_runs-returns-then-c-s
search_runs-returns-then-c-s t c =
    record { found = reach_end _ _ _ _ c.args.q (c.kept.ensures.1 c.if-kept.false) c.if-c-s.true _; shows = shows_none c.args.q _ (λ e. refl) }

pub search_runs-halts-requires : goal.search_runs-halts-requires
search_runs-halts-requires t c =
    (c.requires.code_ok.short, c.if-c-s.false)

pub search_runs-instr_at-requires : goal.search_runs-instr_at-requires
search_runs-instr_at-requires t c =
    let h = c.requires.code_ok.short in let l = c.if-c-s.false in (omega arith, l)

pub search_runs-search_at-requires : goal.search_runs-search_at-requires
search_runs-search_at-requires t c =
    (omega (arith, c.decreases), (record { ready = c.requires; is_next = c.instr_at.ensures }, record { halting = (c.halts.ensures _ refl).0 c.if-halts.true _ c.instr_at.ensures; outstanding = c.kept.ensures.1 c.if-kept.false }))

pub search_runs-returns-then-halts : goal.search_runs-returns-then-halts
search_runs-returns-then-halts t c =
    record { found = c.search_at.ensures.found; shows = c.search_at.ensures.shows }

pub search_runs-both_ways-requires : goal.search_runs-both_ways-requires
search_runs-both_ways-requires t c =
    (omega (arith, c.decreases), ((c.requires, (c.if-c-s.false, (c.halts.ensures _ refl).1 c.if-halts.false)), c.kept.ensures.1 c.if-kept.false))

pub search_runs-returns-then-m-ge12 : goal.search_runs-returns-then-m-ge12
search_runs-returns-then-m-ge12 t c =
    record { found = c.both_ways.ensures.found; shows = c.both_ways.ensures.shows }

pub search_runs-walk_on-requires : goal.search_runs-walk_on-requires
search_runs-walk_on-requires t c =
    (omega (arith, c.decreases), ((c.requires, (c.if-c-s.false, (c.halts.ensures _ refl).1 c.if-halts.false)), c.kept.ensures.1 c.if-kept.false))

pub search_runs-returns : goal.search_runs-returns
search_runs-returns t c =
    record { found = c.walk_on.ensures.found; shows = c.walk_on.ensures.shows }

pub try_at-execute-requires : goal.try_at-execute-requires
try_at-execute-requires t c =
    let w = c.requires.0 in (reach_byte _ _ _ _ w, w.ready.room)

pub try_at-returns-in_default : goal.try_at-returns-in_default
try_at-returns-in_default t c =
    let went = went_refused _ _ _ _ _ _ _ _ c.requires.1.1 _ c.execute.ensures c.in_default.is in record { tried_at = record { better = same; went = λ n u. went }; shows_at = shows_missed c.requires.0 c.args.q _ _ c.args.p (λ e unmet. unmet) }

pub try_at-preceded-requires : goal.try_at-preceded-requires
try_at-preceded-requires t c =
    let h = c.requires.1.0 in (lit< tt, omega arith)

pub try_at-returns-then-ended : goal.try_at-returns-then-ended
try_at-returns-then-ended t c =
    record {
      tried_at = rw c.having.ensures (record { better = (emptied_better _ _ (rw c.after-less.ensures at c.emptied-all.ensures) (_, (ruled_done _ _ c.execute.ensures c.in-Ok.is), done (inl ((c.kept.ensures.0 c.if-kept.true).0, refl, (c.kept.ensures.0 c.if-kept.true).1)))); went = λ n u. absurd (c.ended.ensures.0 c.if-ended.true n u) });
      shows_at = rw c.having.ensures (shows_emptied c.requires.0 c.args.q _ _ (record { met = c.emptied-all.result; tries = c.args.p.tries; cares = c.preceded.result; counted = c.args.p.counted; apart = c.args.p.apart }) _ (ruled_done _ _ c.execute.ensures c.in-Ok.is) _ c.preceded.ensures (c.kept.ensures.0 c.if-kept.true).1 (record { count = refl; steps = tt }));
    }

pub try_at-returns-then-kept : goal.try_at-returns-then-kept
try_at-returns-then-kept t c =
    let went = went_found _ _ _ _ _ _ _ _ c.requires.1.1 _ (ruled_done _ _ c.execute.ensures c.in-Ok.is) (c.kept.ensures.0 c.if-kept.true) _ (rw c.after-less.ensures at c.emptied-all.ensures) in
    record { tried_at = rw c.having-then-kept.ensures (record { better = went.better; went = λ n u. went }); shows_at = rw c.having-then-kept.ensures (shows_missed c.requires.0 c.args.q _ _ (record { met = c.emptied-all.result; tries = c.args.p.tries; cares = c.args.p.cares; counted = c.args.p.counted; apart = c.args.p.apart }) (λ e unmet. still_unmet c.args.q e _ _ unmet went.better (c.ended.ensures.1 c.if-ended.false))) }

pub try_at-idle-apart-requires : goal.try_at-idle-apart-requires
try_at-idle-apart-requires t c =
    c.requires.0.ready.room

pub try_at-search_runs-then-requires : goal.try_at-search_runs-then-requires
try_at-search_runs-then-requires t c =
    let w = c.requires.0 in
    let d = ruled_done _ _ c.execute.ensures c.in-Ok.is in
    let f = further_by _ _ _ _ w _ _ d in
    let like = resumed_same _ _ _ c.args.s c.resumed-on.ensures in
    let at = like.0 in
    (omega (arith, c.decreases), ready_as (ready_after w.ready (effect _ _ _ _ _ d)) like.1)

pub try_at-preceded-requires-then-ended-2 : goal.try_at-preceded-requires-then-ended-2
try_at-preceded-requires-then-ended-2 t c =
    let h = c.requires.1.0 in (lit< tt, omega arith)

pub try_at-returns-then-ended-2 : goal.try_at-returns-then-ended-2
try_at-returns-then-ended-2 t c =
    record {
      tried_at = rw c.having-then-ended-2.ensures (record { better = resumed_better _ _ _ _ _ _ _ _ c.requires.1.1 _ (ruled_done _ _ c.execute.ensures c.in-Ok.is) _ c.idle-apart.ensures _ c.resumed-on.ensures (rw c.after-less.ensures at c.search_runs-then.ensures.found).better; went = λ n u. absurd (c.ended-2.ensures.0 c.if-ended-2.true n u) });
      shows_at = rw c.having-then-ended-2.ensures (shows_resumed c.requires.0 c.args.q _ _ (record { met = c.search_runs-then.result.met; tries = c.args.p.tries; cares = c.preceded-then-ended-2.result; counted = c.args.p.counted; apart = c.args.p.apart }) _ (ruled_done _ _ c.execute.ensures c.in-Ok.is) _ c.preceded-then-ended-2.ensures _ c.idle-apart.ensures _ c.resumed-on.ensures _ c.after-less.ensures c.search_runs-then.ensures.shows);
    }

pub try_at-noted-requires : goal.try_at-noted-requires
try_at-noted-requires t c =
    c.requires.1.0

pub try_at-returns : goal.try_at-returns
try_at-returns t c =
    let went = went_resumed _ _ _ _ _ _ _ _ c.requires.1.1 _ (ruled_done _ _ c.execute.ensures c.in-Ok.is) _ c.idle-apart.ensures _ c.resumed-on.ensures _ (rw c.after-less.ensures at c.search_runs-then.ensures.found) _ c.noted.ensures in record { tried_at = record { better = went.better; went = λ n u. went }; shows_at = shows_missed c.requires.0 c.args.q _ _ c.noted.result (λ e unmet. noted_met _ _ c.requires.1.1.halting c.noted.ensures ∙ still_unmet c.args.q e _ _ unmet (rw c.after-less.ensures at c.search_runs-then.ensures.found).better (c.ended-2.ensures.1 c.if-ended-2.false)) }

pub walk_on-straight-w-requires : goal.walk_on-straight-w-requires
walk_on-straight-w-requires t c =
    c.requires.0.0.code_ok

pub walk_on-search_runs-r-requires : goal.walk_on-search_runs-r-requires
walk_on-search_runs-r-requires t c =
    let w = c.straight-w.ensures in
    let l = ended_further _ w.0 w.1.0 c.requires.0.1.1 in
    let low = c.requires.0.1.0 in
    let short = c.requires.0.0.code_ok.short in
    (omega (arith, c.decreases), leads_ready (walked_leads w.1.0) c.requires.0.0)

pub walk_on-returns-then-ended : goal.walk_on-returns-then-ended
walk_on-returns-then-ended t c =
    let w = c.straight-w.ensures.1.0 in record { found = found_over _ _ _ _ _ (straight_better _ _ _ _ _ (walked_leads w) c.args.q c.search_runs-r.ensures.found.better) (c.ended.ensures.0 c.if-ended.true); shows = shows_walked c.requires.0.0.code_ok.short c.requires.1 w c.search_runs-r.result c.search_runs-r.ensures.shows _ c.passed.ensures }

pub walk_on-before_straight-requires : goal.walk_on-before_straight-requires
walk_on-before_straight-requires t c =
    c.straight-w.ensures.1.1

pub walk_on-returns : goal.walk_on-returns
walk_on-returns t c =
    record { found = straight_found _ _ _ _ _ (walked_leads c.straight-w.ensures.1.0) c.args.q _ c.search_runs-r.ensures.found _ (λ s'. c.before_straight.ensures _ _ _ s' c.straight-w.ensures.1.0); shows = shows_none c.args.q _ (λ e. still_unmet c.args.q e _ _ refl c.search_runs-r.ensures.found.better (c.ended.ensures.1 c.if-ended.false)) }
