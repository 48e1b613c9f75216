-- `search_visits::walk` meets its contract.
-- Assumes nothing.
use Rattle.search_visits.proofs.Loops.{Promised, enters, code_at, thread_at, thread_ready, next_there, first, joins, ends, leaves, answers, less_than_whole, whole_written, attemptable, attempted, next_asked, next_told, set_others, same_others, on, by_promise, by_none, is_rejected, lower, ready_below, has_newest, off_again, still, goes_on, runs_out, asks, room_here, finds}
use Rattle.search_visits.proofs.Lent.{pair_same, ending_noted}
use Rattle.search_outcomes.proofs.Laws.{formed_placed}
use Rattle.search_arrivals.specs.Visits.{visiting, Reports}
use Rattle.search_arrivals.proofs.Known.{Trusted, trusted_as, told_as, is_over, is_ending, is_open, rest_within, still_true, stays_true, question_true}
use Rattle.machine.specs.declared.Thread.{Thread}
use Rattle.machine.specs.declared.Machine.{Machine}
use Rattle.program.proofs.Arrays.{length_mapped}
use lib.ListN.{length, set}
use native.Mathlib.Omega.{arith}
use mathlib.Core.Path.{◌≡◌, refl, ap, ◌∙◌}
use mathlib.Core.List.{List}
use Prim.Native.Nat.{ℕ, ◌+◌}
use Rattle.search_visits.proofs.+walk.Goals as goal
use Rattle.search_visits.proofs.+walk.Goals.{then-step-ne0, else-step-ne0, then-step-gt0, else-step-gt0, in-Over, in-Ending, in-Open, in-Ok+in-Going, in_default}

pub loop-i-init : goal.loop-i-init
loop-i-init t c =
    let a = c.args in
    let p = a.p in
    let x = a.x in
    let codes : length p.codes ≡ 4 = search length_mapped depth 7 in
    let threads : length x.threads ≡ 4 = search length_mapped depth 7 in
    let o = c.requires.1 in
    (enters c.requires.0 o.some_left _ o.next o.not_ended codes threads, record { holds = c.requires.2; as_long = refl })

pub instr_at-w-requires : goal.instr_at-w-requires
instr_at-w-requires t c =
    let u = c.loop-i.invariant.0 in let h = c.loop-i-test.true in next_there u h _ _ (code_at u h _) (thread_at u h _)

pub tries_of-t-requires : goal.tries_of-t-requires
tries_of-t-requires t c =
    let u = c.loop-i.invariant.0 in let h = c.loop-i-test.true in (thread_ready u h _ _ (code_at u h _) (thread_at u h _), c.instr_at-w.ensures)

pub next_try-k-requires : goal.next_try-k-requires
next_try-k-requires t c =
    let u = c.loop-i.invariant.0 in let h = c.loop-i-test.true in (thread_ready u h _ _ (code_at u h _) (thread_at u h _), c.tries_of-t.ensures)

pub loop-k-init : goal.loop-k-init
loop-k-init t c =
    let u = c.loop-i.invariant.0 in
    let h = c.loop-i-test.true in
    (first u h _ _ (code_at u h _) (thread_at u h _) _ c.instr_at-w.ensures _ c.tries_of-t.ensures _ c.next_try-k.ensures, record { holds = c.loop-i.invariant.1.holds; as_long = refl })

pub attempt-r-requires : goal.attempt-r-requires
attempt-r-requires t c =
    let u = c.loop-k.invariant.0 in attemptable u _ u.memory c.loop-k-test.true _ c.step_at-step.ensures

pub arrive-requires : goal.arrive-requires
arrive-requires t c =
    let u = c.loop-k.invariant.0 in
    let q = attempted u _ u.memory _ c.attempt-r.result.moved _ c.attempt-r.ensures in
    let z : Promised u c.loop-k-test.true c.step_at-step.result c.step_at-step.ensures c.attempt-r.result.moved q.0 c.if-step-ne0.y = elim c.if-step-ne0.branch [
      | then-step-ne0 v ↦ by_promise u c.loop-k-test.true _ c.step_at-step.ensures c.attempt-r.result.moved q.0 _ v.memory_after-y.ensures _ v.y-is
      | else-step-ne0 v ↦ by_none u c.loop-k-test.true _ c.step_at-step.ensures c.attempt-r.result.moved q.0 v.if-step-ne0.false _ v.y-is
    ] in
    (ready_below u c.loop-k-test.true _ c.step_at-step.ensures c.attempt-r.result.moved q.0 c.in-Ok.is _ z).well

pub note-requires : goal.note-requires
note-requires t c =
    let u = c.loop-k.invariant.0 in
    let q = attempted u _ u.memory _ c.attempt-r.result.moved _ c.attempt-r.ensures in
    let z : Promised u c.loop-k-test.true c.step_at-step.result c.step_at-step.ensures c.attempt-r.result.moved q.0 c.if-step-ne0.y = elim c.if-step-ne0.branch [
      | then-step-ne0 v ↦ by_promise u c.loop-k-test.true _ c.step_at-step.ensures c.attempt-r.result.moved q.0 _ v.memory_after-y.ensures _ v.y-is
      | else-step-ne0 v ↦ by_none u c.loop-k-test.true _ c.step_at-step.ensures c.attempt-r.result.moved q.0 v.if-step-ne0.false _ v.y-is
    ] in
    (formed_placed _ _ (ready_below u c.loop-k-test.true _ c.step_at-step.ensures c.attempt-r.result.moved q.0 c.in-Ok.is _ z).well, (ready_below u c.loop-k-test.true _ c.step_at-step.ensures c.attempt-r.result.moved q.0 c.in-Ok.is _ z).orderly _ (is_ending _ _ _ _ _ _ _ _ (c.arrive.ensures _ c.loop-k.invariant.1.holds) _ _ c.in-Ending.is _ refl _ refl).0)

pub walk-ran-requires : goal.walk-ran-requires
walk-ran-requires t c =
    let u = c.loop-k.invariant.0 in
    let q = attempted u _ u.memory _ c.attempt-r.result.moved _ c.attempt-r.ensures in
    let z : Promised u c.loop-k-test.true c.step_at-step.result c.step_at-step.ensures c.attempt-r.result.moved q.0 c.if-step-ne0.y = elim c.if-step-ne0.branch [
      | then-step-ne0 v ↦ by_promise u c.loop-k-test.true _ c.step_at-step.ensures c.attempt-r.result.moved q.0 _ v.memory_after-y.ensures _ v.y-is
      | else-step-ne0 v ↦ by_none u c.loop-k-test.true _ c.step_at-step.ensures c.attempt-r.result.moved q.0 v.if-step-ne0.false _ v.y-is
    ] in
    let l = less_than_whole c.loop-i.invariant.0 _ (lower u c.loop-k-test.true _ c.step_at-step.ensures c.attempt-r.result.moved q.0 c.in-Ok.is _ z) in
    (omega (arith, c.decreases), (ready_below u c.loop-k-test.true _ c.step_at-step.ensures c.attempt-r.result.moved q.0 c.in-Ok.is _ z, is_open _ _ _ _ _ _ _ _ (c.arrive.ensures _ c.loop-k.invariant.1.holds) _ _ c.in-Open.is, c.loop-k.invariant.1.holds))

pub memory_before-y-requires : goal.memory_before-y-requires
memory_before-y-requires t c =
    let u = c.loop-k.invariant.0 in
    let q = attempted u _ u.memory _ c.attempt-r.result.moved _ c.attempt-r.ensures in
    let z : Promised u c.loop-k-test.true c.step_at-step.result c.step_at-step.ensures c.attempt-r.result.moved q.0 c.if-step-ne0.y = elim c.if-step-ne0.branch [
      | then-step-ne0 v ↦ by_promise u c.loop-k-test.true _ c.step_at-step.ensures c.attempt-r.result.moved q.0 _ v.memory_after-y.ensures _ v.y-is
      | else-step-ne0 v ↦ by_none u c.loop-k-test.true _ c.step_at-step.ensures c.attempt-r.result.moved q.0 v.if-step-ne0.false _ v.y-is
    ] in
    has_newest u c.loop-k-test.true _ c.step_at-step.ensures c.attempt-r.result.moved q.0 c.in-Ok.is _ z (λ e. let l = c.if-step-gt0.true in omega arith)

pub put_step-requires : goal.put_step-requires
put_step-requires t c =
    let u = c.loop-k.invariant.0 in
    let q = attempted u _ u.memory _ c.attempt-r.result.moved _ c.attempt-r.ensures in
    let z : Promised u c.loop-k-test.true c.step_at-step.result c.step_at-step.ensures c.attempt-r.result.moved q.0 c.if-step-ne0.y = elim c.if-step-ne0.branch [
      | then-step-ne0 v ↦ by_promise u c.loop-k-test.true _ c.step_at-step.ensures c.attempt-r.result.moved q.0 _ v.memory_after-y.ensures _ v.y-is
      | else-step-ne0 v ↦ by_none u c.loop-k-test.true _ c.step_at-step.ensures c.attempt-r.result.moved q.0 v.if-step-ne0.false _ v.y-is
    ] in
    let well = (ready_below u c.loop-k-test.true _ c.step_at-step.ensures c.attempt-r.result.moved q.0 c.in-Ok.is _ z).well in
    let below : Machine = record { memory = c.if-step-ne0.y.memory; threads = set c.if-step-ne0.y.threads c.loop-i.i c.in-Ok.q } in
    let visited : Reports (c.args.depth + 1) (visiting c.args.p c.args.aim below c.loop-k.rest (c.loop-k.area, c.loop-k.sheet)) c.match-arrive.ran (c.match-arrive.area, c.match-arrive.sheet) = elim c.match-arrive.branch [
      | in-Over v ↦ is_over _ _ _ _ _ _ _ _ (c.arrive.ensures _ c.loop-k.invariant.1.holds) _ _ v.in-Over.is v.ran-is _ (pair_same v.area-is v.sheet-is)
      | in-Ending v ↦ (is_ending _ _ _ _ _ _ _ _ (c.arrive.ensures _ c.loop-k.invariant.1.holds) _ _ v.in-Ending.is _ v.ran-is _ (pair_same v.area-is v.sheet-is ∙ v.note.ensures ∙ ending_noted _ _ well _ _ _)).1
      | in-Open v ↦ told_as v.walk-ran.ensures.0 v.ran-is (pair_same v.area-is v.sheet-is)
    ] in
    let l : length c.match-arrive.area ≡ length c.loop-k.area = elim c.match-arrive.branch [
      | in-Over v ↦ ap length v.area-is
      | in-Ending v ↦ ap length v.area-is ∙ v.note.auto.area
      | in-Open v ↦ ap length v.area-is ∙ v.walk-ran.auto.area
    ] in
    let r = (ready_below u c.loop-k-test.true _ c.step_at-step.ensures c.attempt-r.result.moved q.0 c.in-Ok.is _ z).short in
    let room = room_here u c.loop-k-test.true _ c.step_at-step.ensures c.attempt-r.result.moved q.0 c.in-Ok.is _ z c.match-arrive.ran _ visited _ _ c.in-Found.is in
    omega arith

pub returns-in-Found : goal.returns-in-Found
returns-in-Found t c =
    let u = c.loop-k.invariant.0 in
    let q = attempted u _ u.memory _ c.attempt-r.result.moved _ c.attempt-r.ensures in
    let z : Promised u c.loop-k-test.true c.step_at-step.result c.step_at-step.ensures c.attempt-r.result.moved q.0 c.if-step-ne0.y = elim c.if-step-ne0.branch [
      | then-step-ne0 v ↦ by_promise u c.loop-k-test.true _ c.step_at-step.ensures c.attempt-r.result.moved q.0 _ v.memory_after-y.ensures _ v.y-is
      | else-step-ne0 v ↦ by_none u c.loop-k-test.true _ c.step_at-step.ensures c.attempt-r.result.moved q.0 v.if-step-ne0.false _ v.y-is
    ] in
    let well = (ready_below u c.loop-k-test.true _ c.step_at-step.ensures c.attempt-r.result.moved q.0 c.in-Ok.is _ z).well in
    let below : Machine = record { memory = c.if-step-ne0.y.memory; threads = set c.if-step-ne0.y.threads c.loop-i.i c.in-Ok.q } in
    let visited : Reports (c.args.depth + 1) (visiting c.args.p c.args.aim below c.loop-k.rest (c.loop-k.area, c.loop-k.sheet)) c.match-arrive.ran (c.match-arrive.area, c.match-arrive.sheet) = elim c.match-arrive.branch [
      | in-Over v ↦ is_over _ _ _ _ _ _ _ _ (c.arrive.ensures _ c.loop-k.invariant.1.holds) _ _ v.in-Over.is v.ran-is _ (pair_same v.area-is v.sheet-is)
      | in-Ending v ↦ (is_ending _ _ _ _ _ _ _ _ (c.arrive.ensures _ c.loop-k.invariant.1.holds) _ _ v.in-Ending.is _ v.ran-is _ (pair_same v.area-is v.sheet-is ∙ v.note.ensures ∙ ending_noted _ _ well _ _ _)).1
      | in-Open v ↦ told_as v.walk-ran.ensures.0 v.ran-is (pair_same v.area-is v.sheet-is)
    ] in
    let trusted : Trusted c.args.p c.args.aim (c.match-arrive.area, c.match-arrive.sheet) c.loop-k.table c.match-arrive.table = elim c.match-arrive.branch [
      | in-Over v ↦ trusted_as c.loop-k.invariant.1.holds refl v.table-is (pair_same v.area-is v.sheet-is)
      | in-Ending v ↦ trusted_as (stays_true _ _ _ _ _ _ visited v.ran-is c.loop-k.invariant.1.holds) refl v.table-is refl
      | in-Open v ↦ trusted_as v.walk-ran.ensures.1 v.walk-ran.auto.table v.table-is (pair_same v.area-is v.sheet-is)
    ] in
    (answers c.loop-i.invariant.0 (joins c.loop-i.invariant.0 c.loop-i-test.true _ _ (code_at c.loop-i.invariant.0 c.loop-i-test.true _) (thread_at c.loop-i.invariant.0 c.loop-i-test.true _) c.next_try-k.result c.next_try-k.ensures.0) (finds u c.loop-k-test.true _ c.step_at-step.ensures c.attempt-r.result.moved q.0 c.in-Ok.is _ z c.match-arrive.ran _ visited _ _ c.in-Found.is _ (ap (λ (l : List ℕ). (l, c.match-arrive.sheet)) c.put_step.ensures)), question_true _ _ _ _ _ (asks u c.loop-k-test.true _ c.step_at-step.ensures c.attempt-r.result.moved q.0 c.in-Ok.is _ z c.match-arrive.ran _ visited _ _ c.in-Found.is) trusted.holds)

pub returns-in-Out : goal.returns-in-Out
returns-in-Out t c =
    let u = c.loop-k.invariant.0 in
    let q = attempted u _ u.memory _ c.attempt-r.result.moved _ c.attempt-r.ensures in
    let z : Promised u c.loop-k-test.true c.step_at-step.result c.step_at-step.ensures c.attempt-r.result.moved q.0 c.if-step-ne0.y = elim c.if-step-ne0.branch [
      | then-step-ne0 v ↦ by_promise u c.loop-k-test.true _ c.step_at-step.ensures c.attempt-r.result.moved q.0 _ v.memory_after-y.ensures _ v.y-is
      | else-step-ne0 v ↦ by_none u c.loop-k-test.true _ c.step_at-step.ensures c.attempt-r.result.moved q.0 v.if-step-ne0.false _ v.y-is
    ] in
    let well = (ready_below u c.loop-k-test.true _ c.step_at-step.ensures c.attempt-r.result.moved q.0 c.in-Ok.is _ z).well in
    let below : Machine = record { memory = c.if-step-ne0.y.memory; threads = set c.if-step-ne0.y.threads c.loop-i.i c.in-Ok.q } in
    let visited : Reports (c.args.depth + 1) (visiting c.args.p c.args.aim below c.loop-k.rest (c.loop-k.area, c.loop-k.sheet)) c.match-arrive.ran (c.match-arrive.area, c.match-arrive.sheet) = elim c.match-arrive.branch [
      | in-Over v ↦ is_over _ _ _ _ _ _ _ _ (c.arrive.ensures _ c.loop-k.invariant.1.holds) _ _ v.in-Over.is v.ran-is _ (pair_same v.area-is v.sheet-is)
      | in-Ending v ↦ (is_ending _ _ _ _ _ _ _ _ (c.arrive.ensures _ c.loop-k.invariant.1.holds) _ _ v.in-Ending.is _ v.ran-is _ (pair_same v.area-is v.sheet-is ∙ v.note.ensures ∙ ending_noted _ _ well _ _ _)).1
      | in-Open v ↦ told_as v.walk-ran.ensures.0 v.ran-is (pair_same v.area-is v.sheet-is)
    ] in
    let trusted : Trusted c.args.p c.args.aim (c.match-arrive.area, c.match-arrive.sheet) c.loop-k.table c.match-arrive.table = elim c.match-arrive.branch [
      | in-Over v ↦ trusted_as c.loop-k.invariant.1.holds refl v.table-is (pair_same v.area-is v.sheet-is)
      | in-Ending v ↦ trusted_as (stays_true _ _ _ _ _ _ visited v.ran-is c.loop-k.invariant.1.holds) refl v.table-is refl
      | in-Open v ↦ trusted_as v.walk-ran.ensures.1 v.walk-ran.auto.table v.table-is (pair_same v.area-is v.sheet-is)
    ] in
    (answers c.loop-i.invariant.0 (joins c.loop-i.invariant.0 c.loop-i-test.true _ _ (code_at c.loop-i.invariant.0 c.loop-i-test.true _) (thread_at c.loop-i.invariant.0 c.loop-i-test.true _) c.next_try-k.result c.next_try-k.ensures.0) (runs_out u c.loop-k-test.true _ c.step_at-step.ensures c.attempt-r.result.moved q.0 c.in-Ok.is _ z c.match-arrive.ran _ visited c.in-Out.is), trusted.holds)

pub after_try-k-requires : goal.after_try-k-requires
after_try-k-requires t c =
    let u = c.loop-k.invariant.0 in
    let q = attempted u _ u.memory _ c.attempt-r.result.moved _ c.attempt-r.ensures in
    let same_memory : c.match-r.y.memory ≡ c.loop-i.y.memory = elim c.match-r.branch [
      | in-Ok+in-Going w ↦
          let z : Promised u c.loop-k-test.true c.step_at-step.result c.step_at-step.ensures c.attempt-r.result.moved q.0 w.if-step-ne0.y = elim w.if-step-ne0.branch [
            | then-step-ne0 v ↦ by_promise u c.loop-k-test.true _ c.step_at-step.ensures c.attempt-r.result.moved q.0 _ v.memory_after-y.ensures _ v.y-is
            | else-step-ne0 v ↦ by_none u c.loop-k-test.true _ c.step_at-step.ensures c.attempt-r.result.moved q.0 v.if-step-ne0.false _ v.y-is
          ] in
          let back : w.if-step-gt0.y.memory ≡ c.loop-i.y.memory = elim w.if-step-gt0.branch [
            | then-step-gt0 v ↦
                ap (λ (o : Machine). o.memory) v.y-is ∙ v.memory_before-y.ensures ∙ off_again u c.loop-k-test.true _ c.step_at-step.ensures c.attempt-r.result.moved q.0 w.in-Ok.is _ z (λ e. let l = v.if-step-gt0.true in omega arith)
            | else-step-gt0 v ↦ ap (λ (o : Machine). o.memory) v.y-is ∙ still u c.loop-k-test.true _ c.step_at-step.ensures c.attempt-r.result.moved q.0 w.in-Ok.is _ z (let l = v.if-step-gt0.false in omega arith)
          ] in
          ap (λ (o : Machine). o.memory) w.y-is ∙ back
      | in_default w ↦ ap (λ (o : Machine). o.memory) w.y-is ∙ u.memory
    ] in
    next_asked u _ same_memory _ q.1 c.loop-k-test.true

pub loop-k-preserved : goal.loop-k-preserved
loop-k-preserved t c =
    let u = c.loop-k.invariant.0 in
    let q = attempted u _ u.memory _ c.attempt-r.result.moved _ c.attempt-r.ensures in
    let same_memory : c.match-r.y.memory ≡ c.loop-i.y.memory = elim c.match-r.branch [
      | in-Ok+in-Going w ↦
          let z : Promised u c.loop-k-test.true c.step_at-step.result c.step_at-step.ensures c.attempt-r.result.moved q.0 w.if-step-ne0.y = elim w.if-step-ne0.branch [
            | then-step-ne0 v ↦ by_promise u c.loop-k-test.true _ c.step_at-step.ensures c.attempt-r.result.moved q.0 _ v.memory_after-y.ensures _ v.y-is
            | else-step-ne0 v ↦ by_none u c.loop-k-test.true _ c.step_at-step.ensures c.attempt-r.result.moved q.0 v.if-step-ne0.false _ v.y-is
          ] in
          let back : w.if-step-gt0.y.memory ≡ c.loop-i.y.memory = elim w.if-step-gt0.branch [
            | then-step-gt0 v ↦
                ap (λ (o : Machine). o.memory) v.y-is ∙ v.memory_before-y.ensures ∙ off_again u c.loop-k-test.true _ c.step_at-step.ensures c.attempt-r.result.moved q.0 w.in-Ok.is _ z (λ e. let l = v.if-step-gt0.true in omega arith)
            | else-step-gt0 v ↦ ap (λ (o : Machine). o.memory) v.y-is ∙ still u c.loop-k-test.true _ c.step_at-step.ensures c.attempt-r.result.moved q.0 w.in-Ok.is _ z (let l = v.if-step-gt0.false in omega arith)
          ] in
          ap (λ (o : Machine). o.memory) w.y-is ∙ back
      | in_default w ↦ ap (λ (o : Machine). o.memory) w.y-is ∙ u.memory
    ] in
    let others : (o : Thread) → set c.match-r.y.threads c.loop-i.i o ≡ set c.loop-i.y.threads c.loop-i.i o = elim c.match-r.branch [
      | in-Ok+in-Going w ↦
          let z : Promised u c.loop-k-test.true c.step_at-step.result c.step_at-step.ensures c.attempt-r.result.moved q.0 w.if-step-ne0.y = elim w.if-step-ne0.branch [
            | then-step-ne0 v ↦ by_promise u c.loop-k-test.true _ c.step_at-step.ensures c.attempt-r.result.moved q.0 _ v.memory_after-y.ensures _ v.y-is
            | else-step-ne0 v ↦ by_none u c.loop-k-test.true _ c.step_at-step.ensures c.attempt-r.result.moved q.0 v.if-step-ne0.false _ v.y-is
          ] in
          let came : w.if-step-gt0.y.threads ≡ set w.if-step-ne0.y.threads c.loop-i.i w.in-Ok.q = elim w.if-step-gt0.branch [
            | then-step-gt0 v ↦ ap (λ (o : Machine). o.threads) v.y-is
            | else-step-gt0 v ↦ ap (λ (o : Machine). o.threads) v.y-is
          ] in
          set_others u w.in-Ok.q c.match-r.y
          (ap (λ (o : Machine). o.threads) w.y-is ∙ came ∙ ap (λ (l : List Thread). set l c.loop-i.i w.in-Ok.q) z.threads)
      | in_default w ↦ same_others u c.match-r.y w.y-is
    ] in
    let nx = next_told u _ same_memory _ c.after_try-k.ensures in
    elim c.match-r.branch [
      | in-Ok+in-Going w ↦
          let z : Promised u c.loop-k-test.true c.step_at-step.result c.step_at-step.ensures c.attempt-r.result.moved q.0 w.if-step-ne0.y = elim w.if-step-ne0.branch [
            | then-step-ne0 v ↦ by_promise u c.loop-k-test.true _ c.step_at-step.ensures c.attempt-r.result.moved q.0 _ v.memory_after-y.ensures _ v.y-is
            | else-step-ne0 v ↦ by_none u c.loop-k-test.true _ c.step_at-step.ensures c.attempt-r.result.moved q.0 v.if-step-ne0.false _ v.y-is
          ] in
          let well = (ready_below u c.loop-k-test.true _ c.step_at-step.ensures c.attempt-r.result.moved q.0 w.in-Ok.is _ z).well in
          let below : Machine = record { memory = w.if-step-ne0.y.memory; threads = set w.if-step-ne0.y.threads c.loop-i.i w.in-Ok.q } in
          let visited : Reports (c.args.depth + 1) (visiting c.args.p c.args.aim below c.loop-k.rest (c.loop-k.area, c.loop-k.sheet)) w.match-arrive.ran (w.match-arrive.area, w.match-arrive.sheet) = elim w.match-arrive.branch [
            | in-Over v ↦ is_over _ _ _ _ _ _ _ _ (w.arrive.ensures _ c.loop-k.invariant.1.holds) _ _ v.in-Over.is v.ran-is _ (pair_same v.area-is v.sheet-is)
            | in-Ending v ↦ (is_ending _ _ _ _ _ _ _ _ (w.arrive.ensures _ c.loop-k.invariant.1.holds) _ _ v.in-Ending.is _ v.ran-is _ (pair_same v.area-is v.sheet-is ∙ v.note.ensures ∙ ending_noted _ _ well _ _ _)).1
            | in-Open v ↦ told_as v.walk-ran.ensures.0 v.ran-is (pair_same v.area-is v.sheet-is)
          ] in
          let trusted : Trusted c.args.p c.args.aim (w.match-arrive.area, w.match-arrive.sheet) c.loop-k.table w.match-arrive.table = elim w.match-arrive.branch [
            | in-Over v ↦ trusted_as c.loop-k.invariant.1.holds refl v.table-is (pair_same v.area-is v.sheet-is)
            | in-Ending v ↦ trusted_as (stays_true _ _ _ _ _ _ visited v.ran-is c.loop-k.invariant.1.holds) refl v.table-is refl
            | in-Open v ↦ trusted_as v.walk-ran.ensures.1 v.walk-ran.auto.table v.table-is (pair_same v.area-is v.sheet-is)
          ] in (
            on u _ q.1 _ _ _ _ _ c.match-r.y same_memory others c.loop-k-test.true (goes_on u c.loop-k-test.true _ c.step_at-step.ensures c.attempt-r.result.moved q.0 w.in-Ok.is _ z w.match-arrive.ran _ visited _ w.in-Going.is) (pair_same w.area-is w.sheet-is) w.rest-is nx,
            trusted_as trusted.holds (trusted.as_long ∙ c.loop-k.invariant.1.as_long) w.table-is (pair_same w.area-is w.sheet-is),
          )
      | in_default w ↦ (
        on u _ q.1 _ _ _ _ _ c.match-r.y same_memory others c.loop-k-test.true (is_rejected u c.loop-k-test.true _ c.step_at-step.ensures c.attempt-r.result.moved q.0 w.in_default.is) (pair_same w.area-is w.sheet-is) w.rest-is nx,
        trusted_as c.loop-k.invariant.1.holds c.loop-k.invariant.1.as_long w.table-is (pair_same w.area-is w.sheet-is),
      )
    ]

pub loop-i-preserved : goal.loop-i-preserved
loop-i-preserved t c =
    (leaves c.loop-i.invariant.0 (joins c.loop-i.invariant.0 c.loop-i-test.true _ _ (code_at c.loop-i.invariant.0 c.loop-i-test.true _) (thread_at c.loop-i.invariant.0 c.loop-i-test.true _) c.next_try-k.result c.next_try-k.ensures.0) c.loop-k.invariant.0 c.loop-k-test.false _ refl _ c.next_open-i.ensures, record { holds = c.loop-k.invariant.1.holds; as_long = c.loop-k.invariant.1.as_long ∙ c.loop-i.invariant.1.as_long })

pub returns-then-table-lt-SLOT : goal.returns-then-table-lt-SLOT
returns-then-table-lt-SLOT t c =
    (ends c.loop-i.invariant.0 c.loop-i-test.false, c.loop-i.invariant.1.holds)

pub overflow_sub-left : goal.overflow_sub-left
overflow_sub-left t c =
    rest_within _ _ _ _ _ (ends c.loop-i.invariant.0 c.loop-i-test.false) refl

pub returns : goal.returns
returns t c =
    let l = c.loop-i.invariant.1.as_long in
    let s = c.requires.1.has_slot (let h = c.if-table-lt-SLOT.false in omega arith) in
    let u = ends c.loop-i.invariant.0 c.loop-i-test.false in
    (u, still_true _ _ _ _ _ u refl c.requires.0.well _ c.loop-i.invariant.1.holds (omega (arith, c.ranges.left)) _ (omega arith) (whole_written c.loop-i.invariant.0 _ _ _ c.keep.ensures))
