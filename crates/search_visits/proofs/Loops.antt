-- What the loops of a visit know, on plain values: the machine that is changed in place, and where the search stands.
-- Assumes nothing.
use mathlib.Core.Path.{◌≡◌, refl, sym, ap, subst, subst₂, ◌∙◌}
use mathlib.Core.Logic.{◌⊎◌, inl, ⊎_elim}
use mathlib.Core.Bool.{Bool, true, false, cond}
use mathlib.Core.Option.{some}
use mathlib.Core.List.{List}
use Prim.Native.Nat.{ℕ, zero, suc, ◌+◌, ◌-◌, ◌*◌, ◌≤◌, ◌<◌}
use native.Mathlib.Omega.{arith}
use lib.Dec.{ltb}
use lib.ListN.{length, get_or, set}
use borrow.Author.Tests.{eqb-false}
use Rattle.std.specs.Prelude.{Result, Ok, Err}
use Rattle.program.specs.declared.Code.{Code}
use Rattle.program.specs.declared.Program.{Program}
use Rattle.machine.specs.declared.Memory.{Memory}
use Rattle.machine.specs.declared.Thread.{Thread}
use Rattle.machine.specs.declared.Machine.{Machine}
use Rattle.machine.specs.State.{fresh_thread, thread_of, append}
use Rattle.program.specs.Program.{instr_at, code_of}
use Rattle.program.specs.declared.Instr.{Instr}
use Rattle.program.proofs.Arrays.{get_d_any}
use Rattle.program.specs.declared.Refusal.{Refusal}
use Rattle.certify_runs.specs.Inner as certified
use Rattle.certify_runs.proofs.Ready.{program_facts, machine_facts, ready_here}
use Rattle.certify_runs.specs.Inner.{Sound}
use Rattle.encode_bytes.specs.Places.{put}
use Rattle.theory_sequences.specs.Scan.{Scan, going, found, out, and_then}
use Rattle.step.specs.Step.{Step, accepted, rejected, step}
use Rattle.step.specs.Order.{execution}
use Rattle.step.specs.Inner.{Here, promised_by, memory_after, Remembers, without_newest, Moves, potential}
use Rattle.step.proofs.Stepping.{room_taken}
use Rattle.step.proofs.Answered.{thread_taken, thread_refused}
use Rattle.trace_record.specs.Trace.{step_bytes}
use Rattle.step.proofs.Bound.{lowers}
use Rattle.step.proofs.Kept.{kept}
use Rattle.search_sequences.specs.Numbers.{key_promise}
use Rattle.search_table.specs.Table.{slot_with}
use Rattle.search_arrivals.specs.declared.Ran.{Ran}
use Rattle.search_arrivals.specs.declared.Ran.TheVariants.{Going, Found, Out}
use Rattle.search_arrivals.specs.declared.Aim.{Aim}
use Rattle.search_arrivals.specs.declared.Aim.TheVariants.{Question}
use Rattle.search_arrivals.specs.Visits.{visiting, trying, Reports, Visitable}
use Rattle.search_outcomes.specs.Table.{Notes}
use Rattle.search_tries.specs.Steps.{NextOpen, step_numbered, Numbered, NextStep}
use Rattle.search_tries.specs.declared.Attempts.{Attempts}
use Rattle.search_tries.specs.declared.Ahead.{Ahead}
use Rattle.search_tries.specs.Worthwhile.{Worth, Foreseen, Keepable}
use Rattle.search_tries.proofs.Refused.{sound_here}
use Rattle.search_tries.proofs.Worth.{keepable}
use Rattle.search_visits.proofs.Lent.{still_ready}
use Rattle.search_visits.proofs.InPlace.{set_again, set_back, taken_off}
use Rattle.search_arrivals.proofs.Turns.{BeforeThread, BeforeStep, begins, all_done, to_next, first_try, thread_done, to_open, refused_on, went_below, out_below, found_below, has_thread, not_ended}
use Rattle.search_arrivals.proofs.Ranges.{steps_from, threads_from}
use Rattle.search_arrivals.proofs.Acting.{found_question}

-- y is x but for thread i, and perhaps the memory
abbrev Others : Machine → ℕ → Machine → Type 0
Others x i y = (q : Thread) → set y.threads i q ≡ set x.threads i q

-- which thread is open next is told by the threads alone
open_by_threads : (p : Program) (x z : Machine) (i r : ℕ) → z.threads ≡ x.threads → NextOpen p z i r → NextOpen p x i r
open_by_threads p x z i r e n =
    let m : NextOpen p (record { memory = x.memory; threads = z.threads }) i r = record { within = n.within; after = n.after; has_next = n.has_next; ended = n.ended } in
    subst (λ (y : Machine). NextOpen p y i r) (λ j. record { memory = x.memory; threads = e j }) m

-- what is ahead of the search before step k of thread i, with so much left and noted
abbrev pub ahead_of : Program → Aim → Machine → ℕ → ℕ → ℕ → Notes → Scan Step Notes
ahead_of p a x i k rest n = and_then (trying p a x (steps_from (step_numbered i) 4113 k) rest n) (λ b m. trying p a x (threads_from (i + 1)) b m)

-- before thread i; `old` was noted before the visit of x, n is noted now
pub record AtThread (p : Program) (a : Aim) (x : Machine) (d left : ℕ) (old : Notes) (y : Machine) (n : Notes) (rest i : ℕ) : Type 0 where
  pub ready : Visitable p a x d n
  pub memory : y.memory ≡ x.memory
  pub four_codes : length p.codes ≡ 4
  pub four_threads : length x.threads ≡ 4
  pub put_back : y.threads ≡ x.threads
  pub as_long : length n.0 ≡ length old.0
  pub has_next : i < 4 → (thread_of x i).position < (code_of p i).count
  pub stands : BeforeThread p a x (visiting p a x left old) i rest n

-- before step k .next of thread i, which has code c, state s and the next instruction w; `whole` was ahead before the first of its steps, where `old` was noted
pub record AtStep (p : Program) (a : Aim) (x : Machine) (d : ℕ) (whole : Scan Step Notes) (old : Notes) (i : ℕ) (c : Code) (s : Thread) (w : Instr) (t : Attempts) (y : Machine) (n : Notes) (rest : ℕ) (k : Ahead) : Type 0 where
  pub ready : Visitable p a x d n
  pub here : Here c x.memory s p x i
  pub next_is : instr_at c s.position ≡ some w
  pub memory : y.memory ≡ x.memory
  pub others : Others x i y
  pub worth : Worth c x.memory s t
  pub in_program : i < p.threads
  pub ahead : Foreseen c x.memory s k
  pub as_long : length n.0 ≡ length old.0
  pub stands : BeforeStep p a x whole i k.next rest n

pub is_numbered : (i k : ℕ) (s : Step) → s ≡ step_numbered i k → Numbered s
unfolding step_numbered
is_numbered i k s e = subst Numbered (sym e) (go (ltb k 17))
  where
    go : (b : Bool) → Numbered (cond b (execution i k) (key_promise i (k - 17)))
    go true = (λ h. refl, omega arith)
    go false = (λ h. absurd (omega arith), omega arith)

step_thread : (i k : ℕ) → (step_numbered i k).thread ≡ i
unfolding step_numbered
step_thread i k = go (ltb k 17)
  where
    go : (b : Bool) → (cond b (execution i k) (key_promise i (k - 17))).thread ≡ i
    go true = refl
    go false = refl

module _ {p : Program} {a : Aim} {x : Machine} {d left : ℕ} {old : Notes} where
  pub enters : Visitable p a x d old → (left ≡ 0 → ⊥) → (i : ℕ) → NextOpen p x 0 i → (i ≡ 4 → ⊥) → length p.codes ≡ 4 → length x.threads ≡ 4
      → AtThread p a x d left old x old (left - 1) i
  enters o h i n four q w =
      let top = n.within in
      let l : i < 4 = omega (arith, four) in
      record {
        ready = o;
        memory = refl;
        four_codes = q;
        four_threads = w;
        put_back = refl;
        as_long = refl;
        has_next = n.has_next;
        stands = to_open p a x 0 i (left - 1) old n (begins p a x left old old (omega (arith, h)) (not_ended p a x (left - 1) old i (has_thread p x o.well i l (n.has_next l)) (n.has_next l)));
      }

  module _ {y : Machine} {n : Notes} {rest i : ℕ} (T : AtThread p a x d left old y n rest i) where
    pub in_program : i < 4 → i < p.threads
    in_program h = has_thread p x T.ready.well i h (T.has_next h)

    -- y is x again
    is_back : y ≡ x
    is_back j = record { memory = T.memory j; threads = T.put_back j }

    -- what is read from the arrays
    pub code_at : i < 4 → (e : Code) → get_or p.codes i e ≡ code_of p i
    unfolding code_of
    code_at h e = let q = T.four_codes in get_d_any _ _ p.codes i (omega arith)

    pub thread_at : i < 4 → (e : Thread) → get_or y.threads i e ≡ thread_of x i
    thread_at h e = let q = T.four_threads in ap (λ (l : List Thread). get_or l i e) T.put_back ∙ get_d_any _ _ x.threads i (omega arith)

    pub thread_ready : i < 4 → (c : Code) (s : Thread) → c ≡ code_of p i → s ≡ thread_of x i → certified.Ready c y.memory s
    thread_ready h c s e f = rw (e, f, T.memory) (ready_here p x T.ready.well i (in_program h))

    pub next_there : i < 4 → (c : Code) (s : Thread) → c ≡ code_of p i → s ≡ thread_of x i → (s.position < 16) × (s.position < c.count)
    next_there h c s e f =
        let l : s.position < c.count = rw (e, f) (T.has_next h) in
        let b = (thread_ready h c s e f).code_ok.short in
        (omega arith, l)

    pub first : i < 4 → (c : Code) (s : Thread) → c ≡ code_of p i → s ≡ thread_of x i → (u : Instr) → instr_at c s.position ≡ some u → (t : Attempts) → Worth c y.memory s t → (k : Ahead) → NextStep step_numbered 4113 c y.memory s 0 k.next × Foreseen c y.memory s k
        → AtStep p a y d (ahead_of p a y i k.next rest n) n i c s u t y n rest k
    first h c s e f u is_next t worth k next =
        let g : Here c x.memory s p x i = record { code = sym e; memory = refl; thread = sym f } in
        let w = subst (λ (m : Memory). Worth c m s t) T.memory worth in
        let nx = subst (λ (m : Memory). NextStep step_numbered 4113 c m s 0 k.next × Foreseen c m s k) T.memory next in
        subst (λ (z : Machine). AtStep p a z d (ahead_of p a z i k.next rest n) n i c s u t y n rest k) (sym is_back)
        (record {
          ready = T.ready;
          here = g;
          next_is = is_next;
          memory = T.memory;
          others = λ q. ap (λ (l : List Thread). set l i q) T.put_back;
          worth = w;
          in_program = in_program h;
          ahead = nx.1;
          as_long = refl;
          stands = refl;
        })

    -- what is ahead before the thread's first step that is worth a try is all that is ahead
    pub joins : i < 4 → (c : Code) (s : Thread) → c ≡ code_of p i → s ≡ thread_of x i → (k : Ahead) → NextStep step_numbered 4113 c y.memory s 0 k.next → visiting p a x left old ≡ ahead_of p a y i k.next rest n
    joins h c s e f k next =
        let g : Here c x.memory s p x i = record { code = sym e; memory = refl; thread = sym f } in
        let nx = subst (λ (m : Memory). NextStep step_numbered 4113 c m s 0 k.next) T.memory next in
        subst (λ (z : Machine). visiting p a x left old ≡ ahead_of p a z i k.next rest n) (sym is_back) (first_try p a x i k.next rest n g h nx T.stands)

    pub ends : 4 ≤ i → Reports d (visiting p a x left old) (Going rest) n
    ends h =
        let few = (program_facts p x T.ready.well).few_threads in
        subst (λ (o : Scan Step Notes). Reports d o (Going rest) n) (sym (all_done p a x i rest n (omega arith) T.stands))
        (record { answer = refl; lent = refl })

    -- an answer to what is ahead before the thread's first try is one to all
    pub answers : {whole : Scan Step Notes} {r : Ran} {after : Notes} → visiting p a x left old ≡ whole → Reports d whole r after → Reports d (visiting p a x left old) r after
    answers {whole} {r} {after} e t = subst (λ (o : Scan Step Notes). Reports d o r after) (sym e) t

    -- all steps of the thread are done
    pub leaves : {whole : Scan Step Notes} {c : Code} {s : Thread} {u : Instr} {t : Attempts} {y' : Machine} {n' : Notes} {rest' : ℕ} {k : Ahead} → visiting p a x left old ≡ whole → AtStep p a y d whole n i c s u t y' n' rest' k → 4113 ≤ k.next
        → (z : Machine) → z ≡ record { memory = y'.memory; threads = set y'.threads i s } → (r : ℕ) → NextOpen p z (i + 1) r → AtThread p a x d left old z n' rest' r
    leaves {whole} {c} {s} {u} {t} {y'} {n'} {rest'} {k} all done h z is r v =
        let U = subst (λ (o : Machine). AtStep p a o d whole n i c s u t y' n' rest' k) is_back done in
        let e = ap (λ (o : Machine). o.threads) is in
        let b : z.threads ≡ x.threads = e ∙ U.others s ∙ ap (set x.threads i) (sym U.here.thread) ∙ set_back x.threads i fresh_thread in
        let next = open_by_threads p x z (i + 1) r b v in
        record {
          ready = U.ready;
          memory = ap (λ (o : Machine). o.memory) is ∙ U.memory;
          four_codes = T.four_codes;
          four_threads = T.four_threads;
          put_back = b;
          as_long = U.as_long ∙ T.as_long;
          has_next = next.has_next;
          stands = all ∙ to_open p a x (i + 1) r rest' n' next (thread_done p a x i k.next rest' n' h U.stands);
        }

    -- what is below y is below x
    pub less_than_whole : (n : ℕ) → n < potential p y → n < potential p x
    less_than_whole n = subst (λ (z : Machine). n < potential p z) is_back

    -- what is written of y is written of x
    pub whole_written : (slot n : ℕ) (t : List ℕ) {new : List ℕ} → new ≡ slot_with slot y n t → new ≡ slot_with slot x n t
    whole_written slot n t e = e ∙ ap (λ (z : Machine). slot_with slot z n t) is_back

module _ {p : Program} {a : Aim} {x : Machine} {d : ℕ} {whole : Scan Step Notes} {old : Notes} where
  module _ {i : ℕ} {c : Code} {s : Thread} {w : Instr} {t : Attempts} {o : Machine} {n : Notes} {rest : ℕ} {k : Ahead} (U : AtStep p a x d whole old i c s w t o n rest k) where
    step_ready : certified.Ready c x.memory s
    step_ready =
        let h = U.here in
        subst (λ (m : Code). certified.Ready m x.memory s) h.code
        (subst (λ (m : Thread). certified.Ready (code_of p i) x.memory m) h.thread (ready_here p x U.ready.well i U.in_program))

    step_sound : Sound x.memory s
    step_sound = subst (λ (m : Thread). Sound x.memory m) U.here.thread (sound_here p x (machine_facts p x U.ready.well) i U.in_program)

    -- what an attempt asks, of a memory that is that of x
    pub attemptable : (n : Memory) → n ≡ x.memory → k.next < 4113 → (k' : Step) → k' ≡ step_numbered i k.next
        → certified.Ready c n s × (instr_at c s.position ≡ some w) × Numbered k' × Sound n s × Keepable c n s k' × Worth c n s t
    attemptable n e l k' g =
        subst (λ (a : Memory). certified.Ready c a s × (instr_at c s.position ≡ some w) × Numbered k' × Sound a s × Keepable c a s k' × Worth c a s t) (sym e)
        (step_ready, U.next_is, is_numbered i k.next k' g, step_sound, keepable c x.memory s i k.next l U.ahead.next_kept k' g, U.worth)

    pub attempted : (n : Memory) → n ≡ x.memory → (k' : Step) (r : Result Thread Refusal) (t' : Attempts) → Moves c n s k' r × Worth c n s t' → Moves c x.memory s k' r × Worth c x.memory s t'
    attempted n e k' r t' = subst (λ (a : Memory). Moves c a s k' r × Worth c a s t') e

    -- what the next try asks, and what it answers
    pub next_asked : (n : Memory) → n ≡ x.memory → (t' : Attempts) → Worth c x.memory s t' → k.next < 4113 → certified.Ready c n s × (Worth c n s t' × (Foreseen c n s k × (k.next < 4113)))
    next_asked n e t' v l = subst (λ (a : Memory). certified.Ready c a s × (Worth c a s t' × (Foreseen c a s k × (k.next < 4113)))) (sym e) (step_ready, (v, (U.ahead, l)))

    pub next_told : (n : Memory) → n ≡ x.memory → (k' : Ahead) → NextStep step_numbered 4113 c n s (k.next + 1) k'.next × Foreseen c n s k'
        → NextStep step_numbered 4113 c x.memory s (k.next + 1) k'.next × Foreseen c x.memory s k'
    next_told n e k' = subst (λ (a : Memory). NextStep step_numbered 4113 c a s (k.next + 1) k'.next × Foreseen c a s k') e

    -- thread i set once more
    pub set_others : (q : Thread) (o' : Machine) → o'.threads ≡ set o.threads i q → Others x i o'
    set_others q o' e a = ap (λ (l : List Thread). set l i a) e ∙ set_again o.threads i q a ∙ U.others a

    pub same_others : (o' : Machine) → o' ≡ o → Others x i o'
    same_others o' e a = ap (λ (z : Machine). set z.threads i a) e ∙ U.others a

    -- the step is done, and the search goes on with b left and mid noted
    pub record Passed (mid : Notes) (b : ℕ) : Type 0 where
      pub ready_then : Visitable p a x d mid
      pub long : length mid.0 ≡ length n.0
      pub stands_then : BeforeStep p a x whole i (k.next + 1) b mid

    -- on to the next try, with b left of the budget and t' to try
    pub on : (t' : Attempts) → Worth c x.memory s t' → (b rest' : ℕ) (k' : Ahead) (mid new : Notes) (o' : Machine) → o'.memory ≡ x.memory → Others x i o' → k.next < 4113 → Passed mid b → new ≡ mid → rest' ≡ b
        → NextStep step_numbered 4113 c x.memory s (k.next + 1) k'.next × Foreseen c x.memory s k' → AtStep p a x d whole old i c s w t' o' new rest' k'
    on t' worth b rest' k' mid new o' same_memory others l v e f nx =
        record {
          ready = subst (Visitable p a x d) (sym e) v.ready_then;
          here = U.here;
          next_is = U.next_is;
          memory = same_memory;
          others = others;
          worth = worth;
          in_program = U.in_program;
          ahead = nx.1;
          as_long = ap (λ (m : Notes). length m.0) e ∙ v.long ∙ U.as_long;
          stands = to_next p a x i (k.next + 1) k'.next rest' new U.here (omega arith) nx.0 (subst₂ (BeforeStep p a x whole i (k.next + 1)) (sym f) (sym e) v.stands_then);
        }

    module _ (l : k.next < 4113) (k' : Step) (e : k' ≡ step_numbered i k.next) (r : Result Thread Refusal) (q : Moves c x.memory s k' r) where
      thread_is : k'.thread ≡ i
      thread_is = ap (λ (y : Step). y.thread) e ∙ step_thread i k.next

      here_too : Here c x.memory s p x k'.thread
      here_too = subst (Here c x.memory s p x) (sym thread_is) U.here

      in_program_too : k'.thread < p.threads
      in_program_too = let h = thread_is in let g = U.in_program in omega arith

      pub is_rejected : {j : Refusal} → r ≡ Err j → Passed n rest
      is_rejected {j} h =
          record {
            ready_then = U.ready;
            long = refl;
            stands_then =
                refused_on p a x i k.next rest n l U.stands j
                (subst (λ (y : Step). step p x y ≡ rejected j) e (thread_refused p x U.ready.well k' in_program_too here_too r q h));
          }

      -- the memory with the message of a promise, and the threads as they are
      pub record Promised (z : Machine) : Type 0 where
        pub remembers : Remembers x.memory k' z.memory
        pub threads : z.threads ≡ o.threads

      pub by_promise : (n' : Memory) → Remembers o.memory k' n' → (z : Machine) → z ≡ record { memory = n'; threads = o.threads } → Promised z
      by_promise n' v z is = record {
        remembers = λ room. ap (λ (a : Machine). a.memory) is ∙ subst (λ (a : Memory). Remembers a k' n') U.memory v room;
        threads = ap (λ (a : Machine). a.threads) is;
      }

      pub by_none : k'.kind ≡ 0 → (z : Machine) → z ≡ o → Promised z
      by_none none z is = record {
        remembers = λ room. ap (λ (a : Machine). a.memory) is ∙ U.memory ∙ sym (ap (memory_after x.memory k') none);
        threads = ap (λ (a : Machine). a.threads) is;
      }

      module _ {s' : Thread} (h : r ≡ Ok s') (z : Machine) (v : Promised z) where
        abbrev y : Machine
        y = record { memory = z.memory; threads = set z.threads i s' }

        is_accepted : step p x (step_numbered i k.next) ≡ accepted y
        is_accepted =
            subst (λ (j : Step). step p x j ≡ accepted y) e
            (thread_taken p x U.ready.well k' in_program_too here_too r q h z.memory v.remembers y
            (λ j. record { memory = z.memory; threads = (ap (λ (l : List Thread). set l i s') v.threads ∙ U.others s' ∙ ap (λ (n : ℕ). set x.threads n s') (sym thread_is)) j }))

        has_room : (k'.kind ≡ 0) ⊎ (x.memory.count < 16)
        has_room = room_taken p x k' _ r (q p x here_too) h

        -- the memory of a promise is that of x with its message
        with_message : (k'.kind ≡ 0 → ⊥) → (z.memory ≡ append x.memory (promised_by k')) × (x.memory.count < 16)
        with_message not =
            let few : x.memory.count < 16 = ⊎_elim (λ none. absurd (not none)) (λ l. l) has_room in
            (v.remembers has_room ∙ go k'.kind not, few)
          where
            go : (n : ℕ) → (n ≡ 0 → ⊥) → memory_after x.memory k' n ≡ append x.memory (promised_by k')
            go zero n = absurd (n refl)
            go (suc n) s = refl

        pub has_newest : (k'.kind ≡ 0 → ⊥) → (0 < z.memory.count) × (z.memory.count ≤ 16)
        has_newest not =
            let w = with_message not in
            let e = ap (λ (a : Memory). a.count) w.0 in
            let few = w.1 in
            (omega arith, omega arith)

        -- it is taken off again
        pub off_again : (k'.kind ≡ 0 → ⊥) → without_newest z.memory ≡ x.memory
        off_again not =
            ap without_newest (with_message not).0
            ∙ taken_off x.memory (promised_by k') ((machine_facts p x U.ready.well).memory_ok.unused x.memory.count (omega arith))

        pub still : k'.kind ≡ 0 → z.memory ≡ x.memory
        still none = v.remembers (inl none) ∙ ap (memory_after x.memory k') none

        pub lower : potential p y < potential p x
        lower = lowers p x y (step_numbered i k.next) is_accepted

        pub ready_below : Visitable p a y (d + 1) n
        ready_below =
            let o = U.ready in
            record {
              well = record { program_formed = o.well.program_formed; machine_formed = kept p x y (step_numbered i k.next) is_accepted };
              short = let b = lower in let s = o.short in omega arith;
              room = o.room;
              orderly = o.orderly;
            }

        module _ (ran : Ran) (mid : Notes) (below : Reports (d + 1) (visiting p a y rest n) ran mid) where
          pub goes_on : (b : ℕ) → ran ≡ Going b → Passed mid b
          goes_on b f =
              let s = still_ready U.ready y rest (d + 1) b ran mid below f in
              record { ready_then = s.0; long = s.1; stands_then = went_below p a x i k.next rest n l U.stands y is_accepted (d + 1) b ran mid below f }

          pub runs_out : ran ≡ Out → Reports d whole Out mid
          runs_out f = out_below p a x i k.next rest n l U.stands y is_accepted d ran mid below f

          -- only a search that asks the question ends early
          pub asks : (b j : ℕ) → ran ≡ Found b j → a ≡ Question
          asks b j f = go (visiting p a y rest n) refl below
            where
              go : (s : Scan Step Notes) → visiting p a y rest n ≡ s → Reports (d + 1) s ran mid → a ≡ Question
              go (going c m) q u = absurd (let v = u.answer in eqb-false 0 1 refl cc)
              go (out m) q u = absurd (let v = u.answer in eqb-false 0 1 refl cc)
              go (found c s' m) q u = found_question p a y rest c n m s' q

          -- and then the area has room for the step
          pub room_here : (b j : ℕ) → ran ≡ Found b j → 480 ≤ length n.0
          room_here b j f = U.ready.room (asks b j f)

          pub finds : (b j : ℕ) → ran ≡ Found b j → (new : Notes) → new ≡ (put (d * 6) (step_bytes k') mid.0, mid.1) → Reports d whole (Found b j) new
          finds b j f new g = found_below p a x i k.next rest n l U.stands y is_accepted d b j ran mid new ready_below below f k' e g
