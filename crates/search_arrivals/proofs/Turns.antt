-- Where a visit stands in the search, and what each answer below a step says of it.
-- Assumes nothing.
use mathlib.Core.Path.{◌≡◌, refl, sym, ap, subst, ◌∙◌}
use mathlib.Core.Bool.{Bool, true, false, ◌&&◌, true≢false}
use mathlib.Core.List.{List, [], ◌∷◌}
use mathlib.Core.Option.{none, some}
use Prim.Native.Nat.{ℕ, zero, suc, ◌+◌, ◌-◌, ◌*◌, ◌≤◌, ◌<◌}
use native.Mathlib.Decide.{dec_lt}
use native.Mathlib.Omega.{arith}
use lib.Dec.{T, eqb, eqb→eq}
use lib.ListN.{length}
use borrow.Author.Tests.{eqb-false}
use Rattle.program.specs.declared.Code.{Code}
use Rattle.program.specs.declared.Program.{Program}
use Rattle.machine.specs.declared.Memory.{Memory}
use Rattle.machine.specs.declared.Thread.{Thread}
use Rattle.machine.specs.declared.Machine.{Machine}
use Rattle.machine.specs.State.{thread_of}
use Rattle.program.specs.Program.{code_of}
use Rattle.program.proofs.Tests.{and_left, below_at}
use Rattle.program.proofs.Shape.{program_iff}
use Rattle.program.specs.declared.Refusal.{Refusal}
use Rattle.machine.specs.Inner.{Formed}
use Rattle.certify_runs.proofs.Ready.{program_facts}
use Rattle.encode_bytes.specs.Places.{put}
use Rattle.encode_bytes.proofs.Putting.{put_none}
use Rattle.theory_sequences.proofs.Scan.{found_short}
use Rattle.theory_sequences.specs.Scan.{Scan, going, found, out, and_then, under, noted_of}
use Rattle.step.specs.Step.{Step, accepted, rejected, step}
use Rattle.step.specs.Inner.{Here}
use Rattle.step.specs.Outcome.{complete, question_holds, asked, outcome}
use Rattle.trace_record.specs.Trace.{step_bytes, trace_bytes}
use Rattle.search_sequences.specs.OfProgram.{stepping}
use Rattle.search_arrivals.specs.Visits.{Ran, Going, Found, Out, Aim, Question, Outcomes, Over, acts, visiting, trying, at_end, Reports, Visitable, Meets}
use Rattle.search_outcomes.specs.Table.{Notes, noted}
use Rattle.search_tries.specs.Steps.{NextOpen, step_numbered, NextStep}
use Rattle.search_sequences.proofs.Machine.{lawful}
use Rattle.search_arrivals.proofs.Ranges.{steps_from, next_step, at_end_lem, steps_of, threads_from, all_threads, next_thread, by_number}
use Rattle.search_arrivals.proofs.Parts.{visiting_is, none_left, ends_here, goes_from_here, no_step, two_parts, step_refused, step_accepted}
use Rattle.search_arrivals.proofs.Skipped.{no_more_threads, passed_over}
use Rattle.search_tries.proofs.Worth.{nothing_left}
use Rattle.trace_record.proofs.Writing.{trace_length, put_under}
use Rattle.search_arrivals.proofs.Telling.{went_on}
use Rattle.search_arrivals.proofs.Acting.{asked_past, asked_ends, visiting_long, found_question}

-- one part after another, and then a third
then_then : (o : Scan Step Notes) (f g : ℕ → Notes → Scan Step Notes) → and_then (and_then o f) g ≡ and_then o (λ b n. and_then (f b n) g)
then_then (going b n) f g = refl
then_then (found b q n) f g = refl
then_then (out n) f g = refl

module _ (p : Program) (a : Aim) (x : Machine) where
  -- ---- before the steps
  pub out_of_budget : (d left : ℕ) (n : Notes) → left ≡ 0 → Reports d (visiting p a x left n) Out n
  out_of_budget d left n e =
      let q : visiting p a x left n ≡ out n = ap (λ (b : ℕ). visiting p a x b n) e ∙ none_left p a x n in
      subst (λ (o : Scan Step Notes). Reports d o Out n) (sym q) (record { answer = refl; lent = refl })

  pub found_here : (d left : ℕ) (n : Notes) → 0 < left → acts p a x (left - 1) n ≡ none → Reports d (visiting p a x left n) (Found (left - 1) d) n
  unfolding trace_bytes
  found_here d left n h e =
      subst (λ (o : Scan Step Notes). Reports d o (Found (left - 1) d) n) (sym (ends_here p a x left n h e))
      (let z : d ≡ d + 0 = omega arith in record { answer = ap (Found (left - 1)) z; lent = ap (λ (l : List ℕ). (l, n.1)) (sym (put_none (6 * d) n.0)) })

  -- ---- the search stands before thread i, or before step k of thread i, with so much left and noted
  abbrev pub BeforeThread : Scan Step Notes → ℕ → ℕ → Notes → Type 0
  BeforeThread whole i rest n = whole ≡ trying p a x (threads_from i) rest n

  abbrev pub BeforeStep : Scan Step Notes → ℕ → ℕ → ℕ → Notes → Type 0
  BeforeStep whole i k rest n = whole ≡ and_then (trying p a x (steps_from (step_numbered i) 4113 k) rest n) (λ b m. trying p a x (threads_from (i + 1)) b m)

  pub begins : (left : ℕ) (n m : Notes) → 0 < left → acts p a x (left - 1) n ≡ some m → BeforeThread (visiting p a x left n) 0 (left - 1) m
  begins left n m h e = goes_from_here p a x left n m h e ∙ ap (λ (l : List Step). trying p a x l (left - 1) m) all_threads

  module _ {whole : Scan Step Notes} where
    pub all_done : (i rest : ℕ) (n : Notes) → p.threads ≤ i → BeforeThread whole i rest n → whole ≡ going rest n
    all_done i rest n h w = w ∙ no_more_threads p a x i rest n h

    pub to_next : (i k k' rest : ℕ) (n : Notes) {c : Code} {m : Memory} {s : Thread} → Here c m s p x i → k ≤ 4113 → NextStep step_numbered 4113 c m s k k' → BeforeStep whole i k rest n → BeforeStep whole i k' rest n
    to_next i k k' rest n g l nx w =
        w ∙ ap (λ (o : Scan Step Notes). and_then o (λ b m. trying p a x (threads_from (i + 1)) b m)) (passed_over p a x (step_numbered i) 4113 k k' rest n (nx.after l) nx.within (nx.refused p x i g))

    pub first_try : (i k rest : ℕ) (n : Notes) {c : Code} {m : Memory} {s : Thread} → Here c m s p x i → i < 4 → NextStep step_numbered 4113 c m s 0 k → BeforeThread whole i rest n → BeforeStep whole i k rest n
    first_try i k rest n g l nx w =
        to_next i 0 k rest n g (omega arith) nx
        (w ∙ ap (λ (q : List Step). trying p a x q rest n) (next_thread i l) ∙ two_parts p a x (steps_of i) (threads_from (i + 1)) rest n
        ∙ ap (λ (q : List Step). and_then (trying p a x q rest n) (λ b m. trying p a x (threads_from (i + 1)) b m)) (by_number i))

    pub thread_done : (i k rest : ℕ) (n : Notes) → 4113 ≤ k → BeforeStep whole i k rest n → BeforeThread whole (i + 1) rest n
    thread_done i k rest n h w =
        w ∙ ap (λ (o : Scan Step Notes). and_then o (λ b m. trying p a x (threads_from (i + 1)) b m))
        (ap (λ (q : List Step). trying p a x q rest n) (at_end_lem (step_numbered i) 4113 k h) ∙ no_step p a x rest n)

    -- a thread at its end has no step, nor have those up to the next that is not
    pub past_thread : (i rest : ℕ) (n : Notes) → i < 4 → (code_of p i).count ≤ (thread_of x i).position → BeforeThread whole i rest n → BeforeThread whole (i + 1) rest n
    past_thread i rest n l e w =
        let g : Here (code_of p i) x.memory (thread_of x i) p x i = record { code = refl; memory = refl; thread = refl } in
        thread_done i 4113 rest n (omega arith) (first_try i 4113 rest n g l (nothing_left _ _ _ e) w)

    pub past_threads : (j i r rest : ℕ) (n : Notes) → i + j ≡ r → NextOpen p x i r → BeforeThread whole i rest n → BeforeThread whole r rest n
    past_threads zero i r rest n e o w = let same : i ≡ r = omega arith in subst (λ (j : ℕ). BeforeThread whole j rest n) same w
    past_threads (suc j) i r rest n e o w =
        let top = o.within in
        past_threads j (i + 1) r rest n (omega arith)
        (record { within = top; after = omega arith; has_next = o.has_next; ended = λ k l u. o.ended k (omega arith) u })
        (past_thread i rest n (omega arith) (o.ended i (omega arith) (omega arith)) w)

    pub to_open : (i r rest : ℕ) (n : Notes) → NextOpen p x i r → BeforeThread whole i rest n → BeforeThread whole r rest n
    to_open i r rest n o w = let after = o.after in past_threads (r - i) i r rest n (omega arith) o w

    -- ---- at step k of thread i
    module _ (i k rest : ℕ) (n : Notes) (l : k < 4113) (w : BeforeStep whole i k rest n) where
      -- what follows the search below the step
      rest_of : ℕ → Notes → Scan Step Notes
      rest_of b m = and_then (trying p a x (steps_from (step_numbered i) 4113 (k + 1)) b m) (λ c j. trying p a x (threads_from (i + 1)) c j)

      at_step : whole ≡ and_then (trying p a x (step_numbered i k ∷ []) rest n) rest_of
      unfolding rest_of
      at_step =
          w ∙ ap (λ (o : Scan Step Notes). and_then o (λ b m. trying p a x (threads_from (i + 1)) b m))
          (ap (λ (q : List Step). trying p a x q rest n) (next_step (step_numbered i) 4113 k l) ∙ two_parts p a x (step_numbered i k ∷ []) (steps_from (step_numbered i) 4113 (k + 1)) rest n)
          ∙ then_then (trying p a x (step_numbered i k ∷ []) rest n) (λ b m. trying p a x (steps_from (step_numbered i) 4113 (k + 1)) b m) (λ b m. trying p a x (threads_from (i + 1)) b m)

      pub refused_on : (r : Refusal) → step p x (step_numbered i k) ≡ rejected r → BeforeStep whole i (k + 1) rest n
      unfolding rest_of
      refused_on r e = at_step ∙ ap (λ (o : Scan Step Notes). and_then o rest_of) (step_refused p a x (step_numbered i k) r rest n e)

      module _ (y : Machine) (e : step p x (step_numbered i k) ≡ accepted y) where
        below : trying p a x (step_numbered i k ∷ []) rest n ≡ under (step_numbered i k) (visiting p a y rest n)
        below = step_accepted p a x (step_numbered i k) y rest n e

        pub went_below : (d b : ℕ) (r : Ran) (after : Notes) → Reports d (visiting p a y rest n) r after → r ≡ Going b → BeforeStep whole i (k + 1) b after
        unfolding rest_of
        went_below d b r after t z = at_step ∙ ap (λ (o : Scan Step Notes). and_then o rest_of) (below ∙ ap (under (step_numbered i k)) (went_on (visiting p a y rest n) t b z))

        pub out_below : (d : ℕ) (r : Ran) (after : Notes) → Reports (d + 1) (visiting p a y rest n) r after → r ≡ Out → Reports d whole Out after
        out_below d r after t z = subst (λ (o : Scan Step Notes). Reports d o Out after) (sym at_step) (go (visiting p a y rest n) refl t)
          where
            go : (o : Scan Step Notes) → visiting p a y rest n ≡ o → Reports (d + 1) o r after → Reports d (and_then (trying p a x (step_numbered i k ∷ []) rest n) rest_of) Out after
            go (going c m) q u = absurd (let t = u.answer in eqb-false 0 1 refl cc)
            go (found c s m) q u = absurd (let t = u.answer in eqb-false 0 1 refl cc)
            go (out m) q u = subst (λ (o : Scan Step Notes). Reports d (and_then o rest_of) Out after) (sym (below ∙ ap (under (step_numbered i k)) q)) (record { answer = refl; lent = u.lent })

        pub found_below : (d b j : ℕ) (r : Ran) (after last : Notes) → Visitable p a y (d + 1) n → Reports (d + 1) (visiting p a y rest n) r after → r ≡ Found b j
            → (s : Step) → s ≡ step_numbered i k → last ≡ (put (d * 6) (step_bytes s) after.0, after.1) → Reports d whole (Found b j) last
        found_below d b j r after last room t z s f put-it = subst (λ (o : Scan Step Notes). Reports d o (Found b j) last) (sym at_step) (go (visiting p a y rest n) refl t)
          where
            go : (o : Scan Step Notes) → visiting p a y rest n ≡ o → Reports (d + 1) o r after → Reports d (and_then (trying p a x (step_numbered i k ∷ []) rest n) rest_of) (Found b j) last
            go (going c m) q u = absurd (let t = u.answer in eqb-false 0 1 refl cc)
            go (out m) q u = absurd (let t = u.answer in eqb-false 0 1 refl cc)
            go (found c s' m) q u =
                let t : Found b j ≡ Found c (d + 1 + length s') = sym z ∙ u.answer in
                let same : b ≡ c = cc in
                let size : j ≡ d + 1 + length s' = cc in
                let size' : j ≡ d + suc (length s') = omega arith in
                let short = found_short (stepping p) (lawful p) (acts p a) y rest c n m s' (sym (visiting_is p a y rest n) ∙ q) in
                let bytes = trace_length s' in
                let long : length m.0 ≡ length n.0 = ap (λ (o : Scan Step Notes). length (noted_of o).0) (sym q) ∙ visiting_long p a y rest n in
                let wide = room.room (found_question p a y rest c n m s' q) in
                let few = room.short in
                let place : d * 6 ≡ 6 * d = omega arith in
                let place' : 6 * (d + 1) ≡ 6 * d + 6 = omega arith in
                subst (λ (o : Scan Step Notes). Reports d (and_then o rest_of) (Found b j) last) (sym (below ∙ ap (under (step_numbered i k)) q))
                (record {
                  answer = rw (same, size');
                  lent = put-it ∙ rw (f, place, u.lent, place') (ap (λ (v : List ℕ). (v, m.1)) (put_under (6 * d) (step_numbered i k) s' m.0 (omega arith)));
                })

-- a thread that is not at its end is one of the program's
pub has_thread : (p : Program) (x : Machine) → Formed p x → (i : ℕ) → i < 4 → (thread_of x i).position < (code_of p i).count → i < p.threads
has_thread p x o i h l = elim (dec_lt i p.threads) [
  | yes b ↦ b
  | no b ↦ absurd (let z = ((program_iff p).0 o.program_formed).idle i (omega arith) h in omega arith)
]

-- a machine with a thread that is not at its end is not complete
not_complete : (p : Program) (x : Machine) (i : ℕ) → i < p.threads → (thread_of x i).position < (code_of p i).count → complete p x ≡ false
unfolding complete
not_complete p x i h l = go (complete p x) refl
  where
    done : ℕ → Bool
    done j = eqb (thread_of x j).position (code_of p j).count && eqb (thread_of x j).promises 0

    go : (b : Bool) → complete p x ≡ b → b ≡ false
    go false e = refl
    go true e =
        absurd
        (let t = and_left (eqb (thread_of x i).position (code_of p i).count) (eqb (thread_of x i).promises 0) (below_at done p.threads (subst T (sym e) tt) i h) in
        let same = eqb→eq (thread_of x i).position (code_of p i).count t in
        omega arith)

-- nothing is done at a machine that is not complete
not_asked : (p : Program) (x : Machine) → complete p x ≡ false → asked p x ≡ false
unfolding asked
not_asked p x e = go (complete p x) e
  where
    go : (b : Bool) → b ≡ false → (b && question_holds p x) ≡ false
    go false d = refl
    go true d = absurd (true≢false d)

pub goes_past : (p : Program) (a : Aim) (x : Machine) (b : ℕ) (n : Notes) → complete p x ≡ false → acts p a x b n ≡ some n
unfolding acts
goes_past p Question x b n e = asked_past p x b n (not_asked p x e)
goes_past p (Outcomes wide) x b n e = rw e

pub not_ended : (p : Program) (a : Aim) (x : Machine) (b : ℕ) (n : Notes) (i : ℕ) → i < p.threads → (thread_of x i).position < (code_of p i).count → acts p a x b n ≡ some n
not_ended p a x b n i h l = goes_past p a x b n (not_complete p x i h l)

both_asked : (p : Program) (x : Machine) (h : Bool) → complete p x ≡ true → question_holds p x ≡ h → asked p x ≡ h
unfolding asked
both_asked p x h e f = rw e f

notes_complete : (p : Program) (wide : Bool) (x : Machine) (b : ℕ) (n : Notes) → complete p x ≡ true → acts p (Outcomes wide) x b n ≡ some (noted wide (outcome p x) b n)
unfolding acts
notes_complete p wide x b n e = rw e

-- ---- all threads are at their end
module _ (p : Program) (a : Aim) (x : Machine) (d left : ℕ) (t : List ℕ) (n : Notes) (some_left : left ≡ 0 → ⊥) (i : ℕ) (o : NextOpen p x 0 i) (ended : i ≡ 4) (well : Formed p x) where
  nothing_follows : (m : Notes) → acts p a x (left - 1) n ≡ some m → visiting p a x left n ≡ going (left - 1) m
  nothing_follows m e =
      let few = (program_facts p x well).few_threads in
      all_done p a x i (left - 1) m (omega arith) (to_open p a x 0 i (left - 1) m o (begins p a x left n m (omega (arith, some_left)) e))

  over : (m : Notes) → m ≡ n → acts p a x (left - 1) n ≡ some m → Meets p a x d left t n (Over (Going (left - 1)))
  unfolding Meets
  over m same e = subst (λ (o : Scan Step Notes). Reports d o (Going (left - 1)) n) (sym (nothing_follows m e)) (record { answer = refl; lent = sym same })

  pub at_the_end : Meets p a x d left t n (at_end a d (left - 1) (complete p x) (question_holds p x))
  unfolding Meets
  at_the_end = go (complete p x) (question_holds p x) a refl refl refl
    where
      go : (b h : Bool) (c : Aim) → complete p x ≡ b → question_holds p x ≡ h → a ≡ c → Meets p a x d left t n (at_end c d (left - 1) b h)
      go false h c e f g = over n refl (goes_past p a x (left - 1) n e)
      go true true Question e f g =
          found_here p a x d left n (omega (arith, some_left)) (subst (λ (c : Aim). acts p c x (left - 1) n ≡ none) (sym g) (asked_ends p x (left - 1) n (both_asked p x true e f)))
      go true false Question e f g = over n refl (subst (λ (c : Aim). acts p c x (left - 1) n ≡ some n) (sym g) (asked_past p x (left - 1) n (both_asked p x false e f)))
      go true h (Outcomes wide) e f g =
          (g, nothing_follows (noted wide (outcome p x) (left - 1) n) (subst (λ (c : Aim). acts p c x (left - 1) n ≡ some (noted wide (outcome p x) (left - 1) n)) (sym g) (notes_complete p wide x (left - 1) n e)))
