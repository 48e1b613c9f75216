-- The first certifying run while the search of runs comes back with it: what is shown after each part of the search.
-- Assumes nothing.
use mathlib.Core.Path.{◌≡◌, refl, sym, ap, subst, ◌∙◌}
use mathlib.Core.Logic.{◌⊎◌, inl, inr, ⊎_elim}
use mathlib.Core.Bool.{Bool, true, false}
use mathlib.Core.List.{List, [], ◌∷◌}
use Prim.Native.Nat.{ℕ, zero, suc, ◌+◌, ◌≤◌, ◌<◌}
use native.Mathlib.Omega.{arith}
use lib.ListN.{length}
use Rattle.std.specs.Prelude.{Result, Ok}
use Rattle.program.specs.declared.Refusal.{Refusal}
use Rattle.machine.specs.State.{append}
use Rattle.machine.specs.Rules.{next, execute, add_promise, store_message}
use Rattle.machine.specs.Inner.{ruled, own_store}
use Rattle.machine.proofs.Cases.{ruled_done}
use Rattle.machine.proofs.Sets.{has_positive}
use Rattle.machine.proofs.Effects.{effect, effect_time, moves}
use Rattle.certify_runs.specs.Below.{Code, Operand, StoreMode, Instr, Store, Memory, Thread}
use Rattle.certify_runs.specs.declared.RunStep.{RunStep}
use Rattle.certify_runs.specs.Certify.{executed, own_message, message_of}
use Rattle.certify_runs.specs.Runs.{Certifying}
use Rattle.certify_runs.specs.Inner.{Trying}
use Rattle.certify_runs.specs.First.{First}
use Rattle.certify_runs.proofs.First.{run_short}
use Rattle.certify_runs.proofs.Preceding.{first_stop, first_at, first_own}
use Rattle.certify_runs.proofs.Executes.{executes}
use Rattle.certify_trail.specs.Trail.{Trail, passing}
use Rattle.certify_cares.specs.declared.Cares.{Cares}
use Rattle.certify_under.specs.Threads.{cohering}
use Rattle.certify_under.proofs.Resting.{rests_self}
use Rattle.certify_straight.specs.Straight.{Step, Walked, start, further}
use Rattle.certify_straight.proofs.Plain.{plain_effect}
use Rattle.certify_window.specs.Idle.{Idles}
use Rattle.certify_sought.specs.declared.Met.{Met}
use Rattle.certify_sought.specs.declared.Sought.{Sought}
use Rattle.certify_sought.specs.Numbers.{meeting, certifying, Unmet, Better, same, more}
use Rattle.certify_sought.specs.Aim.{Fills}
use Rattle.certify_sought.proofs.Numbers.{narrows, met_now}
use Rattle.certify_tried.specs.declared.Reached.{Reached}
use Rattle.certify_tried.specs.declared.Tried.{Tried}
use Rattle.certify.specs.Search.{Unkept, Filled, Missed}
use Rattle.certify.specs.Shows.{Shows, ShowsAt, ShowsOwn}
use Rattle.certify.proofs.Finding.{comes_as, likewise_self}
use Rattle.certify.proofs.Filling.{fills_out}
use Rattle.certify.proofs.Leading.{plain_promises}
use Rattle.certify.proofs.Vacant.{idle_first}

-- ---- where an empty promise set is sought, and none was met
-- nothing else is met, and then nothing is sought any more
met_once : {P : ℕ → Type 0} {r : Met} → Better 0 P certifying.met r → (r ≡ certifying.met) ⊎ ((n : ℕ) → Unmet 0 r n → ⊥)
met_once same = inl refl
met_once (more {r = r} k b u h) =
    inr (λ n v. let first = (narrows b k u).1 in let then = (narrows (more k b u h) n v).1 in met_now 0 k r (subst (Unmet 0 (meeting k r)) (omega arith) v))

module _ (q : Sought) (asked : q ≡ certifying) where
  no_hole : q.hole ≡ 0
  no_hole = ap (λ (o : Sought). o.hole) asked

  -- what was met is not 0
  pub unmet_zero : {A : Type 0} (r : Met) → r ≡ q.met → r.least ≡ 0 → A
  unmet_zero r e z = let one = ap (λ (o : Sought). o.met.least) asked in let here = ap (λ (p : Met). p.least) e in absurd (omega arith)

  -- an empty promise set is sought
  zero_unmet : (p : Met) → p ≡ q.met → Unmet q.from p 0
  zero_unmet p e = subst (λ (r : Met). Unmet q.from r 0) (sym e) (subst (λ (o : Sought). Unmet o.from o.met 0) (sym asked) (omega arith, omega arith, λ z. omega arith))

  -- where something is sought still, nothing was met
  pub still_unmet : {P : ℕ → Type 0} (p r : Met) → p ≡ q.met → Better q.from P p r → (n : ℕ) × Unmet q.from r n → r ≡ q.met
  still_unmet {P} p r e b left =
      ⊎_elim (λ same. same ∙ ap (λ (o : Sought). o.met) (sym asked)) (λ over. absurd (over left.0 (subst (λ (o : Sought). Unmet o.from r left.0) asked left.1)))
      (met_once (subst (λ (o : Sought). Better o.from P o.met r) asked (subst (λ (x : Met). Better q.from P x r) e b)))

  -- a store fills no hole
  pub filled_none : {c : Code} {i : ℕ} {m : Memory} {s : Thread} {x : Instr} (r : Reached) → Filled c i m s x q r → r.met ≡ q.met
  filled_none {c} {i} {m} {s} {x} r f = none_filled f.better
    where
      none_filled : {p : Met} → Better q.from (λ k. Fills c i x q.hole k m s) q.met p → p ≡ q.met
      none_filled same = refl
      none_filled (more k b u h) = let out = has_positive s.promises q.hole (fills_out h) in let zero = no_hole in absurd (omega arith)

-- nothing is shown
pub shows_none : {c : Code} {i : ℕ} {m : Memory} {s : Thread} (q : Sought) (r : Reached) → (q ≡ certifying → r.met ≡ q.met) → Shows c i m s q r
shows_none q r none e z = unmet_zero q e r.met (none e) z

-- ---- the end of the run
pub shows_stop : {c : Code} {i : ℕ} {m : Memory} {s : Thread} {q : Sought} (now : Met) {words : List ℕ} → s.promises ≡ 0 → Trail words [] → Shows c i m s q (record { met = now; cares = record { of = words } })
shows_stop now e written asked z = ([], (first_stop e, written))

-- ---- instructions that have one way to go on
walked_promises : {c : Code} {s : Thread} {steps : List Step} {y : Thread} {j : ℕ} → Walked c s steps j y → y.promises ≡ s.promises
walked_promises start = refl
walked_promises (further x w g p told tells) = plain_promises x _ _ p ∙ walked_promises w

length_passing : (n : ℕ) (l : List RunStep) → length (passing n l) ≡ n + length l
unfolding passing
length_passing zero l = omega arith
length_passing (suc n) l = let h = length_passing n (executed 0 ∷ l) in omega arith

walked_first : {c : Code} {i : ℕ} {m : Memory} {s : Thread} {steps : List Step} {y : Thread} {j : ℕ} → (s.promises ≡ 0 → ⊥) → Walked c s steps j y → (l : List RunStep) → First c i m y l → First c i m s (passing j l)
unfolding passing
walked_first out start l d = d
walked_first {c} {i} {m} out (further {y = y} {y' = y'} x w g p told tells) l d =
    walked_first out w (executed 0 ∷ l)
    (first_at c i m y (λ e. out (sym (walked_promises w) ∙ e)) x g 0 y' l (omega arith) (executes (plain_effect x y y' p m)) d (λ u z lt. absurd (omega arith)))

pub shows_walked : {c : Code} {i : ℕ} {m : Memory} {s y : Thread} {steps : List Step} {j : ℕ} {q : Sought} → c.count ≤ 16 → (q.hole ≡ 0 → s.promises ≡ 0 → ⊥) → Walked c s steps j y → (r : Reached) → Shows c i m y q r
    → (k : Cares) → ((l : List RunStep) → Trail r.cares.of l → length l + j ≤ 16 → Trail k.of (passing j l)) → Shows c i m s q (record { met = r.met; cares = k })
shows_walked {j = j} {q = q} short out w r shown k passes asked z =
    let h = shown asked z in
    let d = walked_first (out (no_hole q asked)) w h.0 h.1.0 in
    let few = run_short d.certifies in
    let long = length_passing j h.0 in
    (passing j h.0, (d, passes h.0 h.1.1 (omega arith)))

-- ---- the next instruction at a time
module _ {c : Code} {i : ℕ} {m : Memory} {s : Thread} {x : Instr} (w : Trying c m s x) where
  -- a run from after it is shorter than 16
  run_shorter : (m' : Memory) (t : ℕ) (s₀ y : Thread) {l : List RunStep} → s₀.position ≡ s.position → execute x m' t s₀ ≡ next y → First c i m' y l → length l < 16
  run_shorter m' t s₀ y at e d =
      let on = moves (effect x m' t s₀ y e) in
      let few = run_short d.certifies in
      let short = w.ready.code_ok.short in
      omega arith

  module _ (q : Sought) (p : Met) (t : ℕ) (r : Tried) where
    -- nothing is shown
    pub shows_missed : (q ≡ certifying → p ≡ q.met → r.met ≡ q.met) → ShowsAt c i m s x q p t r
    shows_missed none asked unmet z = unmet_zero q asked r.met (none asked unmet) z

    module _ (y : Thread) (does : execute x m t s ≡ next y) (words : List ℕ) (writes : (l : List RunStep) → Trail words l → length l < 16 → Trail r.cares.of (executed t ∷ l)) where
      -- the promise set is empty then
      pub shows_emptied : y.promises ≡ 0 → Trail words [] → ShowsAt c i m s x q p t r
      shows_emptied e written asked unmet z = record { after = y; does = does; steps = []; first = first_stop e; written = writes [] written (omega arith) }

      -- it goes on, perhaps with the coherence views of before
      pub shows_resumed : (apart : Bool) → (apart ≡ true → Idles x m s t y q.hole) → (v : Thread) → (apart ≡ true → v ≡ cohering y s.coherence) × (apart ≡ false → v ≡ y)
          → (less : Sought) → less ≡ record { hole = q.hole; from = q.from; met = p } → Shows c i m v less (record { met = r.met; cares = record { of = words } }) → ShowsAt c i m s x q p t r
      shows_resumed apart idles v is less after shown asked unmet z =
          let h = shown (after ∙ ap (λ (u : Met). record { hole = q.hole; from = q.from; met = u }) unmet ∙ asked) z in
          let d = lifted apart idles is h.1.0 in
          record { after = y; does = does; steps = h.0; first = d; written = writes h.0 h.1.1 (run_shorter m t s y refl does d) }
        where
          lifted : (apart : Bool) → (apart ≡ true → Idles x m s t y q.hole) → (apart ≡ true → v ≡ cohering y s.coherence) × (apart ≡ false → v ≡ y) → {l : List RunStep} → First c i m v l → First c i m y l
          lifted true idles is {l} d = idle_first c i x m s t y does (subst (Idles x m s t y) (no_hole q asked) (idles refl)) l (subst (λ (u : Thread). First c i m u l) (is.0 refl) d)
          lifted false idles is {l} d = subst (λ (u : Thread). First c i m u l) (is.1 refl) d

  -- ---- its own message
  pub shows_stored : (q : Sought) (k : StoreMode) (a d : Operand) → x ≡ Store k a d → m.count < 16 → (u : Result Thread Refusal) → u ≡ ruled (own_store k a d m i s) → {y : Thread} → u ≡ Ok y → (m' : Memory) → m' ≡ append m (store_message i a d s)
      → (then : Reached) → Shows c i m' y q then → (words : Cares) → ((l : List RunStep) → Trail then.cares.of l → length l < 16 → Trail words.of (own_message (m.count + 1) ∷ l)) → ShowsOwn c i m s x q (record { met = then.met; cares = words })
  unfolding own_store
  shows_stored q k a d is few u e {y} done m' grown then shown words writes asked z =
      let n = store_message i a d s in
      let does : execute x (append m n) (append m n).count (add_promise (append m n) s) ≡ next y = ap (λ (v : Instr). execute v (append m n) (append m n).count (add_promise (append m n) s)) is ∙ ruled_done (own_store k a d m i s) u e done in
      let h = shown asked z in
      let first = subst (λ (v : Memory). First c i v y h.0) grown h.1.0 in
      record { message = n; after = y; is_own = ap (message_of i s) is; fewer = few; does = does; steps = h.0; first = first; written = writes h.0 h.1.1 (run_shorter (append m n) (append m n).count (add_promise (append m n) s) y refl does first) }

  -- ---- all its tries
  module _ (q : Sought) (unkept : Unkept s x q) (p : Tried) (t : ℕ) (known : Missed c i m s x q p 0 t) (none : q ≡ certifying → p.met ≡ q.met) where
    -- what was tried comes to nothing
    fails : q ≡ certifying → (u : ℕ) (y : Thread) → u < t → execute x m u s ≡ next y → Certifying c i m y → ⊥
    fails asked u y early e run =
        known.missed u (omega arith) early s y (rests_self p.cares.of s) (likewise_self p.apart x m s) e 0 (zero_unmet q asked p.met (none asked))
        (comes_as (λ m s e. inl (no_hole q asked, refl, e)) run)

    pub shows_tried : (r : Tried) → ShowsAt c i m s x q p.met t r → Shows c i m s q (record { met = r.met; cares = r.cares })
    shows_tried r shown asked z =
        let g = shown asked (none asked) z in
        (executed t ∷ g.steps, (first_at c i m s (unkept.outstanding (no_hole q asked)) x w.is_next t g.after g.steps (effect_time (effect x m t s g.after g.does)) g.does g.first (fails asked), g.written))

    pub shows_owned : 16 < t → (last : Sought) → last ≡ record { hole = q.hole; from = q.from; met = p.met } → (r : Reached) → ShowsOwn c i m s x last r → Shows c i m s q r
    shows_owned over last after r shown asked z =
        let g = shown (after ∙ ap (λ (u : Met). record { hole = q.hole; from = q.from; met = u }) (none asked) ∙ asked) z in
        let room = w.ready.room in
        (own_message (append m g.message).count ∷ g.steps, (first_own c i m s (unkept.outstanding (no_hole q asked)) x w.is_next g.message g.after g.steps g.is_own g.fewer g.does g.first (λ u y low. fails asked u y (omega arith)), g.written))
