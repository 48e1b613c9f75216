-- A store that fills the hole: what it fulfils, by which number, and whether the thread is then certified.
-- Assumes nothing.
use mathlib.Core.Path.{◌≡◌, refl, sym, ap, ap₂, ◌∙◌, subst}
use mathlib.Core.Logic.{inl, inr, ⊎_elim}
use mathlib.Core.Bool.{Bool, true, false, not, ◌&&◌}
use mathlib.Core.Option.{none, some, some-injective}
use Prim.Native.Nat.{ℕ, ◌+◌, ◌-◌, ◌*◌, ◌^◌, ◌≤◌, ◌<◌}
use native.Mathlib.Omega.{arith}
use lib.Count.{ones}
use lib.Dec.{T, ltb, eqb→eq, ltb→lt, lt→ltb}
use lib.ListN.{length}
use lib.Seq.{get_or-set_same}
use borrow.Author.Tests.{not-true}
use Rattle.std.specs.Prelude.{Result, Ok, Err}
use Rattle.theory_views.specs.Views.{view_at}
use Rattle.program.proofs.Tests.{and_left, and_right, and_both, eq→eqb}
use Rattle.program.specs.declared.Refusal.{Refusal}
use Rattle.machine.specs.State.{no_message, has, without}
use Rattle.machine.specs.Rules.{next, value_of, view_of, store_pre, store_done, execute, store_message}
use Rattle.machine.specs.Inner.{ruled, below_time}
use Rattle.machine.proofs.Sets.{has_positive, has_time, ones_without}
use Rattle.machine.proofs.Words.{ones_eqb}
use Rattle.machine.proofs.Cases.{was_true, ruled_done, ruled_refused}
use Rattle.machine.proofs.Effects.{store_location, Promised, Effect, computed, loaded, stored, branched, fenced, effect}
use Rattle.certify_runs.specs.Below.{Code, Operand, StoreMode, Instr, Store, Message, Memory, Thread}
use Rattle.certify_runs.specs.Certify.{message_of, certified}
use Rattle.certify_runs.specs.Inner.{Trying, onward}
use Rattle.certify_runs.specs.Runs.{done, by, own}
use Rattle.certify_runs.proofs.Iff.{onward_inv, onward_next, certified_iff}
use Rattle.certify_runs.proofs.Executes.{executes}
use Rattle.certify_runs.proofs.Fit.{no_message_lem}
use Rattle.certify_cares.specs.declared.Cares.{Cares}
use Rattle.certify_under.specs.Under.{Under, Rests}
use Rattle.certify_under.proofs.Resting.{store_too, store_rests}
use Rattle.certify_sought.specs.declared.Met.{Met}
use Rattle.certify_sought.specs.declared.Sought.{Sought}
use Rattle.certify_sought.specs.Numbers.{meeting, Unmet, Seeks, Better, same, more}
use Rattle.certify_sought.specs.Asks.{Repeats, Stores}
use Rattle.certify_sought.specs.Aim.{fill, Fills, Aim, Meets}
use Rattle.certify_sought.proofs.Numbers.{not_both, met_now, least_passes, zero_sought}
use Rattle.certify_tried.specs.declared.Reached.{Reached}
use Rattle.certify.specs.Search.{Found, Filled, Keeps}
use Rattle.certify.proofs.Finding.{other, comes_as}

-- what executes with a message of its own fulfils a promise
own_out : (i : ℕ) {m : Memory} {w : Message} {t : ℕ} {s : Thread} {x : Instr} {s' : Thread} → message_of i s x ≡ some w → Effect m t s x s' → T (has s.promises t)
own_out i g (computed e) = absurd (no_message_lem g)
own_out i g (loaded r n) = absurd (no_message_lem g)
own_out i g (stored p a b) = p.out
own_out i g (branched e) = absurd (no_message_lem g)
own_out i g (fenced e) = absurd (no_message_lem g)

pub fills_out : {c : Code} {i : ℕ} {x : Instr} {h k : ℕ} {m : Memory} {s : Thread} → Fills c i x h k m s → T (has s.promises h)
fills_out {c} {i} {x} {h} {k} {m} {s} f =
    let m' = fill m h f.message in
    let q = onward_inv (certified c i m') (execute x m' h s) f.keeps in
    own_out i f.is_own (effect x m' h s q.0 q.1)

-- without a hole it is certification, by number 0
emptied : (c : Code) (i k : ℕ) (m : Memory) (s : Thread) → Aim c i 0 k m s → (s.promises ≡ 0) × (k ≡ 0)
emptied c i k m s (inl p) = (p.2, p.1)
emptied c i k m s (inr (x, g, f)) = let z = has_positive s.promises 0 (fills_out f) in absurd (omega arith)

pub meets_certified : (c : Code) (i k : ℕ) (m : Memory) (s : Thread) → Meets c i m s 0 k → T (certified c i m s)
meets_certified c i k m s w = (certified_iff c i m s).1 (comes_as (λ m u a. (emptied c i k m u a).0) w)

pub certified_meets : (c : Code) (i : ℕ) (m : Memory) (s : Thread) → T (certified c i m s) → Meets c i m s 0 0
certified_meets c i m s t = comes_as (λ m u e. inl (refl, refl, e)) ((certified_iff c i m s).0 t)

pub only_zero : (c : Code) (i h k : ℕ) (m : Memory) (s : Thread) → h ≡ 0 → Meets c i m s h k → k ≡ 0
only_zero c i h k m s z w = go (subst (λ (n : ℕ). Meets c i m s n k) z w)
  where
    go : {m : Memory} {s : Thread} → Meets c i m s 0 k → k ≡ 0
    go {m} {s} (done a) = (emptied c i k m s a).1
    go (by x t y g tl e r) = go r
    go (own x w y g gw room e r) = go r

-- ---- the store's message in the hole
module _ (c : Code) (i : ℕ) (x : Instr) (m : Memory) (s : Thread) (q : Sought) (k : Cares) where
  fills_none : ((s' : Thread) → Rests k.of s s' → Repeats x s s' → (j : ℕ) → Seeks q j → Fills c i x q.hole j m s' → ⊥) → Filled c i m s x q (record { met = q.met; cares = k })
  fills_none fails = record { better = same; barren = fails }

  -- no promise is at its time
  pub fill_no_hole : (b : Bool) → b ≡ has s.promises q.hole → not b ≡ true → Filled c i m s x q (record { met = q.met; cares = k })
  fill_no_hole b e n =
      fills_none (λ s' rests rep j u f. not_both b (subst T (sym e) (subst (λ (p : ℕ). T (has p q.hole)) (sym rests.under.same_promises) (fills_out f))) n)

  -- what is no store fills nothing
  pub fill_none : ((y : Thread) → message_of i y x ≡ none) → Filled c i m s x q (record { met = q.met; cares = k })
  fill_none e = fills_none (λ s' rests rep j u f. no_message_lem (sym (e s') ∙ f.is_own))

  -- a store, by its number
  module _ (how : StoreMode) (a d : Operand) (is : x ≡ Store how a d) (w : Message) (we : w ≡ store_message i a d s) where
    abbrev number : ℕ
    number = 256 * w.location + w.value

    same_message : (s' : Thread) → Repeats x s s' → (j : ℕ) (f : Fills c i x q.hole j m s') → f.message ≡ w
    same_message s' rep j f =
        let z = rep how a d is in
        let v : store_message i a d s' ≡ f.message = some-injective _ _ (sym (ap (message_of i s') is) ∙ f.is_own) in
        sym v ∙ ap₂ (λ (l v : ℕ). record { location = l; value = v; thread = i }) (sym z.0) (sym z.1) ∙ sym we

    same_number : (s' : Thread) → Repeats x s s' → (j : ℕ) → Fills c i x q.hole j m s' → number ≡ j
    same_number s' rep j f = subst (λ (y : Message). 256 * y.location + y.value ≡ j) (same_message s' rep j f) f.number

    -- it is not sought
    pub fill_unsought : (b : Bool) → (b ≡ false → Seeks q number → ⊥) → not b ≡ true → Filled c i m s x q (record { met = q.met; cares = k })
    fill_unsought b e n = fills_none (λ s' rests rep j u f. e (not-true b n) (subst (Seeks q) (sym (same_number s' rep j f)) u))

    module _ (m' : Memory) (me : m' ≡ fill m q.hole w) where
      -- it is, and the promise is kept by it
      pub fill_here : w.value < 256 → Seeks q number → (p : Met) → p ≡ meeting number q.met → T (onward (certified c i m') (execute (Store how a d) m' q.hole s)) → Filled c i m s x q (record { met = p; cares = k })
      fill_here byte sought p pe t =
          record {
            better = subst (Better q.from (λ j. Fills c i x q.hole j m s) q.met) (sym pe) (more number same sought
                (record {
                  message = w;
                  is_own = ap (message_of i s) is ∙ ap some (sym we);
                  byte = byte;
                  number = refl;
                  keeps = subst (λ (y : Memory). T (onward (certified c i y) (execute x y q.hole s))) me (subst (λ (y : Instr). T (onward (certified c i m') (execute y m' q.hole s))) (sym is) t);
                }));
            barren = λ s' rests rep j u f. met_now q.from number q.met (subst (λ (z : Met). Unmet q.from z number) pe (subst (Unmet q.from p) (sym (same_number s' rep j f)) u));
          }

      -- it is not kept
      pub fill_fails : ((s' : Thread) → Rests k.of s s' → Repeats x s s' → T (onward (certified c i m') (execute (Store how a d) m' q.hole s')) → ⊥) → Filled c i m s x q (record { met = q.met; cares = k })
      fill_fails fails =
          fills_none (λ s' rests rep j u f.
          let in-hole : fill m q.hole f.message ≡ m' = ap (fill m q.hole) (same_message s' rep j f) ∙ sym me in
          fails s' rests rep (subst (λ (y : Instr). T (onward (certified c i m') (execute y m' q.hole s'))) is (subst (λ (y : Memory). T (onward (certified c i y) (execute x y q.hole s'))) in-hole f.keeps)))

-- the hole is at a time of the memory
pub hole_time : (c : Code) (m : Memory) (s : Thread) (x : Instr) → Trying c m s x → (h : ℕ) (b : Bool) → b ≡ has s.promises h → not b ≡ false → (0 < h) × (h ≤ 16)
hole_time c m s x w h b e n =
    let out : T (has s.promises h) = subst T (sym (was_true e n)) tt in
    let l = has_time s.promises m.count h w.ready.promises_in out in
    let room = w.ready.room in
    (has_positive s.promises h out, omega arith)

-- with it filled the thread has the same next instruction
pub trying_filled : {c : Code} {m m' : Memory} {s : Thread} {x y : Instr} (h : ℕ) (w : Message) → Trying c m s x → m' ≡ fill m h w → x ≡ y → Trying c m' s y
trying_filled {c} {m} {m'} {s} {x} {y} h w t me e =
    subst (λ (z : Memory). Trying c z s y) (sym me)
    (record { ready = record { code_ok = t.ready.code_ok; room = t.ready.room; promises_in = t.ready.promises_in }; is_next = t.is_next ∙ ap some e })

-- a thread that stores the same executes it only if this one does
repeated : (x : Instr) (m : Memory) (s : Thread) (t : ℕ) → (o : Stores x) → (s' : Thread) → Under s s' → Repeats x s s' → (y' : Thread) → execute x m t s' ≡ next y' → (y : Thread) × (execute x m t s ≡ next y)
repeated x m s t o s' under rep y' e =
    let same = rep o.mode o.a o.d o.is_store in
    let mine = store_too m o.mode o.a o.d s s' under same.0 t y' same.1 (subst (λ (z : Instr). execute z m t s' ≡ next y') o.is_store e) in
    (mine.0, subst (λ (z : Instr). execute z m t s ≡ next mine.0) (sym o.is_store) mine.1)

-- ---- where the hole is the only promise, filling it keeps all promises if the views are below its time
module _ (c : Code) (i : ℕ) (m : Memory) (s : Thread) (k : StoreMode) (a d : Operand) (h : ℕ) (w : Message) (we : w ≡ store_message i a d s)
    (b : Bool) (be : b ≡ below_time k h w.location (view_of s a) (view_of s d) s) where
  abbrev pre : ℕ
  pre = store_pre k (view_of s a) (view_of s d) s.views

  in_place : w.location ≡ store_location s a
  in_place = ap (λ (y : Message). y.location) we

  pub alone_kept : s.promises < 2 ^ m.count → m.count ≤ 16 → length m.messages ≡ 16 → (o : Bool) → o ≡ has s.promises h → not o ≡ false → ones s.promises ≡ 1 → b ≡ true
      → T (onward (certified c i (fill m h w)) (execute (Store k a d) (fill m h w) h s))
  unfolding below_time
  alone_kept promised_in room places o oe on one t =
      let both : T (ltb pre h && ltb (view_at s.coherence w.location) h) = subst T (be) (subst T (sym t) tt) in
      let low = ltb→lt _ h (and_right (ltb pre h) (ltb (view_at s.coherence w.location) h) both) in
      let f = stored {k = k} {a = a} {d = d} promise (ltb→lt pre h (and_left (ltb pre h) (ltb (view_at s.coherence w.location) h) both)) (subst (λ (l : ℕ). view_at s.coherence l < h) in_place low) in
      onward_next (certified c i m') (execute (Store k a d) m' h s) _ (executes f) ((certified_iff c i m' _).1 (done kept_then))
    where
      m' : Memory
      m' = fill m h w

      out : T (has s.promises h)
      out = subst T (sym (was_true oe on)) tt

      kept_then : (store_done k h (store_location s a) (view_of s a) (view_of s d) s).promises ≡ 0
      kept_then =
          let left = ones_without s.promises h out in
          let none : ones (without s.promises h) ≡ 0 = omega arith in
          eqb→eq (without s.promises h) 0 (subst T (ones_eqb (without s.promises h)) (eq→eqb none))

      promise : Promised m' h (store_location s a) (value_of s d) s
      promise =
          let pos = has_positive s.promises h out in
          let low = has_time s.promises m.count h promised_in out in
          let there = get_or-set_same m.messages (h - 1) w no_message (omega arith) in
          record { out = out; in_memory = low; at_location = ap (λ (y : Message). y.location) (there ∙ we); at_value = ap (λ (y : Message). y.value) (there ∙ we) }

  pub alone_lost : b ≡ false → (m' : Memory) (s' : Thread) → Under s s' → Repeats (Store k a d) s s' → T (onward (certified c i m') (execute (Store k a d) m' h s')) → ⊥
  unfolding below_time
  alone_lost z m' s' under rep t =
      let q = onward_inv (certified c i m') (execute (Store k a d) m' h s') t in
      let mine = repeated (Store k a d) m' s h (record { mode = k; a = a; d = d; is_store = refl }) s' under rep q.0 q.1 in
      subst T (sym be ∙ z) (tells mine.0 (effect (Store k a d) m' h s mine.0 mine.1))
    where
      tells : (y : Thread) → Effect m' h s (Store k a d) y → T (below_time k h w.location (view_of s a) (view_of s d) s)
      tells y (stored p early low) =
          and_both (ltb pre h) (ltb (view_at s.coherence w.location) h) (lt→ltb pre h early) (lt→ltb _ h (subst (λ (l : ℕ). view_at s.coherence l < h) (sym in_place) low))

-- ---- whether the store can be executed and the thread is then certified
module _ (c : Code) (i : ℕ) (m : Memory) (s : Thread) (x : Instr) (t : ℕ) (o : Stores x) (u : Result Thread Refusal) (e : u ≡ ruled (execute x m t s)) where
  as_store : (v y : Thread) → execute x m t v ≡ next y → execute (Store o.mode o.a o.d) m t v ≡ next y
  as_store v y d = subst (λ (z : Instr). execute z m t v ≡ next y) o.is_store d

  pub keeps_refused : {n : Refusal} → u ≡ Err n → (k : Cares) → Keeps c i m s x t (record { met = record { least = 1; second = 1 }; cares = k })
  keeps_refused z k =
      record {
        is_kept = λ h. absurd (omega arith);
        is_lost = λ lost s' rests rep p.
            let q = onward_inv (certified c i m) (execute x m t s') p in
            let mine = repeated x m s t o s' rests.under rep q.0 q.1 in
            other (sym (ruled_refused (execute x m t s) u e z) ∙ mine.1);
      }

  pub keeps_done : {y : Thread} → u ≡ Ok y → (then : Reached) → Found 0 (record { least = 1; second = 1 }) (λ y j. Meets c i m y 0 j) y then → Keeps c i m s x t then
  keeps_done {y} z then found =
      let does = ruled_done (execute x m t s) u e z in
      record {
        is_kept = λ h. onward_next (certified c i m) (execute x m t s) y does (⊎_elim (λ (p : then.met.least ≡ 1). absurd (omega arith)) (λ w. meets_certified c i then.met.least m y w) (least_passes found.better));
        is_lost = λ lost s' rests rep p.
            let q = onward_inv (certified c i m) (execute x m t s') p in
            let same = rep o.mode o.a o.d o.is_store in
            let after = store_rests m o.mode o.a o.d s s' rests.under same.0 then.cares.of rests.agreeing t m y q.0 (as_store s y does) (as_store s' q.0 q.1) in
            found.barren q.0 after 0 (zero_sought found.better (omega arith, omega arith, λ n. omega arith) lost) (certified_meets c i m q.0 q.2);
      }
