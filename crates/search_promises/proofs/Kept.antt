-- Every promise reached can be kept: the run by which the exploration fills the hole is, with the promise in its place, a certifying run of the thread.
-- Assumes nothing.
use mathlib.Core.Path.{◌≡◌, sym, ◌∙◌, subst}
use mathlib.Core.Logic.{inl, inr, ⊎_elim, ◌≢◌}
use mathlib.Core.Option.{some}
use Prim.Native.Nat.{ℕ, ◌+◌, ◌*◌, ◌≤◌, ◌<◌}
use native.Mathlib.Nat.{le_refl, le_trans, mod-lt}
use native.Mathlib.Omega.{arith}
use lib.Dec.{T, lit<}
use Rattle.theory_views.specs.Views.{view_at}
use Rattle.theory_views.proofs.Merging.{raise_up}
use Rattle.machine.specs.State.{message_at, append}
use Rattle.machine.specs.Rules.{next, value_of, execute, add_promise}
use Rattle.machine.proofs.Effects.{load_location, store_location, Effect, computed, loaded, stored, branched, fenced, effect, read_there}
use Rattle.certify_runs.specs.Below.{Code, Instr, Message, Memory, Thread}
use Rattle.certify_runs.specs.Certify.{message_of, certified}
use Rattle.certify_runs.specs.Runs.{done, by, own, Certifying}
use Rattle.certify_sought.specs.Aim.{fill, Fills, Meets}
use Rattle.search_promises.specs.Explored.{Fillable}
use Rattle.certify_runs.proofs.Iff.{onward_inv, certified_iff}
use Rattle.certify_runs.proofs.Fit.{no_message_lem, own_effect}
use Rattle.certify_runs.specs.Inner.{Sound}
use Rattle.certify_runs.proofs.Executes.{executes}
use Rattle.certify_runs.proofs.Twins.{carry, carry_all}
use Rattle.search_promises.proofs.Law.{Same, turned, twins, same_filled, own_carried, same_run, Open, positive, open_after, open_own, Hole, hole_stays, promise, promise_same, promise_hole, promise_open}

-- ---- a run that has come up to the hole's time at a location cannot fill the hole there
-- no coherence view falls
rises : {m : Memory} {t : ℕ} {s : Thread} {x : Instr} {s' : Thread} → Effect m t s x s' → (l : ℕ) → view_at s.coherence l ≤ view_at s'.coherence l
rises (computed e) l = le_refl _
rises {s = s} (loaded r n) l = raise_up s.coherence _ _ l
rises {s = s} (stored p a b) l = raise_up s.coherence _ _ l
rises (branched e) l = le_refl _
rises (fenced e) l = le_refl _

-- a store needs a coherence view below its time
store_below : (i : ℕ) {m : Memory} {t : ℕ} (s : Thread) (x : Instr) {s' : Thread} {w : Message} → Effect m t s x s' → message_of i s x ≡ some w → view_at s.coherence w.location < t
store_below i s x (computed e) g = absurd (no_message_lem g)
store_below i s x (loaded r n) g = absurd (no_message_lem g)
store_below i {t = t} s x {w = w} (stored {a = a} {d} p pre low) g =
    let q : record { location = store_location s a; value = value_of s d; thread = i } ≡ w = cc in
    subst (λ (y : Message). view_at s.coherence y.location < t) q low
store_below i s x (branched e) g = absurd (no_message_lem g)
store_below i s x (fenced e) g = absurd (no_message_lem g)

-- numbers tell locations and values apart
number_tells : (a b x y : ℕ) → x < 256 → y < 256 → 256 * a + x ≡ 256 * b + y → (a ≡ b) × (x ≡ y)
number_tells a b x y p q e = (omega arith, omega arith)

-- LATE: where the coherence view of l has come up to h, no run fills the hole at h by the number of (l, v)
late : (l v : ℕ) {c : Code} {i h k : ℕ} {m : Memory} {s : Thread} → v < 256 → 256 * l + v ≡ k → 0 < h → h ≤ view_at s.coherence l → Meets c i m s h k → ⊥
late l v small number pos high (done (inl e)) = let z = e.0 in omega arith
late l v {c} {i} {h} {k} {m} {s} small number pos high (done (inr (x, g, f))) =
    let w = f.message in
    let full = fill m h w in
    let o = onward_inv (certified c i full) (execute x full h s) f.keeps in
    let there = (number_tells w.location l w.value v f.byte small (f.number ∙ sym number)).0 in
    let low = subst (λ (j : ℕ). view_at s.coherence j < h) there (store_below i s x (effect x full h s o.0 o.1) f.is_own) in
    omega arith
late l v {m = m} {s = s} small number pos high (by x t s' g tl e r) = late l v small number pos (le_trans high (rises (effect x m t s s' e) l)) r
late l v {m = m} {s = s} small number pos high (own x w s' g gw few e r) =
    late l v small number pos (le_trans high (rises (effect x (append m w) (append m w).count (add_promise (append m w) s) s' e) l)) r

-- ---- no instruction executes at the hole's time
not_at_hole : {h : ℕ} {m : Memory} {s : Thread} {x : Instr} {s' : Thread} → 0 < h → Hole h m → Effect m h s x s' → ⊥
not_at_hole pos z (computed e) = omega arith
not_at_hole {h} {m} {s} pos z (loaded {a = a} {b} rd n) =
    let there = read_there m (load_location s a b) h pos rd in
    let small : load_location s a b < 16 = mod-lt (value_of s a + value_of s b) (lit< tt) in
    omega arith
not_at_hole {s = s} pos z (stored {a = a} p low high) =
    let there = p.at_location in
    let small : store_location s a < 16 = mod-lt (value_of s a) (lit< tt) in
    omega arith
not_at_hole pos z (branched e) = omega arith
not_at_hole pos z (fenced e) = omega arith

-- ---- along the run of the exploration on m', which has the hole: the thread follows it on m, which has the promise
module _ (h k : ℕ) (m : Memory) (s : Thread) (d : Open h k m s) where
  -- the store that fills the hole fulfils the promise, and the thread is then certified
  at_promise : {c : Code} (i : ℕ) {m' : Memory} {x : Instr} → Same h m' m → Fills c 0 x h k m' s → (s' : Thread) × (execute x m h s ≡ next s') × Certifying c i m s'
  at_promise {c} i {m'} {x} q f =
      let w = f.message in
      let full = fill m' h w in
      let e = number_tells (message_at m h).location w.location (message_at m h).value w.value d.byte f.byte (d.number ∙ sym f.number) in
      let q' = turned (same_filled h m m' w (turned q) (positive h k m s d) d.in_memory d.room d.places e) in
      let room : full.count ≤ 16 = subst (λ (n : ℕ). n ≤ 16) (sym q.same_count) d.room in
      let o = onward_inv (certified c 0 full) (execute x full h s) f.keeps in
      (o.0, executes (carry_all (twins q') room (effect x full h s o.0 o.1)), same_run i q' room ((certified_iff c 0 full o.0).0 o.2))

-- up to that store it does the same: a load that passes the promise would put it out of reach
kept_run : {c : Code} (i : ℕ) {h k : ℕ} {m m' : Memory} {s : Thread} → Same h m' m → Hole h m' → Open h k m s → Meets c 0 m' s h k → Certifying c i m s
kept_run i {h} {k} {m} {m'} {s} q z d (done (inl e)) = let zero = e.0 in let pos = positive h k m s d in absurd (omega arith)
kept_run i {h} {k} {m} {m'} {s} q z d (done (inr (x, g, f))) = let o = at_promise h k m s d i q f in by x h o.0 g d.in_memory o.1 o.2
kept_run i {h} {k} {m} {m'} {s} q z d (by x t s' g tl e r) =
    let f = effect x m' t s s' e in
    let n : t ≢ h = λ p. not_at_hole (positive h k m s d) z (subst (λ (u : ℕ). Effect m' u s x s') p f) in
    ⊎_elim
    (λ f'. by x t s' g (subst (λ (c : ℕ). t ≤ c) q.same_count tl) (executes f') (kept_run i q z (open_after h k m s d n f') r))
    (λ p. absurd (late _ _ d.byte d.number (positive h k m s d) (p.high d.locations) r))
    (carry h m' m (twins q) n f)
kept_run i {h} {k} {m} {m'} {s} q z d (own x w s' g gw few e r) =
    let low = d.in_memory in
    let count = q.same_count in
    let o = own_carried q (λ y. omega arith) 0 i s x w gw (effect x (append m' w) (append m' w).count (add_promise (append m' w) s) s' e) in
    let room : m.count < 16 = omega arith in
    own x o.0 s' g o.1 room (executes o.3)
    (kept_run i {m = append m o.0} o.2 (hole_stays m' w (positive h k m s d) (omega arith) z) (open_own h k m s d room (own_effect i m o.0 s o.1 o.3)) r)

-- EVERY PROMISE REACHED CAN BE KEPT: a promise (l, v) that the exploration reaches leaves the thread certified
pub reached_law : (c : Code) (i l v : ℕ) (m : Memory) (s : Thread) → Sound m s → v < 256 → m.count < 16
    → Fillable c m s (256 * l + v)
    → T (certified c i (append m (record { location = l; value = v; thread = i })) (add_promise (append m (record { location = l; value = v; thread = i })) s))
reached_law c i l v m s ok small few r =
    let m' = promise i l v m in
    (certified_iff c i m' (add_promise m' s)).1 (kept_run i (turned (promise_same i l v m)) (promise_hole i l v m s ok few) (promise_open i l v m s ok few small) r)
