-- A thread whose coherence view has come up to an outstanding promise at that location can never fulfil it; so a store that can fulfil a promise does not append a message of its own in a certifying run.
-- Assumes nothing.
use mathlib.Core.Path.{◌≡◌, sym, ap, ◌∙◌, subst}
use mathlib.Core.Logic.{◌≢◌}
use mathlib.Core.List.{List, ◌∷◌}
use mathlib.Core.Option.{some, some-injective}
use Prim.Native.Nat.{ℕ, ◌+◌, ◌≤◌, ◌<◌}
use native.Mathlib.Nat.{le_trans, mod-lt}
use native.Mathlib.Omega.{arith}
use lib.Dec.{T, lit<}
use lib.ListN.{length}
use Rattle.theory_views.specs.Views.{view_at, raise_at}
use Rattle.theory_views.proofs.Merging.{raise_up, raise_reaches}
use Rattle.program.specs.Program.{instr_at}
use Rattle.machine.specs.State.{message_at, append, has}
use Rattle.machine.specs.Rules.{next, address, execute, add_promise}
use Rattle.machine.proofs.Sets.{has_positive, has_none, has_without, with_without}
use Rattle.machine.proofs.Memories.{message_stays}
use Rattle.machine.proofs.Effects.{store_location, Effect, computed, loaded, stored, branched, fenced, effect}
use Rattle.certify_runs.specs.Below.{Code, Instr, Message, Memory, Thread}
use Rattle.certify_runs.specs.Certify.{RunStep, own_message, message_of, certified}
use Rattle.certify_runs.specs.Runs.{Run, done, by, own}
use Rattle.certify_runs.specs.First.{Certifies, go_own}
use Rattle.certify_runs.proofs.First.{certifies_run}
use Rattle.certify_runs.proofs.Iff.{certified_iff}
use Rattle.certify_runs.proofs.Fit.{value_promised, Owned, owned, own_effect}

-- the promise at time t is outstanding, and the coherence view of its location is at least t
pub record Dead (t : ℕ) (m : Memory) (s : Thread) : Type 0 where
  pub in_memory : t ≤ m.count
  pub out : T (has s.promises t)
  pub high : t ≤ view_at s.coherence (message_at m t).location

module _ {t : ℕ} {m : Memory} {s : Thread} (d : Dead t m s) where
  -- a store at time u needs a coherence view below u
  other_time : {u l : ℕ} → (message_at m u).location ≡ l → view_at s.coherence l < u → u ≢ t
  other_time {u} {l} at low e =
      let h = subst (λ (n : ℕ). n ≤ view_at s.coherence (message_at m n).location) (sym e) d.high in
      let k = subst (λ (n : ℕ). u ≤ view_at s.coherence n) at h in
      omega arith

  dead_after : {u : ℕ} {x : Instr} {s' : Thread} → Effect m u s x s' → Dead t m s'
  dead_after (computed e) = record { in_memory = d.in_memory; out = d.out; high = d.high }
  dead_after (loaded r n) = record { in_memory = d.in_memory; out = d.out; high = le_trans d.high (raise_up s.coherence _ _ _) }
  dead_after {u} (stored p a b) =
      record {
        in_memory = d.in_memory;
        out = has_without s.promises u t p.out (other_time p.at_location b) d.out;
        high = le_trans d.high (raise_up s.coherence _ _ _);
      }
  dead_after (branched e) = record { in_memory = d.in_memory; out = d.out; high = d.high }
  dead_after (fenced e) = record { in_memory = d.in_memory; out = d.out; high = d.high }

  dead_own : {i : ℕ} {w : Message} {x : Instr} {s' : Thread} → Owned i m w s x s' → Dead t (append m w) s'
  dead_own {i} {w} (owned e) =
      let low = d.in_memory in
      record {
        in_memory = omega arith;
        out = subst (λ (p : ℕ). T (has p t)) (sym (with_without s.promises (m.count + 1))) d.out;
        high = le_trans (subst (λ (y : Message). t ≤ view_at s.coherence y.location) (sym (message_stays m w t (has_positive s.promises t d.out) low)) d.high) (raise_up s.coherence _ _ _);
      }

-- no run starts there
pub dead_ends : {Room : Memory → Type 0} {c : Code} {i t : ℕ} {m : Memory} {s : Thread} → Dead t m s → Run Room c i m s → ⊥
dead_ends {t = t} {s = s} d (done e) = has_none s.promises t e d.out
dead_ends {m = m} {s = s} d (by x u s' g tl e r) = dead_ends (dead_after d (effect x m u s s' e)) r
dead_ends {i = i} {m = m} {s = s} d (own x w s' g gw room e r) =
    dead_ends (dead_own d (own_effect i m w s gw (effect x (append m w) (append m w).count (add_promise (append m w) s) s' e))) r

-- and the thread is not certified
pub dead_run : (c : Code) (i t : ℕ) (m : Memory) (s : Thread) → Dead t m s → T (certified c i m s) → ⊥
dead_run c i t m s d h = dead_ends d ((certified_iff c i m s).0 h)

-- ---- a store that can fulfil a promise, and appends a message of its own instead
-- its message stands after the promise, and raises the coherence view of the location past it
dead_late : {i t : ℕ} {m : Memory} {w : Message} {s : Thread} {x : Instr} {z y : Thread} → length s.coherence ≡ 16 → Effect m t s x z → Owned i m w s x y → Dead t (append m w) y
dead_late {i} {t} {m} {w} {s} sixteen (stored {a = a} p pre low) (owned e) =
    let u = m.count + 1 in
    let l = store_location (add_promise (append m w) s) a in
    let stands = p.in_memory in
    let before : t ≤ u = omega arith in
    let inside : l < length s.coherence = subst (λ (n : ℕ). l < n) (sym sixteen) (mod-lt _ (lit< tt)) in
    let stays = message_stays m w t (has_positive s.promises t p.out) stands in
    let at : l ≡ (message_at (append m w) t).location = ap address (value_promised (append m w) s a) ∙ sym p.at_location ∙ ap (λ (v : Message). v.location) (sym stays) in
    record {
      in_memory = before;
      out = subst (λ (q : ℕ). T (has q t)) (sym (with_without s.promises u)) p.out;
      high = subst (λ (n : ℕ). t ≤ view_at (raise_at s.coherence l u) n) at (le_trans before (raise_reaches s.coherence l u inside));
    }
dead_late sixteen (computed _) o = elim o [ ]
dead_late sixteen (loaded _ _) o = elim o [ ]
dead_late sixteen (branched _) o = elim o [ ]
dead_late sixteen (fenced _) o = elim o [ ]

-- FULFIL, DO NOT APPEND: no run starts after the message
pub own_late : {Room : Memory → Type 0} {c : Code} {i : ℕ} (m : Memory) (s : Thread) (x : Instr) (t : ℕ) (z : Thread) (w : Message) (y : Thread) → length s.coherence ≡ 16
    → execute x m t s ≡ next z → message_of i s x ≡ some w → execute x (append m w) (append m w).count (add_promise (append m w) s) ≡ next y → Run Room c i (append m w) y → ⊥
own_late {i = i} m s x t z w y sixteen e gw f =
    dead_ends (dead_late sixteen (effect x m t s z e) (own_effect i m w s gw (effect x (append m w) (append m w).count (add_promise (append m w) s) y f)))

-- where a run that certifies begins with an own message, the instruction executes at no time of the memory
pub own_only : {c : Code} {i : ℕ} {m : Memory} {n : ℕ} {s : Thread} {l : List RunStep} → length s.coherence ≡ 16 → Certifies c i m s (own_message n ∷ l)
    → (x : Instr) → instr_at c s.position ≡ some x → (t : ℕ) (z : Thread) → execute x m t s ≡ next z → ⊥
own_only {m = m} {s} sixteen (go_own x' w y out g gw few f r) x is_next t z e =
    own_late m s x' t z w y sixteen (subst (λ (o : Instr). execute o m t s ≡ next z) (some-injective x x' (sym is_next ∙ g)) e) gw f (certifies_run r)
