-- What the code relies on, on plain values: from which time on an instruction is worth a try, and which is the next.
-- Assumes nothing.
use mathlib.Core.Path.{◌≡◌, sym, ap, subst, ◌∙◌}
use mathlib.Core.Bool.{Bool, false, not, ◌&&◌}
use Prim.Native.Nat.{ℕ, zero, suc, max, ◌≤◌, ◌<◌}
use native.Mathlib.Decide.{dec_lt}
use native.Mathlib.Omega.{arith}
use lib.Dec.{T, eqb, leb, ltb, lt→ltb, le→leb}
use Rattle.theory_views.specs.Views.{view_at}
use Rattle.program.proofs.Tests.{and_both, eq→eqb, is_true, below_at}
use Rattle.machine.specs.State.{message_at}
use Rattle.machine.specs.Rules.{next, value_of, address, newer, none_newer, execute}
use Rattle.machine.proofs.Sets.{has_positive}
use Rattle.machine.proofs.Effects.{load_location, load_pre_view, Effect, computed, loaded, stored, branched, fenced, effect, effect_time, read_there}
use Rattle.rules_times.specs.Times.{After}
use Rattle.certify_runs.specs.Below.{Operand, ComputeMode, LoadMode, StoreMode, FenceMode, Instr, Compute, Load, Store, Branch, Fence, Message, Memory, Thread}
use Rattle.certify_window.specs.Window.{Earliest, Stands, NextKept, NextMessage, Following}

-- ---- promises of a location and a value, one by one
module _ (m : Memory) (p l v t : ℕ) where
  pub kept_first : (r : ℕ) → After p t r → NextKept m p l v t r
  kept_first r h = record { later = h.later; within = h.within; between = λ u lo hi um out at val. subst T (h.between u lo hi) out }

  pub kept_next : (u r : ℕ) → NextKept m p l v t u → (w : Message) → w ≡ message_at m u → (eqb w.location l && eqb w.value v) ≡ false → After p u r → NextKept m p l v t r
  kept_next u r h w we other on =
      let a = h.later in
      let b = on.later in
      record {
        later = omega arith;
        within = on.within;
        between = λ j lo hi jm out at val. elim (dec_lt j u) [
          | yes before ↦ h.between j lo before jm out at val
          | no after ↦ elim (dec_lt u j) [
            | yes past ↦ subst T (on.between j past hi) out
            | no here ↦ (let here : message_at m j ≡ w = ap (message_at m) (omega arith) ∙ sym we in
                subst T other (and_both (eqb w.location l) (eqb w.value v) (eq→eqb (ap (λ (y : Message). y.location) (sym here) ∙ at)) (eq→eqb (ap (λ (y : Message). y.value) (sym here) ∙ val))))
          ]
        ];
      }

  pub kept_none : (u : ℕ) → t ≤ 16 → NextKept m p l v t u → m.count < u → NextKept m p l v t 17
  kept_none u low h over =
      record { later = omega arith; within = omega arith; between = λ w lo hi wm. h.between w lo (omega arith) wm }

-- ---- times worth a try
module _ (m : Memory) (s : Thread) where
  -- a message up to the load's views rules out the times before it
  hidden : (l v t f : ℕ) → Stands m l v f → t < f → T (none_newer m l t v) → ⊥
  unfolding none_newer
  hidden l v t zero h u n = absurd (omega arith)
  hidden l v t (suc f) h u n =
      let known = h.known in
      let q = h.there (omega arith) in
      subst (λ (b : Bool). T (not b)) (is_true (newer m l t v (suc f)) (seen q)) (below_at _ m.count n f (omega arith))
    where
      seen : ((message_at m (suc f)).location ≡ l) × (suc f ≤ v) → T (newer m l t v (suc f))
      seen q =
          let at = eqb (message_at m (suc f)).location l in
          and_both (at && ltb t (suc f)) (leb (suc f) v) (and_both at (ltb t (suc f)) (eq→eqb q.0) (lt→ltb t (suc f) u)) (le→leb (suc f) v q.1)

  pub load_earliest : m.count ≤ 16 → (k : LoadMode) (r : ℕ) (a b : Operand) (x : Instr) → x ≡ Load k r a b → (v f : ℕ) → v ≡ max (load_pre_view k s a b) (view_at s.coherence (load_location s a b))
      → Stands m (load_location s a b) v f → Earliest x m s f
  load_earliest room k r a b x is v f ve h =
      let known = h.known in
      record { within = omega arith; before = λ t s' l e. reads t s' l (effect (Load k r a b) m t s s' (subst (λ (y : Instr). execute y m t s ≡ next s') is e)) }
    where
      reads : (t : ℕ) (s' : Thread) → t < f → Effect m t s (Load k r a b) s' → ⊥
      reads t s' l (loaded d n) = hidden (load_location s a b) v t f h l (subst (λ (w : ℕ). T (none_newer m (load_location s a b) t w)) (sym ve) n)

  -- a store fulfils an outstanding promise of its location and value
  module _ (k : StoreMode) (a d : Operand) (x : Instr) (is : x ≡ Store k a d) (l v : ℕ) (le : l ≡ address (value_of s a)) (ve : v ≡ value_of s d) where
    pub store_following : (t n : ℕ) → NextKept m s.promises l v t n → Following x m s t n
    store_following t n h =
        record { later = h.later; within = h.within; between = λ u s' lo hi e. fulfils u s' lo hi (effect (Store k a d) m u s s' (subst (λ (y : Instr). execute y m u s ≡ next s') is e)) }
      where
        fulfils : (u : ℕ) (s' : Thread) → t < u → u < n → Effect m u s (Store k a d) s' → ⊥
        fulfils u s' lo hi (stored p pre low) = h.between u lo hi p.in_memory p.out (p.at_location ∙ sym le) (p.at_value ∙ sym ve)

    pub store_earliest : (n : ℕ) → NextKept m s.promises l v 0 n → Earliest x m s n
    store_earliest n h =
        record { within = h.within; before = λ u s' hi e. fulfils u s' hi (effect (Store k a d) m u s s' (subst (λ (y : Instr). execute y m u s ≡ next s') is e)) }
      where
        fulfils : (u : ℕ) (s' : Thread) → u < n → Effect m u s (Store k a d) s' → ⊥
        fulfils u s' hi (stored p pre low) = h.between u (has_positive s.promises u p.out) hi p.in_memory p.out (p.at_location ∙ sym le) (p.at_value ∙ sym ve)

  -- ---- the next time
  pub load_following : (k : LoadMode) (r : ℕ) (a b : Operand) (x : Instr) → x ≡ Load k r a b → (l : ℕ) → l ≡ load_location s a b → (t n : ℕ) → NextMessage m l t n → Following x m s t n
  load_following k r a b x is l le t n h =
      record { later = h.later; within = h.within; between = λ u s' lo hi e. reads u s' lo hi (effect (Load k r a b) m u s s' (subst (λ (y : Instr). execute y m u s ≡ next s') is e)) }
    where
      reads : (u : ℕ) (s' : Thread) → t < u → u < n → Effect m u s (Load k r a b) s' → ⊥
      reads u s' lo hi (loaded d q) = h.between u lo hi (effect_time {s = s} (loaded {k = k} {r = r} {a = a} {b = b} d q)) (read_there m (load_location s a b) u (omega arith) d ∙ sym le)

  -- what is neither executes at time 0 only
  other_following : (x : Instr) → ((u : ℕ) (s' : Thread) → Effect m u s x s' → u ≡ 0) → (t : ℕ) → t ≤ 16 → Following x m s t 17
  other_following x f t h = record { later = omega arith; within = omega arith; between = λ u s' lo hi e. let z = f u s' (effect x m u s s' e) in omega arith }

  pub compute_following : (k : ComputeMode) (r : ℕ) (a b : Operand) (x : Instr) → x ≡ Compute k r a b → (t : ℕ) → t ≤ 16 → Following x m s t 17
  compute_following k r a b x is t h = subst (λ (y : Instr). Following y m s t 17) (sym is) (other_following (Compute k r a b) zero_only t h)
    where
      zero_only : (u : ℕ) (s' : Thread) → Effect m u s (Compute k r a b) s' → u ≡ 0
      zero_only u s' (computed e) = e

  pub branch_following : (n : ℕ) (a b : Operand) (x : Instr) → x ≡ Branch n a b → (t : ℕ) → t ≤ 16 → Following x m s t 17
  branch_following n a b x is t h = subst (λ (y : Instr). Following y m s t 17) (sym is) (other_following (Branch n a b) zero_only t h)
    where
      zero_only : (u : ℕ) (s' : Thread) → Effect m u s (Branch n a b) s' → u ≡ 0
      zero_only u s' (branched e) = e

  pub fence_following : (k : FenceMode) (x : Instr) → x ≡ Fence k → (t : ℕ) → t ≤ 16 → Following x m s t 17
  fence_following k x is t h = subst (λ (y : Instr). Following y m s t 17) (sym is) (other_following (Fence k) zero_only t h)
    where
      zero_only : (u : ℕ) (s' : Thread) → Effect m u s (Fence k) s' → u ≡ 0
      zero_only u s' (fenced e) = e
