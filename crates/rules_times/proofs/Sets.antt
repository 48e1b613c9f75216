-- Sets of times: those after 0 at which an instruction can execute, and the first member after a time.
-- Assumes nothing.
use mathlib.Core.Path.{◌≡◌, refl, sym, ap, ap₂, subst, ◌∙◌}
use mathlib.Core.Bool.{Bool, true, false}
use Prim.Native.Nat.{ℕ, zero, suc, ◌+◌, ◌-◌, ◌/◌, ◌^◌, ◌<◌}
use native.Mathlib.Omega.{arith}
use lib.Dec.{T}
use lib.Pow.{shr-shr}
use borrow.Author.Tests.{lt-ltb, ne_eqb, eqb-false}
use Rattle.program.specs.declared.Operand.{Operand}
use Rattle.program.specs.declared.ComputeMode.{ComputeMode}
use Rattle.program.specs.declared.LoadMode.{LoadMode}
use Rattle.program.specs.declared.StoreMode.{StoreMode}
use Rattle.program.specs.declared.FenceMode.{FenceMode}
use Rattle.program.specs.declared.Instr.{Instr}
use Rattle.program.specs.declared.Instr.TheVariants.{Compute, Load, Store, Branch, Fence}
use Rattle.machine.specs.declared.Memory.{Memory}
use Rattle.machine.specs.declared.Thread.{Thread}
use Rattle.machine.specs.State.{has}
use Rattle.machine.specs.Inner.{FirstPromise, stands, TimesAt}
use Rattle.machine.specs.Rules.{readable}
use Rattle.machine.proofs.Sets.{has_none, has_time}
use Rattle.machine.proofs.Effects.{load_location, Effect, computed, loaded, stored, branched, fenced, effect}
use Rattle.rules_times.specs.Times.{Later, AtZero, After}

-- ---- times after 0 at which an instruction can execute
module _ (m : Memory) (s : Thread) where
  -- after time 0 l can be read where a message to l stands
  readable_stands : (l t : ℕ) → 0 < t → readable m l t ≡ stands m l t
  unfolding readable stands
  readable_stands l t h = rw (ne_eqb t 0 (λ z. omega arith), lt-ltb 0 t h)

  pub load_later : (k : LoadMode) (n : ℕ) (a b : Operand) (l r : ℕ) → l ≡ load_location s a b → TimesAt m l r → Later (Load k n a b) m s r
  load_later k n a b l r e all t s' h q = go s' (effect (Load k n a b) m t s s' q)
    where
      go : (s' : Thread) → Effect m t s (Load k n a b) s' → T (has r t)
      go s' (loaded d f) = subst T (readable_stands (load_location s a b) t h ∙ ap (λ (j : ℕ). stands m j t) (sym e) ∙ sym (all t)) d

  pub store_later : (k : StoreMode) (a d : Operand) → Later (Store k a d) m s s.promises
  store_later k a d t s' h q = go s' (effect (Store k a d) m t s s' q)
    where
      go : (s' : Thread) → Effect m t s (Store k a d) s' → T (has s.promises t)
      go s' (stored p u v) = p.out

  never_later : (x : Instr) → ((t : ℕ) (s' : Thread) → Effect m t s x s' → t ≡ 0) → Later x m s 0
  never_later x z t s' h q = let e = z t s' (effect x m t s s' q) in absurd (omega arith)

  pub compute_later : (k : ComputeMode) (r : ℕ) (a b : Operand) → Later (Compute k r a b) m s 0
  compute_later k r a b = never_later (Compute k r a b) at_zero
    where
      at_zero : (t : ℕ) (s' : Thread) → Effect m t s (Compute k r a b) s' → t ≡ 0
      at_zero t s' (computed e) = e

  pub branch_later : (n : ℕ) (a b : Operand) → Later (Branch n a b) m s 0
  branch_later n a b = never_later (Branch n a b) at_zero
    where
      at_zero : (t : ℕ) (s' : Thread) → Effect m t s (Branch n a b) s' → t ≡ 0
      at_zero t s' (branched e) = e

  pub fence_later : (k : FenceMode) → Later (Fence k) m s 0
  fence_later k = never_later (Fence k) at_zero
    where
      at_zero : (t : ℕ) (s' : Thread) → Effect m t s (Fence k) s' → t ≡ 0
      at_zero t s' (fenced e) = e

-- ---- time 0
no_time_0 : (p : ℕ) → T (has p 0) → ⊥
unfolding has
no_time_0 p h = h

pub store_not_at_0 : (k : StoreMode) (a d : Operand) → AtZero (Store k a d) false
store_not_at_0 k a d e m s s' q = go s' (effect (Store k a d) m 0 s s' q)
  where
    go : (s' : Thread) → Effect m 0 s (Store k a d) s' → ⊥
    go s' (stored p u v) = no_time_0 s.promises p.out

pub may_be_at_0 : (x : Instr) → AtZero x true
may_be_at_0 x e m s s' q = absurd (eqb-false 0 1 refl cc)

-- ---- the first time after t
shifted : (p t u : ℕ) → t < u → has p u ≡ has (p / 2 ^ t) (u - t)
unfolding has
shifted p t u h =
    let a : t + (u - t - 1) ≡ u - 1 = omega arith in
    let b : 0 < u = omega arith in
    let c : 0 < u - t = omega arith in
    rw (lt-ltb 0 u b, lt-ltb 0 (u - t) c, shr-shr p t (u - t - 1), a)

pub after_last : (p : ℕ) → After p 16 17
after_last p = record { later = omega arith; within = omega arith; between = λ u h k. absurd (omega arith) }

module _ (p t : ℕ) where
  none_in : (q u : ℕ) → q ≡ 0 → has q u ≡ false
  none_in q u z = go (has q u) refl
    where
      go : (b : Bool) → has q u ≡ b → b ≡ false
      go true e = absurd (has_none q u z (subst T (sym e) tt))
      go false e = refl

  pub after_none : t < 16 → (q : ℕ) → q ≡ p / 2 ^ t → q ≡ 0 → After p t 17
  after_none l q e z =
      record { later = omega arith; within = omega arith; between = λ u h k. shifted p t u h ∙ ap (λ (n : ℕ). has n (u - t)) (sym e) ∙ none_in q (u - t) z }

  pub after_first : p < 2 ^ 16 → (q f : ℕ) → q ≡ p / 2 ^ t → FirstPromise q f → After p t (t + f)
  after_first small q f e o =
      let pos : 0 < f = has_pos q f o.member in
      let l : t < t + f = omega arith in
      let b : t + f - t ≡ f = omega arith in
      let member : has p (t + f) ≡ true = shifted p t (t + f) l ∙ ap₂ has (sym e) b ∙ o.member in
      let top = has_time p 16 (t + f) small (subst T (sym member) tt) in
      record {
        later = l;
        within = omega arith;
        between = λ u h k. shifted p t u h ∙ ap (λ (n : ℕ). has n (u - t)) (sym e) ∙ o.before (u - t) (omega arith);
      }
    where
      has_pos : (q f : ℕ) → has q f ≡ true → 0 < f
      has_pos q zero h = absurd (no_time_0 q (subst T (sym h) tt))
      has_pos q (suc f) h = omega arith
