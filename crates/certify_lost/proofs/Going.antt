-- Where a thread can come to, and what an instruction leaves there.
-- Assumes nothing.
use mathlib.Core.Path.{◌≡◌, refl, sym, ap, subst}
use mathlib.Core.Logic.{◌⊎◌, inl, inr}
use mathlib.Core.Bool.{Bool, true, false}
use Prim.Native.Nat.{ℕ, ◌+◌, ◌≤◌, ◌<◌}
use native.Mathlib.Nat.{le_refl, le_trans}
use native.Mathlib.Decide.{dec_lt}
use native.Mathlib.Omega.{arith}
use lib.Dec.{eqb}
use lib.Seq.{get_or-set_other}
use Rattle.program.specs.declared.Code.{Code}
use Rattle.program.specs.declared.Operand.{Operand}
use Rattle.program.specs.declared.FenceMode.{FenceMode}
use Rattle.program.specs.declared.FenceMode.TheVariants.{DmbSy, DmbLd, DmbSt, Isb}
use Rattle.program.specs.declared.Instr.{Instr}
use Rattle.program.specs.declared.Instr.TheVariants.{Branch}
use Rattle.machine.specs.declared.Memory.{Memory}
use Rattle.machine.specs.declared.Register.{Register}
use Rattle.machine.specs.declared.Thread.{Thread}
use Rattle.machine.specs.declared.Views.{Views}
use Rattle.machine.specs.State.{fresh_register, with_promises}
use Rattle.machine.specs.Rules.{value_of, branch_by, fence_views}
use Rattle.machine.proofs.Effects.{Effect, computed, loaded, stored, branched, fenced, effect, moves}
use Rattle.certify_cares.specs.Cares.{held}
use Rattle.certify_lost.specs.Lower.{Lower}
use Rattle.certify_lost.specs.Lost.{Goes, ComesTo, start, after, Writes}

-- ---- what an instruction leaves
-- views are at most themselves
pub lower_self : (v : Views) → Lower v v
lower_self v = record { r_old_low = le_refl _; w_old_low = le_refl _; r_new_low = le_refl _; w_new_low = le_refl _; cap_low = le_refl _; rel_low = le_refl _ }

pub lower_trans : {u v w : Views} → Lower u v → Lower v w → Lower u w
lower_trans o p =
    record {
      r_old_low = le_trans o.r_old_low p.r_old_low;
      w_old_low = le_trans o.w_old_low p.w_old_low;
      r_new_low = le_trans o.r_new_low p.r_new_low;
      w_new_low = le_trans o.w_new_low p.w_new_low;
      cap_low = le_trans o.cap_low p.cap_low;
      rel_low = le_trans o.rel_low p.rel_low;
    }

-- they are no smaller after a fence
fence_grows : (k : FenceMode) (v : Views) → Lower v (fence_views k v)
fence_grows DmbSy v = record { r_old_low = le_refl _; w_old_low = le_refl _; r_new_low = omega arith; w_new_low = omega arith; cap_low = le_refl _; rel_low = le_refl _ }
fence_grows DmbLd v = record { r_old_low = le_refl _; w_old_low = le_refl _; r_new_low = omega arith; w_new_low = omega arith; cap_low = le_refl _; rel_low = le_refl _ }
fence_grows DmbSt v = record { r_old_low = le_refl _; w_old_low = le_refl _; r_new_low = le_refl _; w_new_low = omega arith; cap_low = le_refl _; rel_low = le_refl _ }
fence_grows Isb v = record { r_old_low = le_refl _; w_old_low = le_refl _; r_new_low = omega arith; w_new_low = le_refl _; cap_low = le_refl _; rel_low = le_refl _ }

-- nor after any instruction
pub views_grow : {m : Memory} {t : ℕ} {s : Thread} {x : Instr} {y : Thread} → Effect m t s x y → Lower s.views y.views
views_grow {s = s} (computed e) = lower_self s.views
views_grow (loaded r n) = record { r_old_low = omega arith; w_old_low = le_refl _; r_new_low = omega arith; w_new_low = omega arith; cap_low = omega arith; rel_low = le_refl _ }
views_grow (stored p a b) = record { r_old_low = le_refl _; w_old_low = omega arith; r_new_low = le_refl _; w_new_low = le_refl _; cap_low = omega arith; rel_low = omega arith }
views_grow (branched e) = record { r_old_low = le_refl _; w_old_low = le_refl _; r_new_low = le_refl _; w_new_low = le_refl _; cap_low = omega arith; rel_low = le_refl _ }
views_grow {s = s} (fenced {k} e) = fence_grows k s.views

-- a register that it does not write holds the same
unwritten : {m : Memory} {t : ℕ} {s : Thread} {x : Instr} {y : Thread} → Effect m t s x y → (n : ℕ) → (Writes x n → ⊥) → held y n ≡ held s n
unwritten {s = s} (computed {r = r} e) n f = ap (λ (o : Register). o.value) (get_or-set_other s.registers r n _ fresh_register (λ i. f (sym i)))
unwritten {s = s} (loaded {r = r} d l) n f = ap (λ (o : Register). o.value) (get_or-set_other s.registers r n _ fresh_register (λ i. f (sym i)))
unwritten (stored p a b) n f = refl
unwritten (branched e) n f = refl
unwritten (fenced e) n f = refl

-- the position moves on by one, or by what a branch skips too
Lands : Instr → ℕ → ℕ → Type 0
Lands x p q = (q ≡ p + 1) ⊎ ((n : ℕ) × (a : Operand) × (b : Operand) × (x ≡ Branch n a b) × (q ≤ p + 1 + n))

branch_lands : (b : Bool) (n : ℕ) → branch_by b n ≤ 1 + n
branch_lands true n = omega arith
branch_lands false n = omega arith

lands : {m : Memory} {t : ℕ} {s : Thread} {x : Instr} {y : Thread} → Effect m t s x y → Lands x s.position y.position
unfolding Lands
lands (computed e) = inl refl
lands (loaded r n) = inl refl
lands (stored p a b) = inl refl
lands {s = s} (branched {n} {a} {b} e) = inr (n, a, b, refl, let h = branch_lands (eqb (value_of s a) (value_of s b)) n in omega arith)
lands (fenced e) = inl refl

module _ {c : Code} {s y : Thread} (g : Goes c s y) where
  its_effect : Effect g.memory g.time (with_promises g.promises s) g.instr y
  its_effect = effect g.instr g.memory g.time (with_promises g.promises s) y g.does

  pub goes_on : s.position < y.position
  unfolding its_effect
  goes_on = moves its_effect

  pub goes_views : Lower s.views y.views
  goes_views = views_grow its_effect

  pub goes_holds : (n : ℕ) → (Writes g.instr n → ⊥) → held y n ≡ held s n
  goes_holds = unwritten its_effect

  pub goes_lands : (y.position ≡ s.position + 1) ⊎ ((n : ℕ) × (a : Operand) × (b : Operand) × (g.instr ≡ Branch n a b) × (y.position ≤ s.position + 1 + n))
  unfolding Lands
  goes_lands = lands its_effect

-- ---- where a thread comes to
-- not back
pub arrives_on : {c : Code} {s y : Thread} → ComesTo c s y → s.position ≤ y.position
arrives_on start = le_refl _
arrives_on (after a g) = let l = arrives_on a in let h = goes_on g in omega arith

-- from one instruction further
pub arrives_from : {c : Code} {s s' y : Thread} → Goes c s s' → ComesTo c s' y → ComesTo c s y
arrives_from g start = after start g
arrives_from g (after a h) = after (arrives_from g a) h

-- CROSSES: y is the first on the way at position n or after it
pub data Crosses (c : Code) (s : Thread) (n : ℕ) (y : Thread) : Type 0 where
  first : n ≤ s.position → s ≡ y → Crosses c s n y
  over : {z : Thread} → ComesTo c s z → z.position < n → Goes c z y → n ≤ y.position → Crosses c s n y

-- each is the first at its own position
pub crosses_here : {c : Code} {s y : Thread} → ComesTo c s y → Crosses c s y.position y
crosses_here start = first (le_refl _) refl
crosses_here (after a g) = over a (goes_on g) g (le_refl _)

-- the first after position n was so at n too, or comes of the one at n
pub crosses_next : {c : Code} {s y : Thread} (n : ℕ) → Crosses c s (n + 1) y → (Crosses c s n y × (n < y.position)) ⊎ ((z : Thread) × Crosses c s n z × (z.position ≡ n) × Goes c z y)
crosses_next n (first l e) = inl (first (omega arith) e, let p = ap (λ (o : Thread). o.position) e in omega arith)
crosses_next {c} {s} n (over {z} a l g h) = elim (dec_lt z.position n) [
  | yes before ↦ inl (over a before g (omega arith), omega arith)
  | no beyond ↦ (let at : z.position ≡ n = omega arith in inr (z, subst (λ (k : ℕ). Crosses c s k z) at (crosses_here a), at, g))
]
