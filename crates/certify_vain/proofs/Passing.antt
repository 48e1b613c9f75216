-- Times of a set that are passed over, since they are no better than one that failed.
-- Assumes nothing.
use mathlib.Core.Path.{◌≡◌, refl, sym, subst, subst₂}
use mathlib.Core.Bool.{Bool, true, false, cond}
use Prim.Native.Nat.{ℕ, ◌≤◌, ◌<◌}
use native.Mathlib.Decide.{ℕ_discrete}
use lib.Dec.{T, eqb}
use lib.ListN.{get_or}
use Rattle.machine.specs.State.{has, without, fresh_forward}
use Rattle.machine.specs.Rules.{read_value}
use Rattle.machine.proofs.Sets.{has_without}
use Rattle.certify_runs.specs.Below.{Memory, Forward, Thread}
use Rattle.certify_cares.specs.Cares.{Agrees}
use Rattle.certify_vain.specs.Tries.{LeftOut, PassedOver}

-- what is in a set and not out of it
in_and_out : (p v : ℕ) → T (has p v) → has p v ≡ false → ⊥
in_and_out p v h e = subst T e h

-- ---- one time left out
pub left_out : (p u r : ℕ) → T (has p u) → r ≡ without p u → LeftOut p u r
left_out p u r h e v there gone = elim (ℕ_discrete u v) [
  | yes d ↦ d
  | no d ↦ absurd (in_and_out r v (subst (λ (q : ℕ). T (has q v)) (sym e) (has_without p u v h d there)) gone)
]

pub left_in : (p u : ℕ) → LeftOut p u p
left_in p u v there gone = absurd (in_and_out p v there gone)

-- ---- times passed over
-- every time that is left out of the set passes
abbrev pub Omits : (ℕ → Type 0) → ℕ → ℕ → Type 0
Omits P later r = (u : ℕ) → T (has later u) → has r u ≡ false → P u

pub omits_none : (P : ℕ → Type 0) (later : ℕ) → Omits P later later
omits_none P later u there gone = absurd (in_and_out later u there gone)

pub omits_one : (P : ℕ → Type 0) (later p u r : ℕ) → Omits P later p → P u → LeftOut p u r → Omits P later r
omits_one P later p u r old passes out v there gone = go (has p v) refl
  where
    go : (b : Bool) → has p v ≡ b → P v
    go true e = subst P (out v (subst T (sym e) tt) gone) passes
    go false e = old v there e

-- time u is no better than t, by the forward pair of the location
pub record Worse (m : Memory) (pair : Forward) (t care u : ℕ) : Type 0 where
  pub later : t < u
  pub low : cond (eqb t pair.time) pair.view t ≤ cond (eqb u pair.time) pair.view u
  pub alike : Agrees care (read_value m t) (read_value m u)

-- by what the code read: the views and the values
pub worse_here : (m : Memory) (pair : Forward) (t care u : ℕ) → t < u → (v w : ℕ) → v ≡ cond (eqb t pair.time) pair.view t → w ≡ cond (eqb u pair.time) pair.view u
    → (x y : ℕ) → x ≡ read_value m t → y ≡ read_value m u → (v ≤ w) × Agrees care x y → Worse m pair t care u
worse_here m pair t care u after v w ve we x y xe ye h =
    record { later = after; low = subst₂ (λ (p q : ℕ). p ≤ q) ve we h.0; alike = subst₂ (λ (p q : ℕ). Agrees care p q) xe ye h.1 }

pub passed_over : (m : Memory) (s : Thread) (l t care later r : ℕ) (pair : Forward) → pair ≡ get_or s.forward l fresh_forward → Omits (Worse m pair t care) later r → PassedOver m s l t care later r
passed_over m s l t care later r pair e out u there gone =
    let w = subst (λ (p : Forward). Worse m p t care u) e (out u there gone) in
    record { later = w.later; low = w.low; alike = w.alike }
