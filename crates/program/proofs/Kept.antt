-- What holds of a reading for as long as it goes on: past a test, a record's start, a body's bytes, n records.
-- Assumes nothing.
use mathlib.Core.Path.{◌≡◌, refl, ap, ◌∙◌, subst}
use mathlib.Core.Bool.{Bool, true, false, ◌&&◌}
use mathlib.Core.List.{List, [], ◌∷◌}
use Prim.Native.Nat.{ℕ, zero, suc, ◌+◌, ◌≤◌, ◌<◌}
use native.Mathlib.Omega.{arith}
use lib.Dec.{T, eqb, leb, leb→le}
use lib.ListN.{length}
use Rattle.program.specs.Tests.{all_of}
use Rattle.program.specs.Program.{Program}
use Rattle.program.specs.Refusals.{Refusal, InputEnds, OtherMark}
use Rattle.program.specs.File.{Reading, stopped, reading, byte_at, demand, marked, in_range, read_each}
use Rattle.program.specs.Inner.{IfReading}
use Rattle.program.proofs.Tests.{and_both}

module _ (P : ℕ → ℕ → Program → Type 0) where
  pub past_demand : (b : Bool) (r : Refusal) (place : ℕ) (on : Reading) → (T b → IfReading P on) → IfReading P (demand b r place on)
  past_demand true r place on h = h tt
  past_demand false r place on h = tt

  pub past_mark : (f : List ℕ) (at first second n : ℕ) (on : Reading) → (at + 2 + n ≤ length f → IfReading P on) → IfReading P (marked f at first second n on)
  unfolding marked
  past_mark f at first second n on h =
      past_demand (leb (at + 2 + n) (length f)) InputEnds at _
      (λ t. past_demand (eqb (byte_at f at) first && eqb (byte_at f (at + 1)) second) OtherMark at on (λ u. h (leb→le (at + 2 + n) (length f) t)))

  pub past_range : (bs : List Bool) (r : Refusal) (at : ℕ) (on : Reading) → (T (all_of bs) → IfReading P on) → IfReading P (in_range bs r at on)
  unfolding in_range all_of
  past_range [] r at on h = h tt
  past_range (b ∷ bs) r at on h = past_demand b r at _ (λ t. past_range bs r (suc at) on (λ u. h (and_both b (all_of bs) t u)))

-- n records: what each keeps holds at their end, and so does what follows from it
module _ (one : ℕ → ℕ → ℕ → Program → Reading) (P : ℕ → ℕ → ℕ → Program → Type 0) (n : ℕ)
    (keeps : (k at s : ℕ) (p : Program) → k < n → P k at s p → IfReading (P (suc k)) (one k at s p)) where
  module _ (Q : ℕ → ℕ → Program → Type 0) (ends : (at s : ℕ) (p : Program) → P n at s p → Q at s p) where
    rest_keeps : (m k : ℕ) (x : Reading) → k + m ≡ n → IfReading (P k) x → IfReading Q (read_each one m k x)
    unfolding read_each
    rest_keeps zero k (stopped r place) e w = tt
    rest_keeps zero k (reading at s p) e w = let z : k ≡ n = omega arith in ends at s p (subst (λ (j : ℕ). P j at s p) z w)
    rest_keeps (suc m) k (stopped r place) e w = tt
    rest_keeps (suc m) k (reading at s p) e w = rest_keeps m (suc k) (one k at s p) (omega arith) (keeps k at s p (omega arith) w)

    pub each_keeps : (x : Reading) → IfReading (P 0) x → IfReading Q (read_each one n 0 x)
    each_keeps x w = rest_keeps n 0 x (omega arith) w

  -- read in another way that is the same where that holds, they are the same
  module _ (other : ℕ → ℕ → ℕ → Program → Reading) (same : (k at s : ℕ) (p : Program) → k < n → P k at s p → other k at s p ≡ one k at s p) where
    rest_same : (m k : ℕ) (x : Reading) → k + m ≡ n → IfReading (P k) x → read_each other m k x ≡ read_each one m k x
    unfolding read_each
    rest_same zero k x e w = refl
    rest_same (suc m) k (stopped r place) e w = refl
    rest_same (suc m) k (reading at s p) e w =
        ap (read_each other m (suc k)) (same k at s p (omega arith) w) ∙ rest_same m (suc k) (one k at s p) (omega arith) (keeps k at s p (omega arith) w)

    pub each_same : (x : Reading) → IfReading (P 0) x → read_each other n 0 x ≡ read_each one n 0 x
    each_same x w = rest_same n 0 x (omega arith) w
