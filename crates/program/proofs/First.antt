-- A list of which the first k entries are filled in, and the others are still the default.
-- Assumes nothing.
use mathlib.Core.Path.{◌≡◌, refl, ap}
use mathlib.Core.List.{List, [], ◌∷◌}
use Prim.Native.Nat.{ℕ, zero, suc, ◌≤◌, ◌<◌}
use native.Mathlib.Nat.{not-suc-le-zero}
use native.Mathlib.Omega.{arith}
use lib.ListN.{length, get_or, set, replicate}

module _ {A : Type 0} (d : A) where
  -- the first k entries of a list, the others the default
  unfoldable pub first : ℕ → List A → List A
  first k [] = []
  first zero (x ∷ l) = d ∷ first zero l
  first (suc k) (x ∷ l) = x ∷ first k l

  pub first_length : (k : ℕ) (l : List A) → length (first k l) ≡ length l
  unfolding first
  first_length k [] = refl
  first_length zero (x ∷ l) = ap suc (first_length zero l)
  first_length (suc k) (x ∷ l) = ap suc (first_length k l)

  pub first_none : (l : List A) → first 0 l ≡ replicate (length l) d
  unfolding first
  first_none [] = refl
  first_none (x ∷ l) = ap (λ (r : List A). d ∷ r) (first_none l)

  -- entry k is still the default
  pub first_at : (k j : ℕ) (l : List A) → k ≤ j → get_or (first k l) j d ≡ d
  unfolding first
  first_at k j [] h = refl
  first_at zero zero (x ∷ l) h = refl
  first_at zero (suc j) (x ∷ l) h = first_at zero j l (omega arith)
  first_at (suc k) zero (x ∷ l) h = absurd (not-suc-le-zero h)
  first_at (suc k) (suc j) (x ∷ l) h = first_at k j l (omega arith)

  -- entry k is filled in
  pub first_next : (k : ℕ) (l : List A) → k < length l → set (first k l) k (get_or l k d) ≡ first (suc k) l
  unfolding first
  first_next k [] h = absurd (not-suc-le-zero h)
  first_next zero (x ∷ l) h = refl
  first_next (suc k) (x ∷ l) h = ap (λ (r : List A). x ∷ r) (first_next k l (omega arith))

  -- where the others are the default anyway, all is filled in
  pub first_all : (k : ℕ) (l : List A) → ((j : ℕ) → k ≤ j → j < length l → get_or l j d ≡ d) → first k l ≡ l
  unfolding first
  first_all k [] h = refl
  first_all zero (x ∷ l) h = rest (h 0 (omega arith) (omega arith)) (first_all zero l (λ j a b. h (suc j) (omega arith) (omega arith)))
    where
      rest : x ≡ d → first zero l ≡ l → d ∷ first zero l ≡ x ∷ l
      rest e f = rw (e, f)
  first_all (suc k) (x ∷ l) h = ap (λ (r : List A). x ∷ r) (first_all k l (λ j a b. h (suc j) (omega arith) (omega arith)))
