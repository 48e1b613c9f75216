-- What the loops of the code come to: tests of all entries, and numbers added up.
-- Assumes nothing.
use mathlib.Core.Path.{◌≡◌, refl, ap, ap₂, ◌∙◌}
use mathlib.Core.Bool.{Bool, ◌&&◌, and-true}
use mathlib.Core.List.{[], ◌∷◌}
use Prim.Native.Nat.{ℕ, zero, suc, ◌+◌, ◌*◌, ◌≤◌, ◌<◌}
use native.Mathlib.Numerals.{add-one}
use native.Mathlib.Omega.{arith}
use lib.Dec.{eqb}
use borrow.Author.Tests.{eq-eqb}
use Rattle.program.specs.Tests.{all_of, below, sum_below}

-- two tests that agree
pub below_same : (f g : ℕ → Bool) → ((k : ℕ) → f k ≡ g k) → (n : ℕ) → below f n ≡ below g n
unfolding below
below_same f g h zero = refl
below_same f g h (suc n) = ap₂ ◌&&◌ (h n) (below_same f g h n)

-- ---- a loop that adds up bytes: k of them are added
pub record Added (f : ℕ → ℕ) (n k sum : ℕ) : Type 0 where
  pub within : k ≤ n
  pub few : sum ≤ 255 * k
  pub so_far : sum ≡ sum_below f k

module _ {f : ℕ → ℕ} {n : ℕ} where
  pub added_none : Added f n 0 0
  unfolding sum_below
  added_none = record { within = omega arith; few = omega arith; so_far = refl }

  pub added_more : {k sum b : ℕ} → Added f n k sum → k < n → b < 256 → b ≡ f k → Added f n (k + 1) (sum + b)
  unfolding sum_below
  added_more h l s e = record { within = omega arith; few = omega arith; so_far = rw (add-one, e, h.so_far) }

  pub added_all : {k sum : ℕ} → Added f n k sum → n ≤ k → sum ≡ sum_below f n
  added_all {k} {sum} h l = let e : k ≡ n = omega arith in h.so_far ∙ ap (sum_below f) e

-- an array that is tested for its length and its entries always has its length
pub full : (a b : Bool) (m n : ℕ) → m ≡ n → (a && b) ≡ all_of (a ∷ eqb m n ∷ b ∷ [])
unfolding all_of
full a b m n e = rw (eq-eqb m n e, and-true)
