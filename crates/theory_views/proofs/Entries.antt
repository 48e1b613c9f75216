-- What holds of every entry of a list, or of each pair of entries of two, and goes on holding when an entry is replaced.
-- Assumes nothing.
use mathlib.Core.Path.{◌≡◌, refl, sym, ap, subst}
use mathlib.Core.Logic.{◌≢◌}
use mathlib.Core.List.{List, [], ◌∷◌, map}
use Prim.Native.Nat.{ℕ, zero, suc}
use native.Mathlib.Decide.{ℕ_discrete}
use native.Mathlib.Omega.{arith}
use lib.ListN.{length, get_or, set, replicate}

module _ {A : Type 0} where
  -- what holds of each entry and of x holds of each entry after x is put in
  pub set_all : (P : A → Type 0) (d x : A) (xs : List A) (i : ℕ) → ((k : ℕ) → P (get_or xs k d)) → P x → (k : ℕ) → P (get_or (set xs i x) k d)
  set_all P d x [] i h p k = h k
  set_all P d x (y ∷ ys) zero h p zero = p
  set_all P d x (y ∷ ys) zero h p (suc k) = h (suc k)
  set_all P d x (y ∷ ys) (suc i) h p zero = h zero
  set_all P d x (y ∷ ys) (suc i) h p (suc k) = set_all P d x ys i (λ j. h (suc j)) p k

  -- what holds of each pair of entries but those at i, and of x and y, holds of each pair after x and y are put in at i
  pub set_both : (R : ℕ → A → A → Type 0) (d x y : A) (xs ys : List A) (i : ℕ) → length xs ≡ length ys
      → ((k : ℕ) → k ≢ i → R k (get_or xs k d) (get_or ys k d)) → R i d d → R i x y → (k : ℕ) → R k (get_or (set xs i x) k d) (get_or (set ys i y) k d)
  set_both R d x y [] [] i e h z p k = go (ℕ_discrete k i)
    where
      go : Dec (k ≡ i) → R k d d
      go (yes q) = subst (λ (j : ℕ). R j d d) (sym q) z
      go (no q) = h k q
  set_both R d x y [] (b ∷ ys) i e h z p k = absurd (let q : 0 ≡ suc (length ys) = e in omega arith)
  set_both R d x y (a ∷ xs) [] i e h z p k = absurd (let q : suc (length xs) ≡ 0 = e in omega arith)
  set_both R d x y (a ∷ xs) (b ∷ ys) zero e h z p zero = p
  set_both R d x y (a ∷ xs) (b ∷ ys) zero e h z p (suc k) = h (suc k) (λ q. omega arith)
  set_both R d x y (a ∷ xs) (b ∷ ys) (suc i) e h z p zero = h zero (λ q. omega arith)
  set_both R d x y (a ∷ xs) (b ∷ ys) (suc i) e h z p (suc k) =
      set_both (λ j. R (suc j)) d x y xs ys i (let q : suc (length xs) ≡ suc (length ys) = e in omega arith) (λ j n. h (suc j) (λ q. n (omega arith))) z p k

  -- what holds of d holds of each entry of a list of d
  pub replicate_all : (P : A → Type 0) (n : ℕ) (d : A) → P d → (k : ℕ) → P (get_or (replicate n d) k d)
  replicate_all P zero d h k = h
  replicate_all P (suc n) d h zero = h
  replicate_all P (suc n) d h (suc k) = replicate_all P n d h k

-- to replace an entry and then map is to map and then replace
pub map-set : {A B : Type 0} (f : A → B) (xs : List A) (i : ℕ) (x : A) → map f (set xs i x) ≡ set (map f xs) i (f x)
map-set f [] i x = refl
map-set f (y ∷ ys) zero x = refl
map-set {A} {B} f (y ∷ ys) (suc i) x = ap (λ (r : List B). f y ∷ r) (map-set f ys i x)
