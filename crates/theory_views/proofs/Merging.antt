-- View merging, for lists of views of any length: each law is proved once, and says nothing of how many locations there are.
-- Assumes nothing.
use mathlib.Core.Path.{◌≡◌, refl, sym, ap, subst}
use mathlib.Core.Logic.{◌≢◌}
use mathlib.Core.List.{List, [], ◌∷◌}
use Prim.Native.Nat.{ℕ, zero, suc, max, ◌≤◌, ◌<◌}
use native.Mathlib.Nat.{le_refl, le-max_left, le-max_right}
use native.Mathlib.Omega.{arith}
use lib.ListN.{length, length-set}
use lib.Seq.{get_or-set_same, get_or-set_other}
use Rattle.theory_views.specs.Views.{view_at, raise_at}
use Rattle.theory_views.proofs.Entries.{set_all}

pub length_raise : (c : List ℕ) (i v : ℕ) → length (raise_at c i v) ≡ length c
length_raise c i v = length-set c i _

pub raise_same : (c : List ℕ) (i v : ℕ) → i < length c → view_at (raise_at c i v) i ≡ max (view_at c i) v
raise_same c i v h = get_or-set_same c i _ 0 h

pub raise_other : (c : List ℕ) (i v j : ℕ) → j ≢ i → view_at (raise_at c i v) j ≡ view_at c j
raise_other c i v j n = get_or-set_other c i j _ 0 n

-- no view falls
pub raise_up : (c : List ℕ) (i v j : ℕ) → view_at c j ≤ view_at (raise_at c i v) j
raise_up [] i v j = le_refl _
raise_up (x ∷ xs) zero v zero = le-max_left x v
raise_up (x ∷ xs) zero v (suc j) = le_refl _
raise_up (x ∷ xs) (suc i) v zero = le_refl _
raise_up (x ∷ xs) (suc i) v (suc j) = raise_up xs i v j

-- the raised view is at least v
pub raise_reaches : (c : List ℕ) (i v : ℕ) → i < length c → v ≤ view_at (raise_at c i v) i
raise_reaches c i v h = subst (λ (n : ℕ). v ≤ n) (sym (raise_same c i v h)) (le-max_right (view_at c i) v)

-- a bound on all views holds on
pub raise_below : (b : ℕ) (c : List ℕ) (i v : ℕ) → ((k : ℕ) → view_at c k ≤ b) → v ≤ b → (k : ℕ) → view_at (raise_at c i v) k ≤ b
raise_below b c i v h p k = set_all (λ n. n ≤ b) 0 (max (view_at c i) v) c i h (let q = h i in omega arith) k

-- raised by v, then by w: raised by the larger
pub raise_twice : (c : List ℕ) (i v w : ℕ) → raise_at (raise_at c i v) i w ≡ raise_at c i (max v w)
raise_twice [] i v w = refl
raise_twice (x ∷ xs) zero v w = ap (λ (n : ℕ). n ∷ xs) (omega arith)
raise_twice (x ∷ xs) (suc i) v w = ap (λ (r : List ℕ). x ∷ r) (raise_twice xs i v w)

-- in either order
pub raise_comm : (c : List ℕ) (i v j w : ℕ) → raise_at (raise_at c i v) j w ≡ raise_at (raise_at c j w) i v
raise_comm [] i v j w = refl
raise_comm (x ∷ xs) zero v zero w = ap (λ (n : ℕ). n ∷ xs) (omega arith)
raise_comm (x ∷ xs) zero v (suc j) w = refl
raise_comm (x ∷ xs) (suc i) v zero w = refl
raise_comm (x ∷ xs) (suc i) v (suc j) w = ap (λ (r : List ℕ). x ∷ r) (raise_comm xs i v j w)

-- the least list above c that has v at i
pub raise_least : (c d : List ℕ) (i v : ℕ) → ((k : ℕ) → view_at c k ≤ view_at d k) → v ≤ view_at d i → (k : ℕ) → view_at (raise_at c i v) k ≤ view_at d k
raise_least [] d i v h g k = h k
raise_least (x ∷ xs) [] zero v h g zero = let a = h zero in omega arith
raise_least (x ∷ xs) (y ∷ ys) zero v h g zero = let a = h zero in omega arith
raise_least (x ∷ xs) d zero v h g (suc k) = h (suc k)
raise_least (x ∷ xs) d (suc i) v h g zero = h zero
raise_least (x ∷ xs) [] (suc i) v h g (suc k) = raise_least xs [] i v (λ j. h (suc j)) g k
raise_least (x ∷ xs) (y ∷ ys) (suc i) v h g (suc k) = raise_least xs ys i v (λ j. h (suc j)) g k
