-- The set of promises: which times are in it after one is put in or taken out, and how many.
-- Assumes nothing.
use mathlib.Core.Path.{◌≡◌, refl, sym, ap, ◌∙◌, subst}
use mathlib.Core.Logic.{◌⊎◌, inl, inr, ⊎_elim, ◌≢◌}
use mathlib.Core.Bool.{Bool}
use Prim.Native.Nat.{ℕ, zero, suc, pred, ◌+◌, ◌-◌, ◌/◌, ◌%◌, ◌^◌, ◌≤◌, ◌<◌}
use native.Mathlib.Nat.{div-one}
use native.Mathlib.Decide.{dec_lt}
use native.Mathlib.Omega.{arith}
use lib.Count.{ones, ones_step}
use lib.Dec.{T, eqb, ltb, eqb→eq, ltb→lt, lt→ltb}
use lib.Pow.{shr-shr, pow_mono}
use Rattle.program.proofs.Tests.{and_left, and_right, and_both, eq→eqb}
use Rattle.machine.specs.State.{has, with, without}

-- ---- by digits
-- digit k of p is 1
abbrev bit : ℕ → ℕ → Bool
bit p zero = eqb (p % 2) 1
bit p (suc k) = bit (p / 2) k

bit_shift : (p k : ℕ) → bit p k ≡ eqb (p / 2 ^ k % 2) 1
bit_shift p zero = ap (λ (n : ℕ). eqb (n % 2) 1) (sym (div-one p))
bit_shift p (suc k) = let e : 1 + k ≡ suc k = omega arith in bit_shift (p / 2) k ∙ ap (λ (n : ℕ). eqb (n % 2) 1) (shr-shr p 1 k ∙ ap (λ (n : ℕ). p / 2 ^ n) e)

pub has_positive : (p t : ℕ) → T (has p t) → 0 < t
unfolding has
has_positive p t h = ltb→lt 0 t (and_left (ltb 0 t) (eqb (p / 2 ^ (t - 1) % 2) 1) h)

has_bit : (p t : ℕ) → T (has p t) → T (bit p (t - 1))
unfolding has
has_bit p t h = subst T (sym (bit_shift p (t - 1))) (and_right (ltb 0 t) (eqb (p / 2 ^ (t - 1) % 2) 1) h)

bit_has : (p t : ℕ) → 0 < t → T (bit p (t - 1)) → T (has p t)
unfolding has
bit_has p t x h = and_both (ltb 0 t) (eqb (p / 2 ^ (t - 1) % 2) 1) (lt→ltb 0 t x) (subst T (bit_shift p (t - 1)) h)

bit_le : (p a : ℕ) → T (bit p a) → 2 ^ a ≤ p
bit_le p zero h = let e = eqb→eq (p % 2) 1 h in omega arith
bit_le p (suc a) h = let k = bit_le (p / 2) a h in omega arith

bit_zero : (k : ℕ) → T (bit 0 k) → ⊥
bit_zero zero t = t
bit_zero (suc k) t = bit_zero k t

bit_remove : (p a b : ℕ) → T (bit p a) → a ≢ b → T (bit p b) → T (bit (p - 2 ^ a) b)
bit_remove p zero zero h n k = absurd (n refl)
bit_remove p zero (suc b) h n k =
    let e = eqb→eq (p % 2) 1 h in
    let q : p / 2 ≡ (p - 2 ^ 0) / 2 = omega arith in
    subst (λ (x : ℕ). T (bit x b)) q k
bit_remove p (suc a) zero h n k =
    let g = bit_le (p / 2) a h in
    let q : p % 2 ≡ (p - 2 ^ suc a) % 2 = omega arith in
    subst (λ (x : ℕ). T (eqb x 1)) q k
bit_remove p (suc a) (suc b) h n k =
    let g = bit_le (p / 2) a h in
    let q : p / 2 - 2 ^ a ≡ (p - 2 ^ suc a) / 2 = omega arith in
    subst (λ (x : ℕ). T (bit x b)) q (bit_remove (p / 2) a b h (λ e. n (ap suc e)) k)

bit_removed : (p a b : ℕ) → T (bit p a) → T (bit (p - 2 ^ a) b) → T (bit p b) × (a ≢ b)
bit_removed p zero zero h k =
    let e = eqb→eq (p % 2) 1 h in
    let f = eqb→eq ((p - 2 ^ 0) % 2) 1 k in
    absurd (omega arith)
bit_removed p zero (suc b) h k =
    let e = eqb→eq (p % 2) 1 h in
    let q : (p - 2 ^ 0) / 2 ≡ p / 2 = omega arith in
    (subst (λ (x : ℕ). T (bit x b)) q k, λ w. omega arith)
bit_removed p (suc a) zero h k =
    let g = bit_le (p / 2) a h in
    let q : (p - 2 ^ suc a) % 2 ≡ p % 2 = omega arith in
    (subst (λ (x : ℕ). T (eqb x 1)) q k, λ w. omega arith)
bit_removed p (suc a) (suc b) h k =
    let g = bit_le (p / 2) a h in
    let q : (p - 2 ^ suc a) / 2 ≡ p / 2 - 2 ^ a = omega arith in
    let r = bit_removed (p / 2) a b h (subst (λ (x : ℕ). T (bit x b)) q k) in
    (r.0, λ w. r.1 (ap pred w))

bit_add : (p a : ℕ) → p < 2 ^ a → T (bit (p + 2 ^ a) a)
bit_add p zero h = let e : (p + 2 ^ 0) % 2 ≡ 1 = omega arith in eq→eqb e
bit_add p (suc a) h =
    let q : p / 2 + 2 ^ a ≡ (p + 2 ^ suc a) / 2 = omega arith in
    subst (λ (x : ℕ). T (bit x a)) q (bit_add (p / 2) a (omega arith))

bit_added : (p a b : ℕ) → p < 2 ^ a → T (bit (p + 2 ^ a) b) → (a ≡ b) ⊎ T (bit p b)
bit_added p zero zero h k = inl refl
bit_added p zero (suc b) h k =
    let q : (p + 2 ^ 0) / 2 ≡ p / 2 = omega arith in
    inr (subst (λ (x : ℕ). T (bit x b)) q k)
bit_added p (suc a) zero h k =
    let q : (p + 2 ^ suc a) % 2 ≡ p % 2 = omega arith in
    inr (subst (λ (x : ℕ). T (eqb x 1)) q k)
bit_added p (suc a) (suc b) h k =
    let q : (p + 2 ^ suc a) / 2 ≡ p / 2 + 2 ^ a = omega arith in
    ⊎_elim (λ e. inl (ap suc e)) (λ t. inr t) (bit_added (p / 2) a b (omega arith) (subst (λ (x : ℕ). T (bit x b)) q k))

-- ---- members
-- the empty set has none
pub has_none : (p t : ℕ) → p ≡ 0 → T (has p t) → ⊥
has_none p t z h = bit_zero (t - 1) (subst (λ (x : ℕ). T (bit x (t - 1))) z (has_bit p t h))

-- a set of times up to n has none above n
pub has_time : (p n t : ℕ) → p < 2 ^ n → T (has p t) → t ≤ n
has_time p n t h k = go (dec_lt n t)
  where
    go : Dec (n < t) → t ≤ n
    go (yes l) = let a = bit_le p (t - 1) (has_bit p t k) in let b = pow_mono {i = n} {j = t - 1} (omega arith) in absurd (omega arith)
    go (no l) = omega arith

-- to take u out leaves the others
pub has_without : (p u t : ℕ) → T (has p u) → u ≢ t → T (has p t) → T (has (without p u) t)
unfolding without
has_without p u t h n k =
    let x = has_positive p u h in
    let y = has_positive p t k in
    bit_has (p - 2 ^ (u - 1)) t y (bit_remove p (u - 1) (t - 1) (has_bit p u h) (λ e. n (omega arith)) (has_bit p t k))

-- what is in the set after u is taken out was in it, and is not u
pub has_removed : (p u t : ℕ) → T (has p u) → T (has (without p u) t) → T (has p t) × (u ≢ t)
unfolding without
has_removed p u t h k =
    let y = has_positive (p - 2 ^ (u - 1)) t k in
    let r = bit_removed p (u - 1) (t - 1) (has_bit p u h) (has_bit (p - 2 ^ (u - 1)) t k) in
    (bit_has p t y r.0, λ e. r.1 (ap (λ (n : ℕ). n - 1) e))

after_minus : (n : ℕ) → n + 1 - 1 ≡ n
after_minus n = omega arith

-- the time after n is in the set once it is put in
pub has_with : (p n : ℕ) → p < 2 ^ n → T (has (with p (n + 1)) (n + 1))
unfolding with
has_with p n h = bit_has (p + 2 ^ (n + 1 - 1)) (n + 1) (omega arith) (subst (λ (k : ℕ). T (bit (p + 2 ^ k) k)) (sym (after_minus n)) (bit_add p n h))

-- what is in the set after the time after n is put in is that time, or was in it
pub has_added : (p n t : ℕ) → p < 2 ^ n → T (has (with p (n + 1)) t) → (t ≡ n + 1) ⊎ T (has p t)
unfolding with
has_added p n t h k =
    let y = has_positive (p + 2 ^ (n + 1 - 1)) t k in
    let b = has_bit (p + 2 ^ (n + 1 - 1)) t k in
    ⊎_elim (λ e. inl (omega arith)) (λ q. inr (bit_has p t y q)) (bit_added p n (t - 1) h (subst (λ (j : ℕ). T (bit (p + 2 ^ j) (t - 1))) (after_minus n) b))

-- put in and taken out
pub with_without : (p t : ℕ) → without (with p t) t ≡ p
unfolding with without
with_without p t = omega arith

-- ---- sizes
pub without_small : (p n t : ℕ) → p < 2 ^ n → without p t < 2 ^ n
unfolding without
without_small p n t h = omega arith

pub with_small : (p n : ℕ) → p < 2 ^ n → with p (n + 1) < 2 ^ (n + 1)
unfolding with
with_small p n h =
    let e : n + 1 ≡ suc n = omega arith in
    subst (λ (k : ℕ). p + 2 ^ (k - 1) < 2 ^ k) (sym e) (let d : suc n - 1 ≡ n = omega arith in subst (λ (k : ℕ). p + 2 ^ k < 2 ^ suc n) (sym d) (omega arith))

pub grown_small : (p n : ℕ) → p < 2 ^ n → p < 2 ^ (n + 1)
grown_small p n h = let b = pow_mono {i = n} {j = n + 1} (omega arith) in omega arith

-- ---- how many
pub ones_none : ones 0 ≡ 0
unfolding ones
ones_none = refl

ones_remove : (p a : ℕ) → T (bit p a) → ones p ≡ suc (ones (p - 2 ^ a))
ones_remove p zero h =
    let e = eqb→eq (p % 2) 1 h in
    let q : (p - 2 ^ 0) / 2 ≡ p / 2 = omega arith in
    let f = ap ones q in
    let r1 = ones_step p in
    let r2 = ones_step (p - 2 ^ 0) in
    omega arith
ones_remove p (suc a) h =
    let g = bit_le (p / 2) a h in
    let q : (p - 2 ^ suc a) / 2 ≡ p / 2 - 2 ^ a = omega arith in
    let f = ap ones q in
    let r = ones_remove (p / 2) a h in
    let r1 = ones_step p in
    let r2 = ones_step (p - 2 ^ suc a) in
    omega arith

ones_add : (p a : ℕ) → p < 2 ^ a → ones (p + 2 ^ a) ≡ suc (ones p)
ones_add p zero h =
    let q : (p + 2 ^ 0) / 2 ≡ p / 2 = omega arith in
    let f = ap ones q in
    let r1 = ones_step p in
    let r2 = ones_step (p + 2 ^ 0) in
    omega arith
ones_add p (suc a) h =
    let q : (p + 2 ^ suc a) / 2 ≡ p / 2 + 2 ^ a = omega arith in
    let f = ap ones q in
    let r = ones_add (p / 2) a (omega arith) in
    let r1 = ones_step p in
    let r2 = ones_step (p + 2 ^ suc a) in
    omega arith

-- one out: one fewer
pub ones_without : (p t : ℕ) → T (has p t) → ones p ≡ suc (ones (without p t))
unfolding without
ones_without p t h = ones_remove p (t - 1) (has_bit p t h)

-- one in, after all others: one more
pub ones_with : (p n : ℕ) → p < 2 ^ n → ones (with p (n + 1)) ≡ suc (ones p)
unfolding with
ones_with p n h = ap (λ (k : ℕ). ones (p + 2 ^ k)) (after_minus n) ∙ ones_add p n h
