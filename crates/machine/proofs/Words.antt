-- The set of promises in a word of 16 bits: what shifts, ones and trailing zeros say of it.
-- Assumes nothing.
use mathlib.Core.Path.{◌≡◌, refl, sym, ap, ◌∙◌, subst}
use mathlib.Core.Bool.{false}
use Prim.Native.Nat.{ℕ, zero, suc, ◌+◌, ◌-◌, ◌*◌, ◌/◌, ◌%◌, ◌^◌, ◌≤◌, ◌<◌}
use native.Mathlib.Nat.{mod-eq_of_lt, div-eq_of_lt, one-mul, lt_of_not-le, div-div-eq-div-mul, div-one, pow-succ'}
use native.Mathlib.Decide.{dec_le}
use native.Mathlib.Omega.{arith}
use lib.Arith.{bin_ind}
use lib.Count.{ones, ones_step, count_trailing_zeros}
use lib.Dec.{T, eqb, ltb, eqb→eq}
use lib.Pow.{pow-lt}
use borrow.Author.Tests.{ne_eqb, lt-ltb}
use Rattle.program.proofs.Tests.{and_right, is_false}
use Rattle.machine.specs.State.{has}
use Rattle.machine.specs.Inner.{FirstPromise}
use Rattle.machine.proofs.Sets.{has_positive, has_time, ones_none}

-- ---- shifts
-- what the machine computes for `1u16 << k`
pub shl_one : (k : ℕ) → k < 16 → 1 * 2 ^ k % 65536 ≡ 2 ^ k
shl_one k h = rw one-mul (mod-eq_of_lt (pow-lt h))

-- a number with digit k set is at least 2 ^ k
digit_le : (p k : ℕ) → p / 2 ^ k % 2 ≡ 1 → 2 ^ k ≤ p
digit_le p k e = go (dec_le (2 ^ k) p)
  where
    go : Dec (2 ^ k ≤ p) → 2 ^ k ≤ p
    go (yes h) = h
    go (no h) =
        let z : p / 2 ^ k ≡ 0 = div-eq_of_lt (lt_of_not-le h) in
        let o : 0 % 2 ≡ 1 = rw z at e in
        absurd (omega arith)

-- a time in a set of times up to 16
pub record Member (p t : ℕ) : Type 0 where
  pub positive : 0 < t
  pub within : t ≤ 16
  pub holds : 2 ^ (t - 1) ≤ p

pub member : (p t : ℕ) → p < 2 ^ 16 → T (has p t) → Member p t
unfolding has
member p t h k =
    record {
      positive = has_positive p t k;
      within = has_time p 16 t h k;
      holds = digit_le p (t - 1) (eqb→eq (p / 2 ^ (t - 1) % 2) 1 (and_right (ltb 0 t) (eqb (p / 2 ^ (t - 1) % 2) 1) k));
    }

-- ---- the three ways to answer whether t is in the set
module _ (p t : ℕ) where
  pub has_zero : t ≡ 0 → false ≡ has p t
  unfolding has
  has_zero e = rw e

  pub has_late : p < 2 ^ 16 → 16 < t → false ≡ has p t
  has_late h l = sym (is_false (has p t) (λ k. let q = has_time p 16 t h k in omega arith))

  pub has_digit : (t ≡ 0 → ⊥) → eqb (p / 2 ^ (t - 1) % 2) 1 ≡ has p t
  unfolding has
  has_digit n = let h : 0 < t = omega arith in rw (lt-ltb 0 t h)

-- ---- ones
no_ones : (n : ℕ) → ones n ≡ 0 → n ≡ 0
no_ones = bin_ind (λ (n : ℕ). ones n ≡ 0 → n ≡ 0) (λ e. refl) step
  where
    step : (n : ℕ) → (ones (n / 2) ≡ 0 → n / 2 ≡ 0) → ones n ≡ 0 → n ≡ 0
    step n ih e =
        let s = ones_step n in
        let z : ones (n / 2) ≡ 0 = omega arith in
        let h = ih z in
        omega arith

-- no ones: the set is empty
pub ones_eqb : (p : ℕ) → eqb (ones p) 0 ≡ eqb p 0
ones_eqb zero = rw ones_none
ones_eqb (suc p) = ne_eqb (ones (suc p)) 0 (λ e. some (no_ones (suc p) e)) ∙ sym (ne_eqb (suc p) 0 some)
  where
    some : suc p ≡ 0 → ⊥
    some e = omega arith

-- ---- trailing zeros
-- the digits of n / 2 are those of n, one further up
pub half_digit : (n j : ℕ) → n / 2 / 2 ^ j % 2 ≡ n / 2 ^ suc j % 2
half_digit n j = rw (div-div-eq-div-mul, ← pow-succ' 2 j)

pub low_digit : (n : ℕ) → n / 2 ^ 0 % 2 ≡ n % 2
low_digit n = ap (λ (x : ℕ). x % 2) (div-one n)

-- the trailing zeros of k digits count the clear digits below the lowest set one
record Lowest (k n : ℕ) : Type 0 where
  set : n / 2 ^ count_trailing_zeros k n % 2 ≡ 1
  below : count_trailing_zeros k n < k
  clear : (j : ℕ) → j < count_trailing_zeros k n → n / 2 ^ j % 2 ≡ 0

even_step : (k n : ℕ) → n % 2 ≡ 0 → Lowest k (n / 2) → Lowest (suc k) n
unfolding count_trailing_zeros
even_step k n e r = record {
  set = rw (s, ← half_digit n (count_trailing_zeros k (n / 2))) r.set;
  below = rw s (omega (arith, r.below));
  clear = λ j q. each j (subst (λ (x : ℕ). j < x) s q);
}
  where
    s : count_trailing_zeros (suc k) n ≡ suc (count_trailing_zeros k (n / 2))
    s = rw e

    each : (j : ℕ) → j < suc (count_trailing_zeros k (n / 2)) → n / 2 ^ j % 2 ≡ 0
    each zero q = low_digit n ∙ e
    each (suc j) q = sym (half_digit n j) ∙ r.clear j (omega arith)

odd_step : (k n : ℕ) → n % 2 ≡ 1 → Lowest (suc k) n
unfolding count_trailing_zeros
odd_step k n e = record {
  set = rw s (low_digit n ∙ e);
  below = rw s (omega arith);
  clear = λ j q. none j (subst (λ (x : ℕ). j < x) s q);
}
  where
    s : count_trailing_zeros (suc k) n ≡ 0
    s = rw e

    none : (j : ℕ) → j < 0 → n / 2 ^ j % 2 ≡ 0
    none j q = absurd (omega arith)

lowest : (k n : ℕ) → n < 2 ^ k → (n ≡ 0 → ⊥) → Lowest k n
lowest zero n h z = absurd (z (omega arith))
lowest (suc k) n h z = go (n % 2) refl (lowest k (n / 2))
  where
    half : n / 2 < 2 ^ k
    half = let e : 2 ^ suc k ≡ 2 * 2 ^ k = pow-succ' 2 k in omega arith

    some : n % 2 ≡ 0 → n / 2 ≡ 0 → ⊥
    some e y = z (omega arith)

    go : (d : ℕ) → n % 2 ≡ d → (n / 2 < 2 ^ k → (n / 2 ≡ 0 → ⊥) → Lowest k (n / 2)) → Lowest (suc k) n
    go zero e ih = even_step k n e (ih half (some e))
    go (suc d) e ih = odd_step k n (omega arith)

first_before : (p n : ℕ) → ((j : ℕ) → j < n → p / 2 ^ j % 2 ≡ 0) → (u : ℕ) → u < n + 1 → has p u ≡ false
unfolding has
first_before p n f zero h = refl
first_before p n f (suc u) h =
    let e : suc u - 1 ≡ u = omega arith in
    rw (lt-ltb 0 (suc u) (omega arith), e, f u (omega arith))

-- the first time of a set that is not empty
pub first_of : (p : ℕ) → p < 2 ^ 16 → (p ≡ 0 → ⊥) → FirstPromise p (count_trailing_zeros 16 p + 1)
unfolding has
first_of p h z =
    let r = lowest 16 p h z in
    let t = count_trailing_zeros 16 p in
    let g = r.below in
    let a : 0 < t + 1 = omega arith in
    let e : t + 1 - 1 ≡ t = omega arith in
    record { member = rw (lt-ltb 0 (t + 1) a, e, r.set); within = omega arith; before = first_before p t r.clear }
