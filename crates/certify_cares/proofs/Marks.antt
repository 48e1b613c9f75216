-- Sets of locations in a word of 16 bits: all of them, two sets together, and a set turned.
-- Assumes nothing.
use mathlib.Core.Path.{◌≡◌, sym, ap, ◌∙◌, subst}
use Prim.Native.Nat.{ℕ, suc, max, ◌+◌, ◌-◌, ◌*◌, ◌/◌, ◌%◌, ◌^◌, ◌<◌}
use native.Mathlib.Nat.{pow-suc, div_self}
use native.Mathlib.Decide.{dec_lt}
use native.Mathlib.Omega.{arith}
use lib.Bits.{bit_or, or_shr, or_step}
use lib.Pow.{pow_pos, high, field, mod-mod-pow, shl-shr, shr-shr, ones_lt, ones_split}
use Rattle.certify_cares.specs.Cares.{Marked}

-- ---- all locations
-- the lowest of the digits that are all set
ones_odd : (j : ℕ) → (2 ^ suc j - 1) % 2 ≡ 1
ones_odd j = let e = pow-suc 2 j in let p = pow_pos j in omega arith

-- every location is in the set of all
pub all_marked : (l : ℕ) → l < 16 → Marked 65535 l
all_marked l h =
    let j = 15 - l in
    let e : 16 ≡ suc j + l = omega arith in
    ap (λ (k : ℕ). (2 ^ k - 1) / 2 ^ l % 2) e
    ∙ ap (λ (n : ℕ). n / 2 ^ l % 2) (ones_split (suc j) l)
    ∙ ap (λ (n : ℕ). n % 2) (high (2 ^ suc j - 1) l (ones_lt l))
    ∙ ones_odd j

-- ---- two sets together
-- the lowest digit of both together
or_odd : (a b : ℕ) → bit_or a b % 2 ≡ max (a % 2) (b % 2)
or_odd a b = let e = or_step a b in omega arith

-- the digits of both together
or_digit : (p q l : ℕ) → bit_or p q / 2 ^ l % 2 ≡ max (p / 2 ^ l % 2) (q / 2 ^ l % 2)
or_digit p q l = ap (λ (n : ℕ). n % 2) (or_shr p q l) ∙ or_odd (p / 2 ^ l) (q / 2 ^ l)

-- what is in one of two sets is in both together
pub marked_left : (p q l : ℕ) → Marked p l → Marked (bit_or p q) l
marked_left p q l h = let e = or_digit p q l in omega arith

pub marked_right : (p q l : ℕ) → Marked q l → Marked (bit_or p q) l
marked_right p q l h = let e = or_digit p q l in omega arith

-- location l alone
pub one_marked : (l : ℕ) → Marked (2 ^ l) l
one_marked l = rw (div_self (pow_pos l))

-- ---- a set turned
-- digit e of the k low digits
low_digit : (n k e : ℕ) → e < k → n % 2 ^ k / 2 ^ e % 2 ≡ n / 2 ^ e % 2
low_digit n k e h =
    let j = k - e - 1 in
    let s : k ≡ j + 1 + e = omega arith in
    ap (λ (x : ℕ). n % 2 ^ x / 2 ^ e % 2) s ∙ ap (λ (x : ℕ). x % 2) (field n (j + 1) e) ∙ mod-mod-pow (n / 2 ^ e) j 1

-- what goes down
down : (p n e : ℕ) → Marked p (n + e) → Marked (p / 2 ^ n) e
down p n e m = ap (λ (x : ℕ). x % 2) (shr-shr p n e) ∙ m

-- what goes up, within the word
up : (p k d : ℕ) → k + d < 16 → Marked p d → Marked (p * 2 ^ k % 65536) (k + d)
up p k d h m =
    low_digit (p * 2 ^ k) 16 (k + d) h ∙ sym (ap (λ (x : ℕ). x % 2) (shr-shr (p * 2 ^ k) k d))
    ∙ ap (λ (x : ℕ). x / 2 ^ d % 2) (shl-shr p k)
    ∙ m

-- by location e of the turned set
turned_at : (p n e : ℕ) → n < 16 → e < 16 → Marked p ((n + e) % 16) → Marked (bit_or (p / 2 ^ n) (p * 2 ^ ((16 - n) % 16) % 65536)) e
turned_at p n e h l m = elim (dec_lt (n + e) 16) [
  | yes a ↦
      let i : (n + e) % 16 ≡ n + e = omega arith in
      marked_left (p / 2 ^ n) (p * 2 ^ ((16 - n) % 16) % 65536) e (down p n e (subst (λ (x : ℕ). Marked p x) i m))
  | no a ↦
      let k = (16 - n) % 16 in
      let d = n + e - 16 in
      let i : (n + e) % 16 ≡ d = omega arith in
      let o : k + d ≡ e = omega arith in
      let b : k + d < 16 = omega arith in
      marked_right (p / 2 ^ n) (p * 2 ^ k % 65536) e
      (subst (λ (x : ℕ). Marked (p * 2 ^ k % 65536) x) o (up p k d b (subst (λ (x : ℕ). Marked p x) i m)))
]

-- the law of `turned`
pub turned_marked : (p n y : ℕ) → n < 16 → Marked p ((n + y) % 16) → Marked (bit_or (p / 2 ^ n) (p * 2 ^ ((16 - n) % 16) % 65536)) (y % 16)
turned_marked p n y h m =
    let e : (n + y) % 16 ≡ (n + y % 16) % 16 = omega arith in
    let l : y % 16 < 16 = omega arith in
    turned_at p n (y % 16) h l (subst (λ (x : ℕ). Marked p x) e m)
