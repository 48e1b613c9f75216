-- Sets of times: the times of the messages to a location, those up to a time, and the newest.
-- Assumes nothing.
use mathlib.Core.Path.{◌≡◌, refl, sym, ap, subst, ◌∙◌}
use mathlib.Core.Bool.{Bool, true, false, ◌&&◌}
use Prim.Native.Nat.{ℕ, zero, suc, ◌+◌, ◌-◌, ◌*◌, ◌/◌, ◌%◌, ◌^◌, ◌≤◌, ◌<◌}
use native.Mathlib.Nat.{mod-eq_of_lt, mod-lt, pow-succ'}
use native.Mathlib.Decide.{dec_lt}
use native.Mathlib.Omega.{arith}
use lib.Arith.{digits_div}
use lib.Count.{count_leading_zeros, leading_length}
use lib.Dec.{eqb, leb}
use lib.Pow.{pow_pos, pow_mono, field, mod-mod-pow}
use mir.Val.{bool_byte}
use borrow.Author.Tests.{lt-ltb, le-leb, lt-leb}
use Rattle.program.proofs.Tests.{is_false}
use Rattle.machine.specs.State.{Memory, message_at, has}
use Rattle.machine.specs.Inner.{stands, TimesAt, up_to, NewestTime}
use Rattle.machine.proofs.Sets.{has_none, has_time}
use Rattle.machine.proofs.Words.{half_digit, low_digit, has_zero}

-- time u + 1 is in the set if digit u is 1
has_suc : (p u : ℕ) → has p (suc u) ≡ eqb (p / 2 ^ u % 2) 1
unfolding has
has_suc p u = let e : suc u - 1 ≡ u = omega arith in rw (lt-ltb 0 (suc u) (omega arith), e)

-- ---- messages to a location
-- the set has the messages to l after time t, each time moved down by t
pub record Gathered (m : Memory) (l t r : ℕ) : Type 0 where
  pub within : t ≤ m.count
  pub small : r < 2 ^ (m.count - t)
  pub each : (u : ℕ) → has r (suc u) ≡ stands m l (suc u + t)

byte_small : (b : Bool) → bool_byte b < 2
byte_small true = omega arith
byte_small false = omega arith

byte_one : (b : Bool) → eqb (bool_byte b) 1 ≡ b
byte_one true = refl
byte_one false = refl

-- moved up by one, with b as the new time 1
has_moved : (r b u : ℕ) → b < 2 → has (r * 2 + b) (suc (suc u)) ≡ has r (suc u)
has_moved r b u h =
    let e : (r * 2 + b) / 2 ≡ r = omega arith in
    has_suc (r * 2 + b) (suc u) ∙ rw (← half_digit (r * 2 + b) u, e, has_suc r u)

has_new : (r b : ℕ) → b < 2 → has (r * 2 + b) 1 ≡ eqb b 1
has_new r b h =
    let e : (r * 2 + b) % 2 ≡ b = omega arith in
    has_suc (r * 2 + b) 0 ∙ rw (low_digit (r * 2 + b), e)

module _ (m : Memory) (l : ℕ) where
  stands_not : (t : ℕ) → m.count < t → stands m l t ≡ false
  unfolding stands
  stands_not t h = rw (lt-ltb 0 t (omega arith), lt-leb t m.count h)

  stands_at : (t : ℕ) → 0 < t → t ≤ m.count → stands m l t ≡ eqb (message_at m t).location l
  unfolding stands
  stands_at t p h = rw (lt-ltb 0 t p, le-leb t m.count h)

  pub gathered_none : Gathered m l m.count 0
  gathered_none = record {
    within = omega arith;
    small = let e : m.count - m.count ≡ 0 = omega arith in rw e (omega arith);
    each = λ u. is_false (has 0 (suc u)) (has_none 0 (suc u) refl) ∙ sym (stands_not (suc u + m.count) (omega arith));
  }

  pub gathered_step : (t r : ℕ) → 0 < t → Gathered m l t r → Gathered m l (t - 1) (r * 2 + bool_byte (eqb (message_at m t).location l))
  gathered_step t r p o = record { within = omega (arith, o.within); small = small; each = each }
    where
      to_l : Bool
      to_l = eqb (message_at m t).location l

      small : r * 2 + bool_byte to_l < 2 ^ (m.count - (t - 1))
      small =
          let e : m.count - (t - 1) ≡ suc (m.count - t) = omega (arith, o.within) in
          let a = o.small in
          let b = byte_small to_l in
          rw (e, pow-succ' 2 (m.count - t)) (omega arith)

      each : (u : ℕ) → has (r * 2 + bool_byte to_l) (suc u) ≡ stands m l (suc u + (t - 1))
      each zero =
          let e : t ≡ 1 + (t - 1) = omega arith in
          has_new r (bool_byte to_l) (byte_small to_l) ∙ byte_one to_l ∙ sym (stands_at t p o.within) ∙ ap (stands m l) e
      each (suc u) =
          let e : suc u + t ≡ suc (suc u) + (t - 1) = omega arith in
          has_moved r (bool_byte to_l) u (byte_small to_l) ∙ o.each u ∙ ap (stands m l) e

  -- there is room for one time more
  pub gathered_room : (t r : ℕ) → m.count ≤ 16 → 0 < t → Gathered m l t r → (r * 2 + 1 < 2 ^ 16) × (bool_byte (eqb (message_at m t).location l) < 2)
  gathered_room t r h p o =
      let a = o.small in
      let e = pow_mono {i = m.count - t} {j = 15} (omega arith) in
      (omega arith, byte_small (eqb (message_at m t).location l))

  pub gathered_all : (t r : ℕ) → t ≤ 0 → Gathered m l t r → TimesAt m l r
  unfolding has stands
  gathered_all t r z o zero = refl
  gathered_all t r z o (suc u) = let e : suc u + t ≡ suc u = omega arith in o.each u ∙ ap (stands m l) e

-- ---- the times up to v
-- all of them, if v is 16 or more
pub up_to_all : (p v : ℕ) → p < 2 ^ 16 → 16 ≤ v → p ≡ up_to p v
unfolding up_to
up_to_all p v h k = let b = pow_mono {i = 16} {j = v} k in sym (mod-eq_of_lt (omega arith))

and_no : (b : Bool) → (b && false) ≡ false
and_no true = refl
and_no false = refl

and_yes : (b : Bool) → (b && true) ≡ b
and_yes true = refl
and_yes false = refl

module _ (p v : ℕ) where
  up_to_small : up_to p v < 2 ^ v
  unfolding up_to
  up_to_small = mod-lt p (pow_pos v)

  has_up_to_early : (t : ℕ) → t ≤ v → has (up_to p v) t ≡ has p t
  unfolding up_to
  has_up_to_early zero h = sym (has_zero (p % 2 ^ v) zero refl) ∙ has_zero p zero refl
  has_up_to_early (suc u) h =
      let e : v ≡ v - suc u + 1 + u = omega arith in
      has_suc (p % 2 ^ v) u
      ∙ ap (λ (k : ℕ). eqb (p % 2 ^ k / 2 ^ u % 2) 1) e
      ∙ ap (λ (k : ℕ). eqb (k % 2) 1) (field p (v - suc u + 1) u)
      ∙ ap (λ (k : ℕ). eqb k 1) (mod-mod-pow (p / 2 ^ u) (v - suc u) 1)
      ∙ sym (has_suc p u)

  -- a time is in it if it is in the set and not after v
  pub has_up_to : (t : ℕ) → has (up_to p v) t ≡ (has p t && leb t v)
  has_up_to t =
      elim (dec_lt v t) [
        | yes h ↦ is_false (has (up_to p v) t) (λ k. let q = has_time (up_to p v) v t up_to_small k in omega arith) ∙ sym (rw (lt-leb t v h) (and_no (has p t)))
        | no h ↦ has_up_to_early t (omega arith) ∙ sym (rw (le-leb t v (omega arith)) (and_yes (has p t)))
      ]

-- ---- the newest time
top_digit : (p t : ℕ) → 0 < t → p < 2 ^ t → 2 ^ t ≤ 2 * p + 1 → has p t ≡ true
top_digit p zero z a b = absurd (omega arith)
top_digit p (suc j) z a b =
    let e : 2 ^ suc j ≡ 2 * 2 ^ j = pow-succ' 2 j in
    let n : p ≡ 1 * 2 ^ j + (p - 2 ^ j) = omega arith in
    let low : p - 2 ^ j < 2 ^ j = omega arith in
    let d : p / 2 ^ j ≡ 1 = ap (λ (k : ℕ). k / 2 ^ j) n ∙ digits_div 1 low in
    has_suc p j ∙ rw d

-- it is the number of the set's digits
pub newest_of : (p : ℕ) → p < 2 ^ 16 → NewestTime p (16 - count_leading_zeros 16 p)
newest_of p h =
    let d = leading_length 16 p h in
    let n = d.0 in
    let e : n ≡ 16 - count_leading_zeros 16 p = omega (arith, d.1) in
    subst (NewestTime p) e
    (record {
      within = omega (arith, d.1);
      member = λ z. top_digit p n z d.2 d.3;
      after = λ u l. is_false (has p u) (λ k. let q = has_time p n u d.2 k in omega arith);
    })
