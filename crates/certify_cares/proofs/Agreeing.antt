-- What cares ask: a care of two values, two cares joined, the cares of all registers, and what is asked when the care for one register is replaced.
-- Assumes nothing.
use mathlib.Core.Path.{◌≡◌, refl, sym, ap, subst, ◌∙◌}
use mathlib.Core.Logic.{◌⊎◌, inl, inr, ⊎_elim, ⊎_map}
use mathlib.Core.Bool.{true, ◌||◌}
use mathlib.Core.List.{List, [], ◌∷◌}
use Prim.Native.Nat.{ℕ, zero, suc, ◌+◌, ◌*◌, ◌/◌, ◌%◌, ◌^◌, ◌≤◌, ◌<◌}
use native.Mathlib.Nat.{zero-div}
use native.Mathlib.Decide.{ℕ_discrete, dec_lt}
use native.Mathlib.Omega.{arith}
use lib.Bits.{bit_or, or_self, or_zero_r, or_shr, or_mod}
use lib.Dec.{T, eqb, eqb→eq}
use lib.ListN.{length, get_or, set, get_or-eq_default}
use lib.Seq.{get_or-set_same, get_or-set_other}
use borrow.Author.Tests.{ne_eqb}
use Rattle.program.specs.declared.Operand.TheVariants.{OfRegister}
use Rattle.program.specs.Program.{operand}
use Rattle.machine.specs.Rules.{address, value_of}
use Rattle.machine.specs.declared.Thread.{Thread}
use Rattle.program.proofs.Arrays.{get_d_any}
use Rattle.program.proofs.Tests.{or_cases}
use Rattle.certify_cares.specs.Cares.{Marked, Coded, free, other, above, below, Agrees, same, alike, care_of, held, Agreeing, AgreeingBut, Covers}
use Rattle.certify_cares.proofs.Marks.{all_marked, marked_left, marked_right}

-- ---- one care
-- no location is in the set 0
none_marked : (l : ℕ) → Marked 0 l → ⊥
none_marked l b = let z = zero-div (2 ^ l) in omega arith

-- the code 2 allows no other value
no_other : {k y : ℕ} → k ≡ 2 → Coded k y → ⊥
no_other i (free e) = omega arith
no_other i (other l h n) = omega arith
no_other i (above l h n) = omega arith
no_other i (below l) = omega arith

module _ {x y : ℕ} where
  -- a care with the code 2 asks for the value
  pub value_asked : {k : ℕ} → k % 65536 ≡ 2 → Agrees k x y → x ≡ y
  value_asked i (same e) = e
  value_asked i (alike c m) = absurd (no_other i c)

  -- so care 2
  pub same_value : Agrees 2 x y → x ≡ y
  same_value a = value_asked refl a

  -- any care asks that the location is none of its set, or the same
  pub location_asked : {k : ℕ} → Agrees k x y → Marked (k / 65536) (address y) → address x ≡ address y
  location_asked (same e) b = ap address e
  location_asked (alike c m) b = m b

  -- so one that has no code
  pub not_barred : (set : ℕ) → Agrees (65536 * set) x y → Marked set (address y) → address x ≡ address y
  not_barred set a b = let i : set ≡ 65536 * set / 65536 = omega arith in location_asked a (subst (λ (p : ℕ). Marked p (address y)) i b)

  -- with all locations it asks for the address
  pub same_address : Agrees (65536 * 65535) x y → address x ≡ address y
  same_address a = not_barred 65535 a (all_marked (address y) (omega arith))

  -- a care from 256 on and below 512 asks that the other value is the same or not the one it names
  pub not_that : {k : ℕ} → 256 ≤ k → k < 512 → Agrees k x y → (x ≡ y) ⊎ (k ≡ 256 + y % 256 → ⊥)
  not_that l g (same e) = inl e
  not_that l g (alike (free e) m) = absurd (omega arith)
  not_that l g (alike (other l' h n) m) = inr (λ e. n (omega arith))
  not_that l g (alike (above l' h n) m) = absurd (omega arith)
  not_that l g (alike (below n) m) = absurd (omega arith)

  -- from 512 on and below 768, that it is the same or not less
  pub not_less : {k : ℕ} → 512 ≤ k → k < 768 → Agrees k x y → (x ≡ y) ⊎ (k ≤ 512 + y)
  not_less l g (same e) = inl e
  not_less l g (alike (free e) m) = absurd (omega arith)
  not_less l g (alike (other l' h n) m) = absurd (omega arith)
  not_less l g (alike (above l' h n) m) = inr (omega arith)
  not_less l g (alike (below n) m) = absurd (omega arith)

  -- from 768 on and below 65536, that it is the same or less
  pub less : {k : ℕ} → 768 ≤ k → k < 65536 → Agrees k x y → (x ≡ y) ⊎ (768 + y < k)
  less l g (same e) = inl e
  less l g (alike (free e) m) = absurd (omega arith)
  less l g (alike (other l' h n) m) = absurd (omega arith)
  less l g (alike (above l' h n) m) = absurd (omega arith)
  less l g (alike (below n) m) = inr (omega arith)

  -- a care below 65536 has no set: its code is all that it asks
  pub by_code : {k : ℕ} → k < 65536 → Coded k y → Agrees k x y
  by_code {k} l c =
      let i : k ≡ k % 65536 = omega arith in
      let j : k / 65536 ≡ 0 = omega arith in
      alike (subst (λ (n : ℕ). Coded n y) i c) (λ b. absurd (none_marked (address y) (subst (λ (p : ℕ). Marked p (address y)) j b)))

  -- care 0 asks nothing
  pub nothing_asked : {k : ℕ} → k ≡ 0 → Agrees k x y
  nothing_asked e = by_code (omega arith) (free e)

-- ---- two cares, joined
-- a care asks no more than another that has its locations, and its code if it has one
asks_less : {j k x y : ℕ} → (k % 65536 ≡ j % 65536) ⊎ (k % 65536 ≡ 0) → ((l : ℕ) → Marked (k / 65536) l → Marked (j / 65536) l) → Agrees j x y → Agrees k x y
asks_less h g (same e) = same e
asks_less {y = y} h g (alike c m) = alike (⊎_elim (λ e. subst (λ (n : ℕ). Coded n y) (sym e) c) free h) (λ b. m (g (address y) b))

-- the codes are the same, or one of them is 0
alike_codes : (a b : ℕ) → (eqb a b || eqb a 0 || eqb b 0) ≡ true → ((a ≡ b) ⊎ (a ≡ 0)) ⊎ (b ≡ 0)
alike_codes a b t =
    ⊎_map (λ u. ⊎_map (eqb→eq a b) (eqb→eq a 0) (or_cases (eqb a b) (eqb a 0) u)) (eqb→eq b 0) (or_cases (eqb a b || eqb a 0) (eqb b 0) (subst T (sym t) tt))

-- then each is what both make or 0
each_code : {c : ℕ} (a b : ℕ) → c ≡ bit_or a b → ((a ≡ b) ⊎ (a ≡ 0)) ⊎ (b ≡ 0) → ((a ≡ c) ⊎ (a ≡ 0)) × ((b ≡ c) ⊎ (b ≡ 0))
each_code a b i (inl (inl e)) = (inl (sym (i ∙ ap (bit_or a) (sym e) ∙ or_self a)), inl (sym (i ∙ ap (λ (v : ℕ). bit_or v b) e ∙ or_self b)))
each_code a b i (inl (inr e)) = (inr e, inl (sym (i ∙ ap (λ (v : ℕ). bit_or v b) e)))
each_code a b i (inr e) = (inl (sym (i ∙ ap (bit_or a) e ∙ or_zero_r a)), inr e)

-- so what two cares make asks what each asks
pub both_asked : (k l : ℕ) → (eqb (k % 65536) (l % 65536) || eqb (k % 65536) 0 || eqb (l % 65536) 0) ≡ true
    → (x y : ℕ) → Agrees (bit_or k l) x y → Agrees k x y × Agrees l x y
both_asked k l t x y a =
    let codes = each_code (k % 65536) (l % 65536) (or_mod k l 16) (alike_codes (k % 65536) (l % 65536) t) in (
      asks_less codes.0 (λ i m. wider i (marked_left (k / 65536) (l / 65536) i m)) a,
      asks_less codes.1 (λ i m. wider i (marked_right (k / 65536) (l / 65536) i m)) a,
    )
  where
    wider : (i : ℕ) → Marked (bit_or (k / 65536) (l / 65536)) i → Marked (bit_or k l / 65536) i
    wider i m = subst (λ (p : ℕ). Marked p i) (sym (or_shr k l 16)) m

-- ---- the cares of all registers
-- a care that asks more is put in: no register's care asks less than before
asks_no_less : (cares : List ℕ) (n k : ℕ) → ((x y : ℕ) → Agrees k x y → Agrees (care_of cares n) x y)
    → (j x y : ℕ) → Agrees (care_of (set cares n k) j) x y → Agrees (care_of cares j) x y
asks_no_less [] n k h j x y a = a
asks_no_less (l ∷ ls) zero k h zero x y a = h x y a
asks_no_less (l ∷ ls) zero k h (suc j) x y a = a
asks_no_less (l ∷ ls) (suc n) k h zero x y a = a
asks_no_less (l ∷ ls) (suc n) k h (suc j) x y a = asks_no_less ls n k h j x y a

module _ (cares : List ℕ) (n : ℕ) where
  -- register n is written: its care does not count
  pub forgotten : (k : ℕ) (s s' : Thread) → Agreeing (set cares n k) s s' → AgreeingBut cares n s s'
  forgotten k s s' h j o = subst (λ (l : ℕ). Agrees l (held s j) (held s' j)) (get_or-set_other cares n j k 2 o) (h j)

  -- past the eight registers the value is asked for
  pub asked_past : length cares ≤ n → {x y : ℕ} → Agrees (care_of cares n) x y → x ≡ y
  asked_past l {x} {y} a = same_value (subst (λ (k : ℕ). Agrees k x y) (get_or-eq_default cares 2 {n = n} l) a)

  module _ (l : n < length cares) (care k : ℕ) (joins : (x y : ℕ) → Agrees k x y → Agrees (get_or cares n 0) x y × Agrees care x y) where
    -- the care for register n is joined with another: each register's care asks what it asked
    keeps : (j x y : ℕ) → Agrees (care_of (set cares n k) j) x y → Agrees (care_of cares j) x y
    keeps = asks_no_less cares n k (λ x y a. subst (λ (i : ℕ). Agrees i x y) (get_d_any 0 2 cares n l) (joins x y a).0)

    -- and that for register n what the other asks
    adds : (x y : ℕ) → Agrees (care_of (set cares n k) n) x y → Agrees care x y
    adds x y a = (joins x y (subst (λ (i : ℕ). Agrees i x y) (get_or-set_same cares n k 2 l) a)).1

    -- so threads that agree by the new cares agree by the old, and in register n by the other
    pub noted : (s s' : Thread) → Agreeing (set cares n k) s s' → Agreeing cares s s' × Agrees care (held s n) (held s' n)
    noted s s' h = (λ j. keeps j _ _ (h j), adds _ _ (h n))

-- ---- operands as their two bytes
module _ (cares : List ℕ) (k n care : ℕ) where
  -- a constant is the same in all threads
  pub noted_constant : k ≡ 0 → (s s' : Thread) → Agreeing cares s s' → Agreeing cares s s' × Agrees care (value_of s (operand k n)) (value_of s' (operand k n))
  unfolding operand
  noted_constant e s s' a = rw e (a, same refl)

  module _ (d : k ≡ 0 → ⊥) where
    is_register_lem : operand k n ≡ OfRegister n
    unfolding operand
    is_register_lem = rw (ne_eqb k 0 d)

    -- past the eight registers the value is asked for already
    pub noted_past : length cares ≤ n → (s s' : Thread) → Agreeing cares s s' → Agreeing cares s s' × Agrees care (value_of s (operand k n)) (value_of s' (operand k n))
    noted_past l s s' a = rw is_register_lem (a, same (asked_past cares n l (a n)))

    -- a register's care is joined with the care
    pub noted_register : n < length cares → (j : ℕ) → ((x y : ℕ) → Agrees j x y → Agrees (get_or cares n 0) x y × Agrees care x y)
        → (s s' : Thread) → Agreeing (set cares n j) s s' → Agreeing cares s s' × Agrees care (value_of s (operand k n)) (value_of s' (operand k n))
    noted_register l j joins s s' a = rw is_register_lem (noted cares n l care j joins s s' a)

-- ---- two lists of cares, joined register by register
-- what is asked is what the first list asks and, below register n, what the second asks
abbrev pub Joined : List ℕ → List ℕ → List ℕ → ℕ → Type 0
Joined one two cares n = (j x y : ℕ) → Agrees (care_of cares j) x y → Agrees (care_of one j) x y × (j < n → Agrees (care_of two j) x y)

module _ (one two cares : List ℕ) (n : ℕ) (h : Joined one two cares n) where
  -- one register more
  pub joined_more : (k : ℕ) → n < length cares → n < length two → ((x y : ℕ) → Agrees k x y → Agrees (get_or cares n 0) x y × Agrees (get_or two n 0) x y)
      → Joined one two (set cares n k) (n + 1)
  joined_more k l l' joins j x y a = (before.0, go (ℕ_discrete j n))
    where
      before : Agrees (care_of one j) x y × (j < n → Agrees (care_of two j) x y)
      before = h j x y (keeps cares n l (get_or two n 0) k joins j x y a)

      go : Dec (j ≡ n) → j < n + 1 → Agrees (care_of two j) x y
      go (yes e) m =
          subst (λ (i : ℕ). Agrees i x y) (get_d_any 0 2 two n l' ∙ ap (care_of two) (sym e)) (adds cares n l (get_or two n 0) k joins x y (subst (λ (i : ℕ). Agrees (care_of (set cares n k) i) x y) e a))
      go (no e) m = before.1 (omega arith)

  -- all registers
  pub joined_all : length cares ≤ n → Covers cares one × Covers cares two
  joined_all l = (record { agreeing = λ s s' a j. (h j _ _ (a j)).0 }, record { agreeing = λ s s' a j. go j _ _ (a j) (dec_lt j n) })
    where
      go : (j x y : ℕ) → Agrees (care_of cares j) x y → Dec (j < n) → Agrees (care_of two j) x y
      go j x y a (yes m) = (h j x y a).1 m
      go j x y a (no m) = same (asked_past cares j (omega arith) a)
