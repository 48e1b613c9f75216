-- What a result rests on: a computed value, or the way of a branch, by what the cares of the operands ask.
-- Assumes nothing.
use mathlib.Core.Path.{◌≡◌, refl, sym, ap, ap₂, subst, ◌∙◌}
use mathlib.Core.Logic.{⊎_elim}
use mathlib.Core.Bool.{Bool, true, false, cond, ◌&&◌}
use Prim.Native.Nat.{ℕ, zero, suc, ◌+◌, ◌-◌, ◌*◌, ◌/◌, ◌%◌, ◌≤◌, ◌<◌}
use native.Mathlib.Nat.{add_comm, div-add-mod'}
use native.Mathlib.Omega.{arith}
use lib.Arith.{bin_ind}
use lib.Bits.{bit_xor, differ, xor_step, xor_comm, xor_lt, xor_shr, xor_mod}
use lib.Dec.{T, eqb, eqb→eq}
use borrow.Author.Tests.{eq-eqb, ne_eqb}
use Rattle.program.proofs.Tests.{and_left, and_right}
use Rattle.program.specs.declared.Instruction.{Instruction}
use Rattle.program.specs.Program.{operand, compute_mode}
use Rattle.machine.specs.Rules.{address, value_of, combine, branch_by}
use Rattle.machine.specs.declared.Thread.{Thread}
use Rattle.program.specs.declared.ComputeMode.{ComputeMode}
use Rattle.program.specs.declared.ComputeMode.TheVariants.{Add, Subtract, ExclusiveOr, Equal}
use Rattle.certify_cares.specs.Cares.{Marked, free, other, Agrees, same, alike, first_of, second_of}
use Rattle.certify_cares.proofs.Agreeing.{same_value, not_barred, same_address, not_that, by_code}

-- ---- the address of a computed value
-- taken modulo 256, it stays
low : (n : ℕ) → n % 256 % 16 ≡ n % 16
low n = omega arith

-- of a difference, where the second operand is a byte
difference_address : (x y : ℕ) → y < 256 → address ((x + 256 - y) % 256) ≡ address (16 - y % 16 + x)
difference_address x y l = low (x + 256 - y) ∙ apart
  where
    apart : (x + 256 - y) % 16 ≡ (16 - y % 16 + x) % 16
    apart = omega arith

-- of an exclusive or
exclusive_address : (x y : ℕ) → address (bit_xor x y) ≡ bit_xor (address x) (address y)
exclusive_address x y = xor_mod x y 4

-- an exclusive or of bytes is a byte
pub exclusive_byte : (x k : ℕ) → x < 256 → bit_xor x (k % 256) < 256
exclusive_byte x k l = xor_lt 8 x (k % 256) l (omega arith)

-- ---- what is left of a computed value without one operand
-- of a sum: the other operand
left_of_sum : (x y : ℕ) → x < 256 → ((x + y) % 256 + 256 - x) % 256 ≡ y % 256
left_of_sum x y l = omega arith

-- of a difference that is not 0: the second
second_of_difference : (x y e : ℕ) → x < 256 → (e ≡ 0 → ⊥) → e ≡ (x + 256 - y) % 256 → (x + 256 - e) % 256 ≡ y % 256
second_of_difference x y e l n i = omega arith

-- and the first, where the second is a byte
first_of_difference : (x y : ℕ) → y < 256 → ((x + 256 - y) % 256 + y) % 256 ≡ x % 256
first_of_difference x y l = omega arith

-- of an exclusive or: the other operand
xor_twice : (a b : ℕ) → bit_xor a (bit_xor a b) ≡ b
xor_twice =
    bin_ind (λ (n : ℕ). (b : ℕ) → bit_xor n (bit_xor n b) ≡ b) (λ b. refl)
    (λ n ih b. xor_step n (bit_xor n b)
    ∙ ap₂ (λ (v w : ℕ). v * 2 + w) (ap (bit_xor (n / 2)) (xor_shr n b 1) ∙ ih (b / 2)) (ap (differ (n % 2)) (xor_mod n b 1) ∙ digit (n % 2) (b % 2) (omega arith) (omega arith))
    ∙ div-add-mod' b 2)
  where
    digit : (p q : ℕ) → p < 2 → q < 2 → differ p (bit_xor p q) ≡ q
    digit zero q l m = refl
    digit (suc zero) zero l m = refl
    digit (suc zero) (suc zero) l m = refl
    digit (suc zero) (suc (suc q)) l m = absurd (omega arith)
    digit (suc (suc p)) q l m = absurd (omega arith)

left_of_exclusive : (x y : ℕ) → x < 256 → bit_xor x (bit_xor x y % 256) ≡ y % 256
left_of_exclusive x y l =
    let i : x % 256 ≡ x = omega arith in
    ap (bit_xor x) (xor_mod x y 8 ∙ ap (λ (v : ℕ). bit_xor v (y % 256)) i) ∙ xor_twice x (y % 256)

-- ---- the modes by their numbers
pub is_sum : (m : ℕ) → m ≡ 0 → compute_mode m ≡ Add
unfolding compute_mode
is_sum m e = rw e

pub is_difference : (m : ℕ) → m ≡ 1 → compute_mode m ≡ Subtract
unfolding compute_mode
is_difference m e = rw e

pub is_exclusive : (m : ℕ) → m ≡ 2 → compute_mode m ≡ ExclusiveOr
unfolding compute_mode
is_exclusive m e = rw e

pub is_equal : (m : ℕ) → (m ≡ 0 → ⊥) → (m ≡ 1 → ⊥) → (m ≡ 2 → ⊥) → compute_mode m ≡ Equal
unfolding compute_mode
is_equal m d d' d'' = rw (ne_eqb m 0 d, ne_eqb m 1 d', ne_eqb m 2 d'')

-- ---- computed values
-- a result of the location to which b leads from that of an operand: the operand is of its location, or of none from which b leads into the set
led : {k w w' r r' : ℕ} → k % 65536 ≡ 0 → (b t : ℕ) → ((v : ℕ) → Marked (k / 65536) (address (b + v)) → Marked t (address v)) → Agrees (65536 * t) w w'
    → address r ≡ address (b + w) → address r' ≡ address (b + w') → Agrees k r r'
led {k} {w} {w'} {r} {r'} e b t turns q i i' = alike (free e) (λ m. i ∙ on (not_barred t q (turns w' (subst (Marked (k / 65536)) i' m))) ∙ sym i')
  where
    on : w % 16 ≡ w' % 16 → (b + w) % 16 ≡ (b + w') % 16
    on j = omega arith

module _ {x y x' y' : ℕ} where
  -- the same operands: the same result
  pub same_result : (how : ComputeMode) {k : ℕ} → Agrees 2 x x' → Agrees 2 y y' → Agrees k (combine how x y) (combine how x' y')
  same_result how p q = same (ap₂ (combine how) (same_value p) (same_value q))

  -- the same addresses: the same exclusive or as an address
  pub placed_exclusive : {k : ℕ} → k % 65536 ≡ 0 → Agrees (65536 * 65535) x x' → Agrees (65536 * 65535) y y' → Agrees k (combine ExclusiveOr x y) (combine ExclusiveOr x' y')
  unfolding combine
  placed_exclusive e p q = alike (free e) (λ m. exclusive_address x y ∙ ap₂ bit_xor (same_address p) (same_address q) ∙ sym (exclusive_address x' y'))

  module _ {k : ℕ} (e : k % 65536 ≡ 0) (t : ℕ) where
    -- so for a sum: the first operand has the same address, and leads the second
    pub placed_sum : ((v : ℕ) → Marked (k / 65536) (address (x + v)) → Marked t (address v)) → Agrees (65536 * 65535) x x' → Agrees (65536 * t) y y'
        → Agrees k (combine Add x y) (combine Add x' y')
    unfolding combine
    placed_sum turns p q = led e x t turns q (low (x + y)) (low (x' + y') ∙ apart (same_address p))
      where
        apart : x % 16 ≡ x' % 16 → (x' + y') % 16 ≡ (x + y') % 16
        apart i = omega arith

    -- for a difference: the second operand, a byte, is the same, and leads the first
    pub placed_difference : y < 256 → ((v : ℕ) → Marked (k / 65536) (address (16 - y % 16 + v)) → Marked t (address v)) → Agrees (65536 * t) x x' → Agrees 2 y y'
        → Agrees k (combine Subtract x y) (combine Subtract x' y')
    unfolding combine
    placed_difference b turns p q =
        led e (16 - y % 16) t turns p (difference_address x y b) (ap (λ (w : ℕ). address ((x' + 256 - w) % 256)) (sym (same_value q)) ∙ difference_address x' y b)

  -- the first operand is the same, and the second is not what it would be if the result were the value that the care names: the result is not that
  other_by : (how : ComputeMode) {k j : ℕ} → 256 ≤ k → k < 512 → 256 ≤ j → j < 512 → Agrees 2 x x' → Agrees j y y' → (k ≡ 256 + combine how x' y' % 256 → j ≡ 256 + y' % 256)
      → Agrees k (combine how x y) (combine how x' y')
  other_by how l g l' g' p q left = ⊎_elim (λ h. same (ap₂ (combine how) (same_value p) h)) (λ n. by_code (omega arith) (other l g (λ i. n (left i)))) (not_that l' g' q)

  -- so for a sum
  pub other_sum : {k v : ℕ} → 256 ≤ k → k < 512 → v ≡ x → v < 256 → Agrees 2 x x' → Agrees (256 + (k % 256 + 256 - v) % 256) y y' → Agrees k (combine Add x y) (combine Add x' y')
  unfolding combine
  other_sum {k} {v} l g e b p q = other_by Add l g (omega arith) (omega arith) p q left
    where
      left : k ≡ 256 + (x' + y') % 256 % 256 → 256 + (k % 256 + 256 - v) % 256 ≡ 256 + y' % 256
      left i =
          let g : v ≡ x' = e ∙ same_value p in
          let j : k % 256 ≡ (v + y') % 256 = omega arith in
          ap (λ (m : ℕ). 256 + (m + 256 - v) % 256) j ∙ ap (λ (m : ℕ). 256 + m) (left_of_sum v y' b)

  -- for a difference, where the value is not 0
  pub other_difference : {k v : ℕ} → 256 ≤ k → k < 512 → (k ≡ 256 → ⊥) → v ≡ x → v < 256 → Agrees 2 x x' → Agrees (256 + (v + 256 - k % 256) % 256) y y'
      → Agrees k (combine Subtract x y) (combine Subtract x' y')
  unfolding combine
  other_difference {k} {v} l g d e b p q = other_by Subtract l g (omega arith) (omega arith) p q left
    where
      left : k ≡ 256 + (x' + 256 - y') % 256 % 256 → 256 + (v + 256 - k % 256) % 256 ≡ 256 + y' % 256
      left i =
          let g : x' ≡ v = sym (e ∙ same_value p) in
          let i' : k ≡ 256 + (v + 256 - y') % 256 % 256 = i ∙ ap (λ (m : ℕ). 256 + (m + 256 - y') % 256 % 256) g in
          let j : k % 256 ≡ (v + 256 - y') % 256 = omega arith in
          ap (λ (m : ℕ). 256 + m) (second_of_difference v y' (k % 256) b (λ z. d (omega arith)) j)

  -- for an exclusive or
  pub other_exclusive : {k v : ℕ} → 256 ≤ k → k < 512 → v ≡ x → v < 256 → Agrees 2 x x' → Agrees (256 + bit_xor v (k % 256)) y y'
      → Agrees k (combine ExclusiveOr x y) (combine ExclusiveOr x' y')
  unfolding combine
  other_exclusive {k} {v} l g e b p q = let t = exclusive_byte v k b in other_by ExclusiveOr l g (omega arith) (omega arith) p q left
    where
      left : k ≡ 256 + bit_xor x' y' % 256 → 256 + bit_xor v (k % 256) ≡ 256 + y' % 256
      left i =
          let i' : k ≡ 256 + bit_xor v y' % 256 = i ∙ ap (λ (m : ℕ). 256 + bit_xor m y' % 256) (sym (e ∙ same_value p)) in
          let j : k % 256 ≡ bit_xor v y' % 256 = omega arith in
          ap (λ (m : ℕ). 256 + bit_xor v m) j ∙ ap (λ (m : ℕ). 256 + m) (left_of_exclusive v y' b)

  -- for a difference with the first operand and the second exchanged
  pub other_difference_first : {k w : ℕ} → 256 ≤ k → k < 512 → w ≡ y → w < 256 → Agrees (256 + (k % 256 + w) % 256) x x' → Agrees 2 y y'
      → Agrees k (combine Subtract x y) (combine Subtract x' y')
  unfolding combine
  other_difference_first {k} {w} l g e b p q = ⊎_elim (λ h. same (ap₂ (combine Subtract) h (same_value q))) (λ n. by_code (omega arith) (other l g (λ i. n (left i)))) (not_that (omega arith) (omega arith) p)
    where
      left : k ≡ 256 + (x' + 256 - y') % 256 % 256 → 256 + (k % 256 + w) % 256 ≡ 256 + x' % 256
      left i =
          let g : y' ≡ w = sym (e ∙ same_value q) in
          let i' : k ≡ 256 + (x' + 256 - w) % 256 % 256 = i ∙ ap (λ (m : ℕ). 256 + (x' + 256 - m) % 256 % 256) g in
          let j : k % 256 ≡ (x' + 256 - w) % 256 = omega arith in
          ap (λ (m : ℕ). 256 + (m + w) % 256) j ∙ ap (λ (m : ℕ). 256 + m) (first_of_difference x' w b)

-- for a sum with the first operand and the second exchanged: as an address
pub placed_sum_first : {k x y x' y' : ℕ} → k % 65536 ≡ 0 → (t : ℕ) → ((v : ℕ) → Marked (k / 65536) (address (y + v)) → Marked t (address v)) → Agrees (65536 * 65535) y y'
    → Agrees (65536 * t) x x' → Agrees k (combine Add x y) (combine Add x' y')
unfolding combine
placed_sum_first {k} {x} {y} {x'} {y'} e t turns p q = rw (add_comm x y, add_comm x' y') (placed_sum e t turns p q)

-- and that it is not a value
pub other_sum_first : {k v x y x' y' : ℕ} → 256 ≤ k → k < 512 → v ≡ y → v < 256 → Agrees 2 y y' → Agrees (256 + (k % 256 + 256 - v) % 256) x x'
    → Agrees k (combine Add x y) (combine Add x' y')
unfolding combine
other_sum_first {k} {v} {x} {y} {x'} {y'} l g e b p q = rw (add_comm x y, add_comm x' y') (other_sum l g e b p q)

-- for an exclusive or
pub other_exclusive_first : {k v x y x' y' : ℕ} → 256 ≤ k → k < 512 → v ≡ y → v < 256 → Agrees 2 y y' → Agrees (256 + bit_xor v (k % 256)) x x'
    → Agrees k (combine ExclusiveOr x y) (combine ExclusiveOr x' y')
unfolding combine
other_exclusive_first {k} {v} {x} {y} {x'} {y'} l g e b p q = rw (xor_comm x y, xor_comm x' y') (other_exclusive l g e b p q)

-- equal or not as before: the same result
pub same_equal : (x y x' y' : ℕ) {k : ℕ} → eqb x y ≡ eqb x' y' → Agrees k (combine Equal x y) (combine Equal x' y')
unfolding combine
same_equal x y x' y' e = same (ap (λ (t : Bool). cond t 1 0) e)

-- ---- whether the operands are equal
module _ {x y x' y' : ℕ} where
  -- the same operands: as before
  pub same_test : Agrees 2 x x' → Agrees 2 y y' → eqb x y ≡ eqb x' y'
  same_test p q = ap₂ eqb (same_value p) (same_value q)

  -- operands that differ differ on, where one is the same and the other is not that
  differ_on : {v : ℕ} → v ≡ x → v < 256 → (v ≡ y → ⊥) → Agrees 2 x x' → Agrees (256 + v) y y' → (x ≡ y → ⊥) × (x' ≡ y' → ⊥)
  differ_on e b d p q =
      let g = same_value p in
      (λ i. d (omega arith), ⊎_elim (λ h i. d (omega arith)) (λ o i. o (omega arith)) (not_that (omega arith) (omega arith) q))

  not_equal : (x ≡ y → ⊥) → (x' ≡ y' → ⊥) → eqb x y ≡ eqb x' y'
  not_equal d d' = ne_eqb x y d ∙ sym (ne_eqb x' y' d')

module _ {v w x y x' y' : ℕ} (e : v ≡ x) (f : w ≡ y) (d : v ≡ w → ⊥) where
  -- operands that differ: the first is the same, and the second is not that
  pub not_first : v < 256 → Agrees 2 x x' → Agrees (256 + v) y y' → eqb x y ≡ eqb x' y'
  not_first b p q = let h = differ_on e b (λ g. d (g ∙ sym f)) p q in not_equal h.0 h.1

  -- the second is the same, and the first is not that
  pub not_second : w < 256 → Agrees 2 y y' → Agrees (256 + w) x x' → eqb x y ≡ eqb x' y'
  not_second b p q = let h = differ_on f b (λ g. d (e ∙ sym g)) p q in not_equal (λ i. h.0 (sym i)) (λ i. h.1 (sym i))

-- ---- branches
-- a branch over no instruction goes one way
pub no_skip : (n : ℕ) (p q : Bool) → n ≡ 0 → branch_by p n ≡ branch_by q n
no_skip n true true e = refl
no_skip n true false e = omega arith
no_skip n false true e = omega arith
no_skip n false false e = refl

-- one that compares an operand with itself too
pub one_operand : (i : Instruction) → (eqb i.k1 i.k2 && eqb i.n1 i.n2) ≡ true → (s s' : Thread)
    → branch_by (eqb (value_of s (first_of i)) (value_of s (second_of i))) i.m ≡ branch_by (eqb (value_of s' (first_of i)) (value_of s' (second_of i))) i.m
one_operand i e s s' = ap (λ (t : Bool). branch_by t i.m) (equal s ∙ sym (equal s'))
  where
    both : T (eqb i.k1 i.k2 && eqb i.n1 i.n2)
    both = subst T (sym e) tt

    same_operand : first_of i ≡ second_of i
    same_operand = ap₂ operand (eqb→eq _ _ (and_left (eqb i.k1 i.k2) (eqb i.n1 i.n2) both)) (eqb→eq _ _ (and_right (eqb i.k1 i.k2) (eqb i.n1 i.n2) both))

    equal : (v : Thread) → eqb (value_of v (first_of i)) (value_of v (second_of i)) ≡ true
    equal v = eq-eqb _ _ (ap (value_of v) same_operand)

-- ---- what the operands hold, as a step tells it
module _ {f g x y v w v' w' : ℕ} (e : x ≡ v) (e' : y ≡ w) (p : Agrees f v v') (q : Agrees g w w') where
  pub result_told : {care k : ℕ} (how : ComputeMode) → k ≡ care → ((x' y' : ℕ) → Agrees f x x' → Agrees g y y' → Agrees k (combine how x y) (combine how x' y'))
      → Agrees care (combine how v w) (combine how v' w')
  result_told {k = k} how i shares =
      subst (λ (z : ℕ). Agrees z (combine how v w) (combine how v' w')) i
      (subst (λ (z : ℕ). Agrees k (combine how z w) (combine how v' w')) e
      (subst (λ (z : ℕ). Agrees k (combine how x z) (combine how v' w')) e'
      (shares v' w' (subst (λ (z : ℕ). Agrees f z v') (sym e) p) (subst (λ (z : ℕ). Agrees g z w') (sym e') q))))

  pub way_told : (n : ℕ) → ((x' y' : ℕ) → Agrees f x x' → Agrees g y y' → branch_by (eqb x y) n ≡ branch_by (eqb x' y') n) → branch_by (eqb v w) n ≡ branch_by (eqb v' w') n
  way_told n shares =
      subst (λ (z : ℕ). branch_by (eqb z w) n ≡ branch_by (eqb v' w') n) e
      (subst (λ (z : ℕ). branch_by (eqb x z) n ≡ branch_by (eqb v' w') n) e'
      (shares v' w' (subst (λ (z : ℕ). Agrees f z v') (sym e) p) (subst (λ (z : ℕ). Agrees g z w') (sym e') q)))
