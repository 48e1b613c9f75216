-- The order of outcomes, byte by byte, is a total order; rows are ordered by their outcomes.
-- Assumes nothing.
use mathlib.Core.Path.{◌≡◌, refl, sym, ap₂, ◌∙◌}
use mathlib.Core.Bool.{Bool, true, false, true≢false}
use mathlib.Core.List.{List, [], ◌∷◌}
use Prim.Native.Nat.{ℕ, ◌<◌}
use native.Mathlib.Decide.{dec_lt}
use native.Mathlib.Omega.{arith}
use lib.ListN.{take}
use borrow.Author.Tests.{lt-ltb, le-ltb}
use Rattle.theory_sequences.proofs.Entered.{WeakOrder}
use Rattle.step.specs.Outcome.{smaller}
use Rattle.search_outcomes.specs.Table.{row_smaller}

-- ---- two numbers, of which one is smaller or which are equal
data Stand (a b : ℕ) : Type 0 where
  less : a < b → Stand a b
  more : b < a → Stand a b
  equal : a ≡ b → Stand a b

stand : (a b : ℕ) → Stand a b
stand a b = elim (dec_lt a b) [ yes h ↦ less h | no h ↦ elim (dec_lt b a) [ yes l ↦ more l | no l ↦ equal (omega arith) ] ]

-- ---- lists by their first bytes
pub smaller_less : (a b : ℕ) (x y : List ℕ) → a < b → smaller (a ∷ x) (b ∷ y) ≡ true
unfolding smaller
smaller_less a b x y h = rw (lt-ltb a b h, smaller)

pub smaller_more : (a b : ℕ) (x y : List ℕ) → b < a → smaller (a ∷ x) (b ∷ y) ≡ false
unfolding smaller
smaller_more a b x y h = rw (le-ltb a b (omega arith), lt-ltb b a h, smaller)

pub smaller_equal : (a b : ℕ) (x y : List ℕ) → a ≡ b → smaller (a ∷ x) (b ∷ y) ≡ smaller x y
unfolding smaller
smaller_equal a b x y h = rw (le-ltb a b (omega arith), smaller) (rw (le-ltb b a (omega arith)))

never : {t : Bool} → t ≡ true → t ≡ false → ⊥
never p q = true≢false (sym p ∙ q)

-- ---- of two at most one is smaller
pub smaller_asym : (x y : List ℕ) → smaller x y ≡ true → smaller y x ≡ false
unfolding smaller
smaller_asym [] [] h = refl
smaller_asym [] (b ∷ y) h = refl
smaller_asym (a ∷ x) [] h = absurd (never h refl)
smaller_asym (a ∷ x) (b ∷ y) h = go (stand a b) (λ e. smaller_asym x y e)
  where
    go : Stand a b → (smaller x y ≡ true → smaller y x ≡ false) → smaller (b ∷ y) (a ∷ x) ≡ false
    go (less l) rec = smaller_more b a y x l
    go (more l) rec = absurd (never h (smaller_more a b x y l))
    go (equal e) rec = smaller_equal b a y x (sym e) ∙ rec (sym (smaller_equal a b x y e) ∙ h)

-- ---- one that is not smaller than d is larger than all that are
pub smaller_cut : (a c d : List ℕ) → smaller c d ≡ true → smaller a d ≡ false → smaller c a ≡ true
unfolding smaller
smaller_cut a c [] h k = absurd (never h refl)
smaller_cut [] c (e ∷ d) h k = absurd (never refl k)
smaller_cut (f ∷ a) [] (e ∷ d) h k = refl
smaller_cut (f ∷ a) (g ∷ c) (e ∷ d) h k = go (stand g e) (stand f e) (λ p q. smaller_cut a c d p q)
  where
    go : Stand g e → Stand f e → (smaller c d ≡ true → smaller a d ≡ false → smaller c a ≡ true) → smaller (g ∷ c) (f ∷ a) ≡ true
    go (more l) o rec = absurd (never h (smaller_more g e c d l))
    go (less l) (less m) rec = absurd (never (smaller_less f e a d m) k)
    go (less l) (more m) rec = smaller_less g f c a (omega arith)
    go (less l) (equal m) rec = smaller_less g f c a (omega arith)
    go (equal l) (less m) rec = absurd (never (smaller_less f e a d m) k)
    go (equal l) (more m) rec = smaller_less g f c a (omega arith)
    go (equal l) (equal m) rec = smaller_equal g f c a (l ∙ sym m) ∙ rec (sym (smaller_equal g e c d l) ∙ h) (sym (smaller_equal f e a d m) ∙ k)

-- ---- two of which neither is smaller are equal
pub smaller_same : (x y : List ℕ) → smaller x y ≡ false → smaller y x ≡ false → x ≡ y
unfolding smaller
smaller_same [] [] h k = refl
smaller_same [] (b ∷ y) h k = absurd (never refl h)
smaller_same (a ∷ x) [] h k = absurd (never refl k)
smaller_same (a ∷ x) (b ∷ y) h k = go (stand a b) (λ p q. smaller_same x y p q)
  where
    go : Stand a b → (smaller x y ≡ false → smaller y x ≡ false → x ≡ y) → a ∷ x ≡ b ∷ y
    go (less l) rec = absurd (never (smaller_less a b x y l) h)
    go (more l) rec = absurd (never (smaller_less b a y x l) k)
    go (equal e) rec = ap₂ (λ (u : ℕ) (v : List ℕ). u ∷ v) e (rec (sym (smaller_equal a b x y e) ∙ h) (sym (smaller_equal b a y x (sym e)) ∙ k))

pub smaller_irreflexive : (x : List ℕ) → smaller x x ≡ false
smaller_irreflexive x = go (smaller x x) refl
  where
    go : (t : Bool) → smaller x x ≡ t → t ≡ false
    go true e = sym e ∙ smaller_asym x x e
    go false e = refl

pub smaller_order : WeakOrder smaller
smaller_order = record { asym = smaller_asym; cut = smaller_cut }

pub row_order : WeakOrder row_smaller
row_order = record { asym = λ a c. smaller_asym (take 48 a) (take 48 c); cut = λ a c d. smaller_cut (take 48 a) (take 48 c) (take 48 d) }
