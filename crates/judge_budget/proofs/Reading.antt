-- A loop over the digits of a budget, and the word `all`.
-- Assumes nothing.
use mathlib.Core.Path.{◌≡◌, refl, sym, ap, ◌∙◌}
use mathlib.Core.Bool.{Bool, true, false, cond, ◌&&◌}
use mathlib.Core.List.{List, [], ◌∷◌}
use Prim.Native.Nat.{ℕ, suc, ◌+◌, ◌-◌, ◌*◌, ◌≤◌, ◌<◌}
use native.Mathlib.Numerals.{add-one}
use native.Mathlib.Omega.{arith}
use lib.Dec.{eqb, leb}
use lib.ListN.{length, get_or, drop}
use lib.Pointwise.{pointwise}
use lib.Seq.{drop-cons, drop-length}
use borrow.Author.Tests.{le-leb, lt-leb, ne_eqb}
use Rattle.std.proofs.Common.{Option, Some, None}
use Rattle.judge_budget.specs.Digits.{digit, all_digits, decimal_from, decimal_of, is_all, budget_of}

-- what the digits bs make of a number n that is read before them
abbrev on_from : ℕ → List ℕ → Option ℕ
on_from n bs = cond (all_digits bs && leb (decimal_from n bs) 18446744073709551615) (Some (decimal_from n bs)) None

-- n is read from the first i bytes
pub record Read (text : List ℕ) (n i : ℕ) : Type 0 where
  pub within : i ≤ length text
  pub small : n ≤ 18446744073709551615
  pub rest : on_from n (drop i text) ≡ decimal_of text

pub none_read : (text : List ℕ) → length text ≡ 0 → None ≡ decimal_of text
unfolding decimal_of
none_read [] e = refl
none_read (b ∷ bs) e = absurd (let z : suc (length bs) ≡ 0 = e in omega arith)

pub read_start : (text : List ℕ) → (length text ≡ 0 → ⊥) → Read text 0 0
unfolding decimal_of all_digits decimal_from
read_start [] h = absurd (h refl)
read_start (b ∷ bs) h = record { within = omega arith; small = omega arith; rest = refl }

-- no digit makes a number smaller
grows : (n : ℕ) (bs : List ℕ) → n ≤ decimal_from n bs
unfolding decimal_from
grows n [] = omega arith
grows n (b ∷ bs) = let g = grows (10 * n + (b - 48)) bs in omega arith

and-false : (a : Bool) → (a && false) ≡ false
and-false true = refl
and-false false = refl

module _ {text : List ℕ} {n i : ℕ} (r : Read text n i) (here : i < length text) where
  next : on_from n (get_or text i 0 ∷ drop (suc i) text) ≡ decimal_of text
  next = ap (on_from n) (sym (drop-cons text i 0 here)) ∙ r.rest

  pub read_other : digit (get_or text i 0) ≡ false → None ≡ decimal_of text
  unfolding all_digits
  read_other h = (rw h) ∙ next

  pub read_large : 18446744073709551615 < 10 * n + (get_or text i 0 - 48) → None ≡ decimal_of text
  unfolding all_digits decimal_from
  read_large h =
      let m : ℕ = 10 * n + (get_or text i 0 - 48) in
      let bs : List ℕ = drop (suc i) text in
      let g = grows m bs in
      (rw (lt-leb (decimal_from m bs) 18446744073709551615 (omega arith), and-false (digit (get_or text i 0) && all_digits bs))) ∙ next

  pub read_more : digit (get_or text i 0) ≡ true → (m : ℕ) → m ≡ 10 * n + (get_or text i 0 - 48) → m ≤ 18446744073709551615 → Read text m (i + 1)
  unfolding all_digits decimal_from
  read_more h m e s =
      record {
        within = omega arith;
        small = s;
        rest = rw (add-one, e) ((rw h) ∙ next);
      }

pub read_all : {text : List ℕ} {n i : ℕ} → Read text n i → length text ≤ i → Some n ≡ decimal_of text
unfolding all_digits decimal_from
read_all {text} {n} {i} r l =
    let w = r.within in
    let z : i ≡ length text = omega arith in
    let d : drop i text ≡ [] = ap (λ (k : ℕ). drop k text) z ∙ drop-length text in
    (rw (le-leb n 18446744073709551615 r.small)) ∙ ap (on_from n) (sym d) ∙ r.rest

-- ---- the word, compared byte by byte
and-three : (x y z : Bool) → (x && (y && (z && true))) ≡ ((x && y) && z)
and-three false y z = refl
and-three true false z = refl
and-three true true false = refl
and-three true true true = refl

pub is_all_lem : (text : List ℕ) → pointwise eqb text (97 ∷ 108 ∷ 108 ∷ []) ≡ is_all text
unfolding is_all
is_all_lem [] = refl
is_all_lem (a ∷ []) = and-false (eqb a 97)
is_all_lem (a ∷ b ∷ []) = rw (and-false (eqb b 108)) (and-false (eqb a 97))
is_all_lem (a ∷ b ∷ c ∷ []) = and-three (eqb a 97) (eqb b 108) (eqb c 108)
is_all_lem (a ∷ b ∷ c ∷ d ∷ ds) =
    let long : suc (suc (suc (suc (length ds)))) ≡ 3 → ⊥ = λ e. omega arith in
    rw (ne_eqb (suc (suc (suc (suc (length ds))))) 3 long, and-false (eqb c 108), and-false (eqb b 108)) (and-false (eqb a 97))

pub by_word : (text : List ℕ) → is_all text ≡ true → Some 18446744073709551615 ≡ budget_of text
unfolding budget_of
by_word text h = rw h

pub by_digits : (text : List ℕ) → is_all text ≡ false → decimal_of text ≡ budget_of text
unfolding budget_of
by_digits text h = rw h
