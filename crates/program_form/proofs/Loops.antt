-- A test of all entries of an array, in order, is the test of all places below its length.
-- Assumes nothing.
use mathlib.Core.Path.{◌≡◌, refl, ap, ap₂, ◌∙◌}
use mathlib.Core.Bool.{Bool, true, false, cond, ◌&&◌, and_assoc}
use mathlib.Core.List.{List, [], ◌∷◌}
use Prim.Native.Nat.{ℕ, zero, suc, ◌+◌, ◌-◌, ◌≤◌, ◌<◌}
use native.Mathlib.Omega.{arith}
use lib.Dec.{eqb, ltb}
use lib.ListN.{length, get_or}
use borrow.Author.Tests.{lt-ltb, le-ltb}
use Rattle.std.proofs.Common.{take, drop}
use Rattle.std.proofs.lemmas.List.{get_or-take, length-take-le}
use denote.Param.Members.{Mut}
use Rattle.std.proofs.Common.{Option}
use Rattle.std.specs.Fn.{Called}
use Rattle.std.specs.Iterator.{ChecksAll}
use Rattle.std.proofs.lemmas.Iterator.{YieldsList}
use Rattle.std.proofs.lemmas.Iterator.Search.{all_from_yields_List}
use Rattle.std.specs.List.{list_all, enumerate_from, count_by}
use Rattle.std.proofs.lemmas.Bool.Decides.{nat_tests}
use Rattle.std.proofs.lemmas.List.Sums.{sum_by-cons}
use Rattle.program.specs.Tests.{below}
use Rattle.program.specs.declared.Code.{Code}
use Rattle.program.specs.declared.Instruction.{Instruction}
use Rattle.program.specs.Program.{no_instruction, instruction_at}
use Rattle.program.specs.Counts.{one_store, stores_among, stores_from}
use Rattle.program.proofs.Loops.{below_same}

and_swap : (a b c : Bool) → (a && (b && c)) ≡ (b && (a && c))
and_swap true b c = refl
and_swap false true c = refl
and_swap false false c = refl

-- the test of place 0 may stand first or last
below_first : (f : ℕ → Bool) (n : ℕ) → (f 0 && below (λ k. f (suc k)) n) ≡ below f (suc n)
unfolding below
below_first f zero = refl
below_first f (suc n) = and_swap (f 0) (f (suc n)) (below (λ k. f (suc k)) n) ∙ ap (λ b. f (suc n) && b) (below_first f n)

pub all_below : {A : Type 0} (f : A → Bool) (d : A) (xs : List A) → list_all f xs ≡ below (λ k. f (get_or xs k d)) (length xs)
unfolding below
all_below f d [] = refl
all_below f d (x ∷ xs) = ap (λ b. f x && b) (all_below f d xs) ∙ below_first (λ k. f (get_or (x ∷ xs) k d)) (length xs)

lower : (k n : ℕ) → ltb k n ≡ ltb (suc k) (suc n)
lower k n = grind (arith, nat_tests)

-- tests of the entries before n, other ones from n on
pub split_below : {A : Type 0} (f g : A → Bool) (d : A) (xs : List A) (n : ℕ)
    → (list_all f (take n xs) && list_all g (drop n xs)) ≡ below (λ k. cond (ltb k n) (f (get_or xs k d)) (g (get_or xs k d))) (length xs)
unfolding below
split_below f g d [] zero = refl
split_below f g d [] (suc n) = refl
split_below f g d (x ∷ xs) zero =
    all_below g d (x ∷ xs) ∙ below_same (λ k. g (get_or (x ∷ xs) k d)) (λ k. cond (ltb k 0) (f (get_or (x ∷ xs) k d)) (g (get_or (x ∷ xs) k d))) (λ k. rw (le-ltb k 0 (omega arith))) (length (x ∷ xs))
split_below f g d (x ∷ xs) (suc n) =
    let F = λ (k : ℕ). cond (ltb k (suc n)) (f (get_or (x ∷ xs) k d)) (g (get_or (x ∷ xs) k d)) in
    let first : f x ≡ F 0 = rw (lt-ltb 0 (suc n) (omega arith)) in
    let same : (k : ℕ) → cond (ltb k n) (f (get_or xs k d)) (g (get_or xs k d)) ≡ F (suc k) = λ k. rw (lower k n) in
    and_assoc (f x) (list_all f (take n xs)) (list_all g (drop n xs))
    ∙ ap₂ ◌&&◌ first (split_below f g d xs n ∙ below_same _ _ same (length xs))
    ∙ below_first F (length xs)

-- a test of all entries with their places
places_from : {A : Type 0} (f : ℕ → A → Bool) (d : A) (xs : List A) (n : ℕ)
    → list_all (λ p. f p.0 p.1) (enumerate_from n xs) ≡ below (λ k. f (k + n) (get_or xs k d)) (length xs)
unfolding below
places_from f d [] n = refl
places_from f d (x ∷ xs) n =
    let F = λ (k : ℕ). f (k + n) (get_or (x ∷ xs) k d) in
    let first : f n x ≡ F 0 = let e : n ≡ 0 + n = omega arith in ap (λ k. f k x) e in
    let same : (k : ℕ) → f (k + (n + 1)) (get_or xs k d) ≡ F (suc k) =
    λ k. let e : k + (n + 1) ≡ suc k + n = omega arith in ap (λ j. f j (get_or xs k d)) e
    in
    ap₂ ◌&&◌ first (places_from f d xs (n + 1) ∙ below_same _ _ same (length xs)) ∙ below_first F (length xs)

pub all_places : {A : Type 0} (f : ℕ → A → Bool) (d : A) (xs : List A)
    → list_all (λ p. f p.0 p.1) (enumerate_from 0 xs) ≡ below (λ k. f k (get_or xs k d)) (length xs)
all_places f d xs =
    places_from f d xs 0 ∙ below_same _ _ (λ k. let e : k + 0 ≡ k = omega arith in ap (λ j. f j (get_or xs k d)) e) (length xs)

-- the same of the entries before n
below_within : (f g : ℕ → Bool) (n : ℕ) → ((k : ℕ) → k < n → f k ≡ g k) → below f n ≡ below g n
unfolding below
below_within f g zero h = refl
below_within f g (suc n) h = ap₂ ◌&&◌ (h n (omega arith)) (below_within f g n (λ k l. h k (omega arith)))

pub first_places : {A : Type 0} (f : ℕ → A → Bool) (d : A) (xs : List A) (n : ℕ) → n ≤ length xs
    → list_all (λ p. f p.0 p.1) (enumerate_from 0 (take n xs)) ≡ below (λ k. f k (get_or xs k d)) n
first_places f d xs n h =
    let e : length (take n xs) ≡ n = length-take-le n xs h in
    let within : (k : ℕ) → k < n → f k (get_or (take n xs) k d) ≡ f k (get_or xs k d) = λ k l. ap (f k) (get_or-take n xs k d l) in
    rw e at (all_places f d (take n xs)) ∙ below_within _ _ n within

-- the stores among the first n of the instructions xs, which are those of c from place k on
module _ (c : Code) where
  none_left : (k n : ℕ) → ((j : ℕ) → instruction_at c (k + j) ≡ no_instruction) → 0 ≡ stores_among c k n
  unfolding stores_among one_store
  none_left k zero h = refl
  none_left k (suc n) h =
      let e : k + 0 ≡ k = omega arith in
      let first : instruction_at c k ≡ no_instruction = rw e at (h 0) in
      let next : (j : ℕ) → instruction_at c (suc k + j) ≡ no_instruction = λ j. let s : suc k + j ≡ k + suc j = omega arith in rw s (h (suc j)) in
      let rest = none_left (suc k) n next in
      rw first (omega arith)

  stores_left : (k n : ℕ) (xs : List Instruction) → ((j : ℕ) → instruction_at c (k + j) ≡ get_or xs j no_instruction)
      → count_by (λ i. eqb i.op 2) (take n xs) ≡ stores_among c k n
  unfolding stores_among one_store
  stores_left k zero [] h = refl
  stores_left k zero (x ∷ xs) h = refl
  stores_left k (suc n) [] h = none_left k (suc n) h
  stores_left k (suc n) (x ∷ xs) h =
      let e : k + 0 ≡ k = omega arith in
      let first : instruction_at c k ≡ x = rw e at (h 0) in
      let next : (j : ℕ) → instruction_at c (suc k + j) ≡ get_or xs j no_instruction = λ j. let s : suc k + j ≡ k + suc j = omega arith in rw s (h (suc j)) in
      rw first (sum_by-cons _ x (take n xs) ∙ ap (λ m. cond (eqb x.op 2) 1 0 + m) (stores_left (suc k) n xs next))

  pub stores_counted : count_by (λ i. eqb i.op 2) (take c.count c.instructions) ≡ stores_from c 0
  unfolding stores_from
  stores_counted =
      let all : c.count - 0 ≡ c.count = omega arith in
      rw all (stores_left 0 c.count c.instructions (λ j. let e : 0 + j ≡ j = omega arith in rw e))

-- what `all` answers over such a chain
module _ {S A B F : Type 0} {steps : S → Option A → S → Type 0} {g : Mut F (A × Unit {0}) Bool} {s : S} {n : ℕ} (u : S) (f : F) (r : Bool) where
  pub entries_pass : {v : A → B} (test : B → Bool) (d : B) (xs : List B) → ChecksAll steps g s f r u → YieldsList steps v s xs
      → ((x : A) (b : Bool) (q : F) → Called g f (x, tt) b q → (q ≡ f) × (b ≡ test (v x))) → length xs ≡ n → r ≡ below (λ k. test (get_or xs k d)) n
  entries_pass test d xs ran yields says full = rw full at (all_from_yields_List test u f r ran yields says ∙ all_below test d xs)

  pub places_pass : {v : A → ℕ × B} (test : ℕ → B → Bool) (d : B) (xs : List B) → ChecksAll steps g s f r u → YieldsList steps v s (enumerate_from 0 xs)
      → ((x : A) (b : Bool) (q : F) → Called g f (x, tt) b q → (q ≡ f) × (b ≡ test (v x).0 (v x).1)) → length xs ≡ n → r ≡ below (λ k. test k (get_or xs k d)) n
  places_pass test d xs ran yields says full = rw full at (all_from_yields_List (λ p. test p.0 p.1) u f r ran yields says ∙ all_places test d xs)
