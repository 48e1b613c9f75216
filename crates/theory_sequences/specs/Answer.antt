-- The answer with a budget, along a list of sequences.
-- Assumes nothing.
use Rattle.std.specs.Prelude.{Bool, true, false, List, [], ◌∷◌, ℕ, suc, ltb}

-- allowed, with the place of the sequence that does it and its steps; forbidden, with the number of all sequences; not finished, with the budget
pub data Answer (A : Type 0) : Type 0 where
  allowed : ℕ → List A → Answer A
  forbidden : ℕ → Answer A
  unfinished : ℕ → Answer A

module _ {A : Type 0} where
  -- along the list, with k sequences visited of a budget b: every sequence visited costs one
  unfoldable pub visit : (List A → Bool) → ℕ → ℕ → List (List A) → Answer A
  visit wanted b k [] = forbidden k
  visit wanted b k (q ∷ l) =
      elim (ltb k b) [
        | true ↦ elim (wanted q) [ true ↦ allowed (suc k) q | false ↦ visit wanted b (suc k) l ]
        | false ↦ unfinished b
      ]

  -- the answer with budget b
  unfoldable pub answer : (List A → Bool) → List (List A) → ℕ → Answer A
  answer wanted l b = visit wanted b 0 l
