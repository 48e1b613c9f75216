-- Tests joined: all of a list, all below a number.
-- Assumes nothing.
use Rattle.std.specs.Prelude.{Bool, true, ◌&&◌, List, [], ◌∷◌, ℕ, zero, suc, ◌+◌}

-- all tests of the list pass
unfoldable pub all_of : List Bool → Bool
all_of [] = true
all_of (b ∷ bs) = let rest = all_of bs in b && rest

-- the test passes for each number below n
unfoldable pub below : (ℕ → Bool) → ℕ → Bool
below f zero = true
below f (suc n) = let rest = below f n in f n && rest

-- f of each number below n, added up
unfoldable pub sum_below : (ℕ → ℕ) → ℕ → ℕ
sum_below f zero = 0
sum_below f (suc n) = sum_below f n + f n
