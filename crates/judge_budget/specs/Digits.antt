-- A budget as an argument: decimal digits, up to 18,446,744,073,709,551,615, or the word `all` for that.
-- Assumes nothing.
use Rattle.std.specs.Prelude.{Bool, true, false, cond, ◌&&◌, List, [], ◌∷◌, ℕ, ◌+◌, ◌-◌, ◌*◌, eqb, leb, length, get_or, Option, Some, None}

-- the largest budget, of 64 bits
abbrev pub largest : ℕ
largest = 18446744073709551615

-- 0 to 9 in ASCII
abbrev pub digit : ℕ → Bool
digit b = leb 48 b && leb b 57

-- every byte is one
unfoldable pub all_digits : List ℕ → Bool
all_digits [] = true
all_digits (b ∷ bs) = digit b && all_digits bs

-- the number of the digits n and, after it, of the digits bs
unfoldable pub decimal_from : ℕ → List ℕ → ℕ
decimal_from n [] = n
decimal_from n (b ∷ bs) = decimal_from (10 * n + (b - 48)) bs

-- there is a digit
abbrev pub some : List ℕ → Bool
some [] = false
some (b ∷ bs) = true

-- digits and nothing else, at least one, of a number up to the largest
unfoldable pub decimal_of : List ℕ → Option ℕ
decimal_of text = cond (some text && (all_digits text && leb (decimal_from 0 text) largest)) (Some (decimal_from 0 text)) None

-- the word `all` in ASCII
unfoldable pub is_all : List ℕ → Bool
is_all text = cond (eqb (length text) 3) ((eqb (get_or text 0 0) 97 && eqb (get_or text 1 0) 108) && eqb (get_or text 2 0) 108) false

-- A BUDGET: `all` is the largest
unfoldable pub budget_of : List ℕ → Option ℕ
budget_of text = cond (is_all text) (Some largest) (decimal_of text)
