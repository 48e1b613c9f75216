-- The entries of a lent table of outcomes: rows of one width, each the 48 bytes of an outcome and its place, low byte first.
-- Assumes nothing.
use Rattle.std.specs.Prelude.{Bool, cond, List, ◌++◌, ℕ, ◌/◌, length}
use Rattle.theory_sequences.specs.Listing.{Entry}
use Rattle.step.specs.Order.{for_each}
use Rattle.encode_bytes.specs.Numbers.{word32, word64}

-- the bytes of a row, and those of a place: eight where rows are wide, else four
abbrev pub row_width : Bool → ℕ
row_width wide = cond wide 56 52

abbrev pub place_bytes : Bool → ℕ → List ℕ
place_bytes wide n = cond wide (word64 n) (word32 n)

-- how many rows a table has room for
abbrev pub capacity : Bool → List ℕ → ℕ
capacity wide table = length table / row_width wide

-- rows, one after the other
abbrev pub row_bytes : List (List ℕ) → List ℕ
row_bytes rows = for_each rows (λ r. r)

-- an outcome with its place, as a row
abbrev pub entry_bytes : Bool → Entry (List ℕ) → List ℕ
entry_bytes wide x = x.outcome ++ place_bytes wide x.place
