-- Where a line and a row stand in the input.
-- Assumes nothing.
use Rattle.std.specs.Prelude.{◌≡◌, ◌<◌, List, ◌++◌, ℕ, length}

-- line stands at the front of the input, and others, which are fewer, at its end
abbrev pub IsLine : List ℕ → List ℕ → List ℕ → Type 0
IsLine input line others = (length others < length input) × ((cut : List ℕ) × (input ≡ line ++ (cut ++ others)))

-- behind some lines that are no rows, name and says stand one after the other, and others, which are fewer than the input, at its end
abbrev pub IsRow : List ℕ → List ℕ → List ℕ → List ℕ → Type 0
IsRow input name says others = (length others < length input) × ((before : List ℕ) × ((cut : List ℕ) × (input ≡ before ++ ((name ++ says) ++ (cut ++ others)))))
