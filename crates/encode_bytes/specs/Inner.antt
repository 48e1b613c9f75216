-- What the functions on bytes promise each other: numbers read back.
-- Assumes nothing.
use Rattle.std.specs.Prelude.{List, ℕ, ◌+◌, ◌*◌, ◌<◌, get_or, drop}

-- every element is a byte
abbrev pub AllBytes : List ℕ → Type 0
AllBytes b = (k : ℕ) → get_or b k 0 < 256

-- a number of four bytes, and of eight
abbrev pub word32_from : List ℕ → ℕ
word32_from b = get_or b 0 0 + 256 * get_or b 1 0 + 65536 * get_or b 2 0 + 16777216 * get_or b 3 0

abbrev pub word64_from : List ℕ → ℕ
word64_from b = word32_from b + 4294967296 * word32_from (drop 4 b)
