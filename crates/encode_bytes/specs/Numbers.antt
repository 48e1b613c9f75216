-- Numbers of more than one byte: the low byte first.
-- Assumes nothing.
use Rattle.std.specs.Prelude.{List, [], ◌∷◌, ◌++◌, ℕ, ◌+◌, ◌*◌, ◌/◌, ◌%◌, get_or}

-- a number of two bytes
abbrev pub word16 : ℕ → List ℕ
word16 n = n % 256 ∷ n / 256 ∷ []

abbrev pub word16_from : List ℕ → ℕ
word16_from b = get_or b 0 0 + 256 * get_or b 1 0

-- the low 32 bits of a number
abbrev pub word32 : ℕ → List ℕ
word32 n = n % 256 ∷ n / 256 % 256 ∷ n / 65536 % 256 ∷ n / 16777216 % 256 ∷ []

-- the low 64 bits of a number
abbrev pub word64 : ℕ → List ℕ
word64 n = word32 n ++ word32 (n / 4294967296)
