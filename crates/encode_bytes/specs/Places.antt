-- Bytes replaced at a place.
-- Assumes nothing.
use Rattle.std.specs.Prelude.{List, ◌++◌, ℕ, ◌+◌, length, take, drop}

-- a, with the bytes from place i on replaced by bs; everything else stays
unfoldable pub put : ℕ → List ℕ → List ℕ → List ℕ
put i bs a = take i a ++ (bs ++ drop (i + length bs) a)
