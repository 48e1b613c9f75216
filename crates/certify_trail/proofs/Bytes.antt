-- The bytes of a word: one byte is replaced, and those below it stay.
-- Assumes nothing.
use mathlib.Core.Path.{◌≡◌}
use Prim.Native.Nat.{ℕ, zero, suc, ◌+◌, ◌*◌, ◌%◌, ◌<◌}
use native.Mathlib.Omega.{arith}
use Rattle.certify_trail.specs.Trail.{byte_of}

-- the word r has b as byte j, and below it the bytes of the word w
abbrev pub Put : ℕ → ℕ → ℕ → ℕ → Type 0
Put w j b r = (byte_of r j ≡ b) × ((i : ℕ) → i < j → byte_of r i ≡ byte_of w i)

module _ (w b : ℕ) (h : b < 256) where
  -- the lowest byte
  pub put_0 : Put w 0 b b
  unfolding byte_of
  put_0 = (omega arith, λ i l. absurd (omega arith))

  -- the second one
  pub put_1 : Put w 1 b (w % 256 + 256 * b)
  unfolding byte_of
  put_1 = (omega arith, below)
    where
      below : (i : ℕ) → i < 1 → byte_of (w % 256 + 256 * b) i ≡ byte_of w i
      below zero l = omega arith
      below (suc i) l = absurd (omega arith)

  -- the third one
  pub put_2 : Put w 2 b (w % 65536 + 65536 * b)
  unfolding byte_of
  put_2 = (omega arith, below)
    where
      below : (i : ℕ) → i < 2 → byte_of (w % 65536 + 65536 * b) i ≡ byte_of w i
      below zero l = omega arith
      below (suc zero) l = omega arith
      below (suc (suc i)) l = absurd (omega arith)

  -- the highest
  pub put_3 : Put w 3 b (w % 16777216 + 16777216 * b)
  unfolding byte_of
  put_3 = (omega arith, below)
    where
      below : (i : ℕ) → i < 3 → byte_of (w % 16777216 + 16777216 * b) i ≡ byte_of w i
      below zero l = omega arith
      below (suc zero) l = omega arith
      below (suc (suc zero)) l = omega arith
      below (suc (suc (suc i))) l = absurd (omega arith)
