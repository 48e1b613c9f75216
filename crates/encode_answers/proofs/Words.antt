-- Numbers of four bytes: what is read back of places, steps and indices is their low 32 bits.
-- Assumes nothing.
use mathlib.Core.Path.{◌≡◌}
use Prim.Native.Nat.{ℕ, ◌+◌, ◌*◌, ◌/◌, ◌%◌}
use native.Mathlib.Omega.{arith}
use Rattle.encode_bytes.specs.Numbers.{word32}
use Rattle.encode_bytes.specs.Inner.{word32_from}

two : (n : ℕ) → n % 65536 ≡ n % 256 + 256 * (n / 256 % 256)
two n = omega arith

four : (n : ℕ) → n % 4294967296 ≡ n % 65536 + 65536 * (n / 65536 % 65536)
four n = omega arith

high : (n : ℕ) → n / 16777216 ≡ n / 65536 / 256
high n = omega arith

pub word32_back : (n : ℕ) → word32_from (word32 n) ≡ n % 4294967296
word32_back n =
    let a = two n in
    let b = two (n / 65536) in
    let c = four n in
    rw (high n) (go (n % 256) (n / 256 % 256) (n / 65536 % 256) (n / 65536 / 256 % 256) (n % 65536) (n / 65536 % 65536) (n % 4294967296) a b c)
  where
    go : (x y z u p q m : ℕ) → p ≡ x + 256 * y → q ≡ z + 256 * u → m ≡ p + 65536 * q → x + 256 * y + 65536 * z + 16777216 * u ≡ m
    go x y z u p q m a b c = omega arith
