-- Numbers of eight bytes: they are std's, so what is read back is the number.
-- Assumes nothing.
use mathlib.Core.Path.{◌≡◌, sym, ap, ap₂, ◌∙◌}
use mathlib.Core.List.{List, [], ◌∷◌}
use Prim.Native.Nat.{ℕ, ◌+◌, ◌*◌, ◌<◌}
use native.Mathlib.Omega.{arith}
use lib.ListN.{get_or, drop}
use lib.Seq.{get_or-drop}
use Rattle.std.proofs.Common.{rules, w64}
use Rattle.std.proofs.lemmas.Grind.{common_steps}
use Rattle.std.specs.Int.{to_le_bytes, from_le_bytes}
use Rattle.std.proofs.lemmas.Nat.{from_le_bytes-to_le_bytes_8}
use Rattle.encode_bytes.specs.Numbers.{word64}
use Rattle.encode_bytes.specs.Inner.{word32_from, word64_from}

std_bytes : (n : ℕ) → to_le_bytes w64 n ≡ word64 n
std_bytes n = search (rules, common_steps, arith)

std_number : (a b c d e f g h : ℕ) → let l : List ℕ = a ∷ b ∷ c ∷ d ∷ e ∷ f ∷ g ∷ h ∷ [] in word64_from l ≡ from_le_bytes w64 l
std_number a b c d e f g h = omega arith

pub word64_back : (n : ℕ) → n < 18446744073709551616 → word64_from (word64 n) ≡ n
word64_back n h = ap word64_from (sym (std_bytes n)) ∙ std_number _ _ _ _ _ _ _ _ ∙ from_le_bytes-to_le_bytes_8 n h

-- bytes that agree are one number
same_word32 : (a b : List ℕ) → ((i : ℕ) → i < 4 → get_or a i 0 ≡ get_or b i 0) → word32_from a ≡ word32_from b
same_word32 a b agree =
    let h = agree 0 (omega arith) in
    let i = agree 1 (omega arith) in
    let j = agree 2 (omega arith) in
    let k = agree 3 (omega arith) in
    omega arith

pub same_word64 : (a b : List ℕ) → ((i : ℕ) → i < 8 → get_or a i 0 ≡ get_or b i 0) → word64_from a ≡ word64_from b
same_word64 a b agree =
    ap₂ (λ (low high : ℕ). low + 4294967296 * high) (same_word32 a b (λ i h. agree i (omega arith)))
    (same_word32 (drop 4 a) (drop 4 b) (λ i h. get_or-drop 4 a i 0 ∙ agree (4 + i) (omega arith) ∙ sym (get_or-drop 4 b i 0)))
