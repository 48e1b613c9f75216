-- Arrays as lists: their length, and that within it the value past the end does not matter.
-- Assumes nothing.
use mathlib.Core.Path.{◌≡◌, refl, sym, ◌∙◌}
use mathlib.Core.List.{List, [], ◌∷◌, map}
use Prim.Native.Nat.{ℕ, zero, suc, ◌<◌}
use native.Mathlib.Nat.{not-suc-le-zero, le_of_suc-le-suc}
use lib.ListN.{length, get_or, length-map}

-- an array of structs in a struct: its length is known of a map over the list
pub length_mapped : (X Y : Type 0) (f : X → Y) (l : List X) (n : ℕ) → length (map f l) ≡ n → length l ≡ n
length_mapped X Y f l n e = sym (length-map l f) ∙ e

-- whatever stands for the entries past the end
pub get_d_any : {A : Type 0} (d e : A) (xs : List A) (i : ℕ) → i < length xs → get_or xs i d ≡ get_or xs i e
get_d_any d e [] i h = absurd (not-suc-le-zero h)
get_d_any d e (x ∷ xs) zero h = refl
get_d_any d e (x ∷ xs) (suc i) h = get_d_any d e xs i (le_of_suc-le-suc h)
