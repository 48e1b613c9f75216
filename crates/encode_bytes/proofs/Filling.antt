-- An array whose entries are read from bytes, one call for each index.
-- Assumes nothing.
use denote.Param.Members.{Mut, Called}
use mathlib.Core.Path.{◌≡◌, sym, ap, ap₂, subst, ◌∙◌}
use mathlib.Core.List.{List, ◌∷◌}
use Prim.Native.Nat.{ℕ, zero, suc, ◌+◌, ◌*◌}
use native.Mathlib.Nat.{mul-zero, mul-suc}
use native.Mathlib.Omega.{arith}
use lib.ListN.{length, drop, drop_of_length-le}
use lib.Seq.{drop-cons, drop-drop}
use Rattle.std.specs.Array.{IsFromFnResult, IsFromFnResultFrom}
use Rattle.encode_bytes.specs.Lists.{entries}

-- each call reads the entry at its index, and leaves the closure as it is
module _ {F A : Type 0} {g : Mut F (ℕ × Unit {0}) A} {f : F} (value : List ℕ → A) (w at : ℕ) (b : List ℕ) (reads : (i : ℕ) (y : A) (q : F) → Called g f (i, tt) y q → (y ≡ value (drop (at + w * i) b)) × (q ≡ f)) where
  from_index : (n i : ℕ) (ys : List A) → length ys ≡ i + n → IsFromFnResultFrom g f ys i n → drop i ys ≡ entries value w n (drop (at + w * i) b)
  unfolding entries
  from_index zero i ys l h = drop_of_length-le ys {i = i} (omega arith)
  from_index (suc n) i ys l (q, y, e, c, rest) =
      let s = reads i y q c in
      let next : suc i ≡ i + 1 = omega arith in
      let place : at + w * i + w ≡ at + w * (i + 1) = omega (arith, ap (λ (k : ℕ). w * k) next, mul-suc w i) in
      let more = from_index n (i + 1) ys (omega arith) (subst (λ (p : F). IsFromFnResultFrom g p ys (i + 1) n) s.1 rest) in
      drop-cons ys i y (omega arith)
      ∙ ap₂ (λ (x : A) (xs : List A). x ∷ xs) (e.0 ∙ s.0) (ap (λ (k : ℕ). drop k ys) next ∙ more ∙ ap (entries value w n) (ap (λ (k : ℕ). drop k b) (sym place) ∙ sym (drop-drop w (at + w * i) b)))

  pub each_read : (n : ℕ) (ys : List A) → IsFromFnResult g f ys n → ys ≡ entries value w n (drop at b)
  each_read n ys h =
      let z : at + w * 0 ≡ at = omega (arith, mul-zero w) in
      from_index n 0 ys (let l = h.long in omega arith) h.each ∙ ap (λ (k : ℕ). entries value w n (drop k b)) z
