-- The 48 bytes at a place beside a key: what std's tests of slices say of them.
-- Assumes nothing.
use mathlib.Core.Path.{◌≡◌, refl, sym, ap, ◌∙◌}
use mathlib.Core.Bool.{Bool, true≢false}
use mathlib.Core.List.{List}
use Prim.Native.Nat.{ℕ, ◌+◌, ◌-◌}
use native.Mathlib.Omega.{arith}
use lib.Dec.{eqb}
use lib.ListN.{take, drop}
use lib.Pointwise.{pointwise}
use Rattle.std.specs.List.{between}
use Rattle.std.proofs.Common.{Ordering}
use Rattle.std.specs.Ordering.{nat_cmp, is_lt}
use Rattle.std.specs.Cmp.Lexicographic.{slice_cmp}
use Rattle.std.proofs.lemmas.Bool.Decides.{Decides-eqb, nat_tests}
use Rattle.std.proofs.lemmas.Cmp.{same_from_slice_cmp}
use Rattle.std.proofs.lemmas.Slice.Eq.{slice_eq-Decides}
use Rattle.step.specs.Outcome.{smaller}
use Rattle.search_outcomes.specs.Inner.{key_at, SameKey}

-- the order of outcomes is that of slices
slices_order : (xs ys : List ℕ) (r : Ordering) → r ≡ slice_cmp nat_cmp xs ys → is_lt r ≡ smaller xs ys
unfolding smaller
slices_order = same_from_slice_cmp nat_cmp is_lt smaller refl (λ y ys. refl) (λ x xs. refl) (λ x y xs ys o h. grind (arith, nat_tests))

module _ (at : ℕ) (area key : List ℕ) where
  part_is : between at (at + 48) area ≡ key_at at area
  unfolding key_at
  part_is = let n : at + 48 - at ≡ 48 = omega arith in ap (λ (k : ℕ). take k (drop at area)) n

  pub key_smaller : (r : Ordering) → r ≡ slice_cmp nat_cmp (between at (at + 48) area) key → is_lt r ≡ smaller (key_at at area) key
  key_smaller r e = slices_order (between at (at + 48) area) key r e ∙ ap (λ (x : List ℕ). smaller x key) part_is

  pub key_same : (r : Bool) → r ≡ pointwise eqb (between at (at + 48) area) key → SameKey at area key r
  key_same r e =
      let d = slice_eq-Decides Decides-eqb (between at (at + 48) area) key r e in
      record { same = λ t. sym part_is ∙ d.0 t; other = λ f s. true≢false (sym (d.1 (part_is ∙ s)) ∙ f) }
