-- Ascending lists of numbers without doubles, and promises by their number: location * 256 + value.
-- Assumes nothing.
use mathlib.Core.Path.{◌≡◌, refl, sym, subst}
use mathlib.Core.Logic.{◌⊎◌, inl, inr, ⊎_elim}
use mathlib.Core.Bool.{Bool, true, false}
use mathlib.Core.List.{List, [], ◌∷◌, map}
use Prim.Native.Nat.{ℕ, ◌/◌, ◌<◌}
use native.Mathlib.Decide.{dec_lt}
use native.Mathlib.Omega.{arith}
use lib.Dec.{ltb, eqb}
use borrow.Author.Tests.{ltb-true, ltb-false, eqb-true, eqb-false}
use Rattle.theory_sequences.specs.Sequences.{Among, Ascending}
use Rattle.theory_sequences.proofs.Ordered.{among_unmap}
use Rattle.step.specs.Step.{Step}
use Rattle.search_sequences.specs.Numbers.{key_promise}
use Rattle.step.specs.Order.{Less}

-- n in its place, unless it stands there already
unfoldable pub insert_key : ℕ → List ℕ → List ℕ
insert_key n [] = n ∷ []
insert_key n (k ∷ ks) = elim (ltb n k) [ true ↦ n ∷ k ∷ ks | false ↦ elim (eqb n k) [ true ↦ k ∷ ks | false ↦ k ∷ insert_key n ks ] ]

-- what stands there is n, or stood there
pub insert_from : (n a : ℕ) (ks : List ℕ) → Among a (insert_key n ks) → (a ≡ n) ⊎ Among a ks
unfolding insert_key
insert_from n a [] h = ⊎_elim (λ e. inl e) (λ i. absurd i) h
insert_from n a (k ∷ ks) h = go (ltb n k) (eqb n k) (λ i. insert_from n a ks i) h
  where
    go : (c d : Bool) → (Among a (insert_key n ks) → (a ≡ n) ⊎ Among a ks)
        → Among a (elim c [ true ↦ n ∷ k ∷ ks | false ↦ elim d [ true ↦ k ∷ ks | false ↦ k ∷ insert_key n ks ] ]) → (a ≡ n) ⊎ Among a (k ∷ ks)
    go true d rec (inl e) = inl e
    go true d rec (inr i) = inr i
    go false true rec i = inr i
    go false false rec (inl e) = inr (inl e)
    go false false rec (inr i) = ⊎_elim (λ e. inl e) (λ j. inr (inr j)) (rec i)

pub insert_has : (n : ℕ) (ks : List ℕ) → Among n (insert_key n ks)
unfolding insert_key
insert_has n [] = inl refl
insert_has n (k ∷ ks) = go (ltb n k) (eqb n k) refl (insert_has n ks)
  where
    go : (c d : Bool) → eqb n k ≡ d → Among n (insert_key n ks) → Among n (elim c [ true ↦ n ∷ k ∷ ks | false ↦ elim d [ true ↦ k ∷ ks | false ↦ k ∷ insert_key n ks ] ])
    go true d e rec = inl refl
    go false true e rec = inl (eqb-true n k e)
    go false false e rec = inr rec

pub insert_keeps : (n a : ℕ) (ks : List ℕ) → Among a ks → Among a (insert_key n ks)
unfolding insert_key
insert_keeps n a [] h = absurd h
insert_keeps n a (k ∷ ks) h = go (ltb n k) (eqb n k) (λ i. insert_keeps n a ks i) h
  where
    go : (c d : Bool) → (Among a ks → Among a (insert_key n ks)) → Among a (k ∷ ks) → Among a (elim c [ true ↦ n ∷ k ∷ ks | false ↦ elim d [ true ↦ k ∷ ks | false ↦ k ∷ insert_key n ks ] ])
    go true d rec i = inr i
    go false true rec i = i
    go false false rec (inl e) = inl e
    go false false rec (inr i) = inr (rec i)

pub insert_ascending : (n : ℕ) (ks : List ℕ) → Ascending ◌<◌ ks → Ascending ◌<◌ (insert_key n ks)
unfolding insert_key
insert_ascending n [] s = ((λ b i. absurd i), tt)
insert_ascending n (k ∷ ks) s = go (ltb n k) (eqb n k) refl refl (insert_ascending n ks s.1)
  where
    go : (c d : Bool) → ltb n k ≡ c → eqb n k ≡ d → Ascending ◌<◌ (insert_key n ks) → Ascending ◌<◌ (elim c [ true ↦ n ∷ k ∷ ks | false ↦ elim d [ true ↦ k ∷ ks | false ↦ k ∷ insert_key n ks ] ])
    go true d e f rec = let l = ltb-true n k e in ((λ b i. ⊎_elim (λ q. omega arith) (λ j. let r = s.0 b j in omega arith) i), s)
    go false true e f rec = s
    go false false e f rec =
        let l = ltb-false n k e in
        let x = eqb-false n k f in
        ((λ b i. ⊎_elim (λ q. omega (arith, x)) (λ j. s.0 b j) (insert_from n b ks i)), rec)

key_less : (i j k : ℕ) → j < k → Less (key_promise i j) (key_promise i k)
key_less i j k h = elim (dec_lt (j / 256) (k / 256)) [ yes l ↦ inr (refl, inr (refl, inl l)) | no l ↦ inr (refl, inr (refl, inr (omega arith, omega arith))) ]

-- promises of ascending numbers are ascending
pub keys_ascending : (i : ℕ) (ks : List ℕ) → Ascending ◌<◌ ks → Ascending Less (map (key_promise i) ks)
keys_ascending i [] s = tt
keys_ascending i (k ∷ ks) s =
    ((λ b h. let r = among_unmap (key_promise i) b ks h in subst (λ (x : Step). Less (key_promise i k) x) (sym r.1) (key_less i k r.0 (s.0 r.0 r.2))), keys_ascending i ks s.1)
