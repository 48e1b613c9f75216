-- The rows of lent bytes: how wide they are, what stands in each, and all of them together.
-- Assumes nothing.
use mathlib.Core.Path.{◌≡◌, refl, sym, ap, ap₂, ◌∙◌}
use mathlib.Core.Bool.{Bool, true, false}
use mathlib.Core.Logic.{inl, inr}
use mathlib.Core.List.{List, [], ◌∷◌, ◌++◌, append_assoc}
use Prim.Native.Nat.{ℕ, zero, suc, ◌+◌, ◌-◌, ◌*◌, ◌≤◌, ◌<◌}
use native.Mathlib.Nat.{mul-zero, mul-suc}
use native.Mathlib.Omega.{arith}
use lib.ListN.{length, get_or, take, drop, length-append, length-drop}
use lib.Seq.{drop-drop, take-add, take_at, drop_at, take-take, length-take-le}
use Rattle.theory_sequences.specs.Sequences.{Among, Ascending}
use Rattle.theory_sequences.proofs.Ordered.{among_at}
use Rattle.step.specs.Order.{for_each}
use Rattle.encode_bytes.specs.Lists.{entries}
use Rattle.search_outcomes.specs.Table.{row_width, row_bytes, place_bytes}
use Rattle.search_outcomes.specs.Inner.{key_at}

-- ---- widths
pub width_least : (wide : Bool) → 52 ≤ row_width wide
width_least true = omega arith
width_least false = omega arith

pub row_length : (wide : Bool) (o : List ℕ) (place : ℕ) → length o ≡ 48 → length (o ++ place_bytes wide place) ≡ row_width wide
row_length true o place e = length-append o (place_bytes true place) ∙ omega arith
row_length false o place e = length-append o (place_bytes false place) ∙ omega arith

-- ---- the outcome of a row
pub new_key : (o p : List ℕ) → length o ≡ 48 → take 48 (o ++ p) ≡ o
new_key o p e = take_at o p 48 e

pub row_key : (w at : ℕ) (area : List ℕ) → 48 ≤ w → take 48 (take w (drop at area)) ≡ key_at at area
unfolding key_at
row_key w at area h = take-take 48 w (drop at area) h

-- ---- places of an ascending list
pub ascending_at : {A : Type 0} (R : A → A → Type 0) (l : List A) (d : A) → Ascending R l → (i j : ℕ) → i < j → j < length l → R (get_or l i d) (get_or l j d)
ascending_at R [] d s i j h k = absurd (omega arith)
ascending_at R (a ∷ l) d s i zero h k = absurd (omega arith)
ascending_at R (a ∷ l) d s zero (suc j) h k = s.0 (get_or l j d) (among_at l j d (omega arith))
ascending_at R (a ∷ l) d s (suc i) (suc j) h k = ascending_at R l d s.1 i j (omega arith) (omega arith)

-- ---- rows of w bytes
pub bytes_append : (a b : List (List ℕ)) → row_bytes (a ++ b) ≡ row_bytes a ++ row_bytes b
unfolding for_each
bytes_append [] b = refl
bytes_append (r ∷ a) b = ap (λ (x : List ℕ). r ++ x) (bytes_append a b) ∙ sym (append_assoc r (row_bytes a) (row_bytes b))

pub bytes_cons : (r : List ℕ) (b : List (List ℕ)) → row_bytes (r ∷ b) ≡ r ++ row_bytes b
unfolding for_each
bytes_cons r b = refl

-- each of the rows has w bytes
abbrev pub Each : ℕ → List (List ℕ) → Type 0
Each w rows = (r : List ℕ) → Among r rows → length r ≡ w

pub bytes_length : (w : ℕ) (rows : List (List ℕ)) → Each w rows → length (row_bytes rows) ≡ w * length rows
unfolding for_each
bytes_length w [] e = sym (mul-zero w)
bytes_length w (r ∷ rows) e =
    length-append r (row_bytes rows) ∙ omega (arith, e r (inl refl), bytes_length w rows (λ x i. e x (inr i)), mul-suc w (length rows))

module _ (w : ℕ) where
  abbrev pub rows_at : ℕ → List ℕ → List (List ℕ)
  rows_at n area = entries (take w) w n area

  drop_row : (k : ℕ) (area : List ℕ) → drop (w * k) (drop w area) ≡ drop (w * suc k) area
  drop_row k area = let e : w + w * k ≡ w * suc k = omega (arith, mul-suc w k) in drop-drop (w * k) w area ∙ ap (λ (j : ℕ). drop j area) e

  pub row_at : (n : ℕ) (area : List ℕ) (i : ℕ) (d : List ℕ) → i < n → get_or (rows_at n area) i d ≡ take w (drop (w * i) area)
  unfolding entries
  row_at zero area i d h = absurd (omega arith)
  row_at (suc n) area zero d h = ap (λ (j : ℕ). take w (drop j area)) (sym (mul-zero w))
  row_at (suc n) area (suc i) d h = row_at n (drop w area) i d (omega arith) ∙ ap (take w) (drop_row i area)

  pub rows_take : (k n : ℕ) (area : List ℕ) → k ≤ n → take k (rows_at n area) ≡ rows_at k area
  unfolding entries
  rows_take zero n area h = refl
  rows_take (suc k) zero area h = absurd (omega arith)
  rows_take (suc k) (suc n) area h = ap (λ (x : List (List ℕ)). take w area ∷ x) (rows_take k n (drop w area) (omega arith))

  pub rows_drop : (k n : ℕ) (area : List ℕ) → k ≤ n → drop k (rows_at n area) ≡ rows_at (n - k) (drop (w * k) area)
  unfolding entries
  rows_drop zero n area h = let e : n ≡ n - 0 = omega arith in ap₂ (λ (m j : ℕ). rows_at m (drop j area)) e (sym (mul-zero w))
  rows_drop (suc k) zero area h = absurd (omega arith)
  rows_drop (suc k) (suc n) area h =
      let e : n - k ≡ suc n - suc k = omega arith in
      rows_drop k n (drop w area) (omega arith) ∙ ap₂ (λ (m : ℕ) (x : List ℕ). rows_at m x) e (drop_row k area)

  pub rows_bytes : (n : ℕ) (area : List ℕ) → row_bytes (rows_at n area) ≡ take (w * n) area
  unfolding entries for_each
  rows_bytes zero area = ap (λ (j : ℕ). take j area) (sym (mul-zero w))
  rows_bytes (suc n) area =
      let e : w + w * n ≡ w * suc n = omega (arith, mul-suc w n) in
      ap (λ (x : List ℕ). take w area ++ x) (rows_bytes n (drop w area)) ∙ sym (take-add w (w * n) area) ∙ ap (λ (j : ℕ). take j area) e

  pub rows_wide : (n : ℕ) (area : List ℕ) → w * n ≤ length area → Each w (rows_at n area)
  unfolding entries
  rows_wide zero area h r i = absurd i
  rows_wide (suc n) area h r (inl e) = ap length e ∙ length-take-le w area (omega (arith, mul-suc w n))
  rows_wide (suc n) area h r (inr i) = rows_wide n (drop w area) (rw (length-drop w area) (omega (arith, mul-suc w n))) r i

  -- rows that are written are read again
  pub rows_again : (rows : List (List ℕ)) (rest : List ℕ) → Each w rows → rows_at (length rows) (row_bytes rows ++ rest) ≡ rows
  unfolding entries for_each
  rows_again [] rest e = refl
  rows_again (r ∷ rows) rest e =
      let more : List ℕ = row_bytes rows ++ rest in
      let l : length r ≡ w = e r (inl refl) in
      ap (λ (x : List ℕ). take w x ∷ rows_at (length rows) (drop w x)) (append_assoc r (row_bytes rows) rest)
      ∙ ap₂ (λ (x y : List ℕ). x ∷ rows_at (length rows) y) (take_at r more w l) (drop_at r more w l)
      ∙ ap (λ (x : List (List ℕ)). r ∷ x) (rows_again rows rest (λ x i. e x (inr i)))
