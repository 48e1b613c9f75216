-- What `note` does beside what is to be noted: the place of the outcome among the rows decides.
-- Assumes nothing.
use mathlib.Core.Path.{◌≡◌, refl, sym, ap, ap₂, subst, ◌∙◌}
use mathlib.Core.Bool.{Bool, true, false}
use mathlib.Core.List.{List, [], ◌∷◌, ◌++◌}
use Prim.Native.Nat.{ℕ, suc, ◌+◌, ◌-◌, ◌*◌, ◌/◌, ◌≤◌, ◌<◌}
use native.Mathlib.Decide.{dec_lt}
use native.Mathlib.Nat.{mul-sub, mul-suc, mul-le-mul_left, div-le_self}
use native.Mathlib.Omega.{arith}
use lib.ListN.{length, get_or, take, drop, length-append, length-drop}
use lib.Seq.{length-take-le}
use Rattle.theory_sequences.proofs.Entered.{entered_at, entered_there}
use Rattle.step.specs.Outcome.{smaller}
use Rattle.encode_bytes.specs.Places.{put}
use Rattle.search_outcomes.specs.Table.{row_width, capacity, rows_of, row_smaller, row_bytes, place_bytes, Notes, met_of, with_met, noted, Orderly}
use Rattle.search_outcomes.specs.Inner.{key_at, SameKey, Rising, Smaller}
use Rattle.search_outcomes.proofs.Order.{smaller_same, smaller_irreflexive, smaller_asym}
use Rattle.search_outcomes.proofs.Halving.{row_within}
use Rattle.search_outcomes.proofs.Writing.{put_earlier, put_from_start}
use Rattle.search_outcomes.proofs.Rows.{width_least, row_length, new_key, row_key, ascending_at, bytes_append, bytes_cons, row_at, rows_take, rows_drop, rows_bytes}
use Rattle.search_outcomes.proofs.Cases.{capacity_room, new_row, old_rows, new_rows, old_length, noted_over, noted_in, noted_there}

-- ---- the outcome of row i
module _ (wide : Bool) (n : Notes) (i : ℕ) (h : i < met_of n) where
  old_key : (d : List ℕ) → take 48 (get_or (old_rows wide n) i d) ≡ key_at (row_width wide * i) n.0
  unfolding rows_of
  old_key d =
      let l = width_least wide in
      ap (take 48) (row_at (row_width wide) (met_of n) n.0 i d h) ∙ row_key (row_width wide) (row_width wide * i) n.0 (omega arith)

-- ---- rows in order, by their places
pub orderly_rising : (wide : Bool) (n : Notes) → Orderly wide n → met_of n ≤ capacity wide n.0 → Rising (row_width wide) (met_of n) n.0
orderly_rising wide n o h =
    record {
      whole = let l = width_least wide in omega arith;
      room = capacity_room wide (met_of n) n.0 h;
      ascending =
          λ i j l m.
          ap₂ smaller (sym (old_key wide n i (omega arith) [])) (sym (old_key wide n j m []))
          ∙ ascending_at (λ (x y : List ℕ). row_smaller x y ≡ true) (old_rows wide n) [] (o.rising h) i j l (let e = old_length wide n in omega arith);
    }

-- ---- what is known once the place k of the outcome is found
pub record Found (wide : Bool) (o : List ℕ) (n : Notes) (k : ℕ) : Type 0 where
  pub room : met_of n ≤ capacity wide n.0
  pub full : length o ≡ 48
  pub place : Smaller (row_width wide) (met_of n) n.0 o k

-- the same, where width and outcome are known by equations
pub found : (wide : Bool) (n : Notes) (o key : List ℕ) (w k : ℕ) → w ≡ row_width wide → key ≡ o → length o ≡ 48 → met_of n ≤ length n.0 / w → Smaller w (met_of n) n.0 key k → Found wide o n k
found wide n o key w k e q full h s =
    record {
      room = subst (λ (v : ℕ). met_of n ≤ length n.0 / v) e h;
      full = full;
      place = subst (λ (x : List ℕ). Smaller (row_width wide) (met_of n) n.0 x k) q (subst (λ (v : ℕ). Smaller v (met_of n) n.0 key k) e s);
    }

-- the row at the place has the outcome, or has not
module _ {o key area : List ℕ} {w v : ℕ} (k : ℕ) {r : Bool} (e : w ≡ v) (q : key ≡ o) (s : SameKey (w * k) area key r) where
  pub same_there : r ≡ true → key_at (v * k) area ≡ o
  same_there t = sym (ap (λ (u : ℕ). key_at (u * k) area) e) ∙ s.same t ∙ q

  pub other_there : r ≡ false → key_at (v * k) area ≡ o → ⊥
  other_there t h = s.other t (ap (λ (u : ℕ). key_at (u * k) area) e ∙ h ∙ sym q)

module _ {wide : Bool} {o : List ℕ} {n : Notes} {k : ℕ} (f : Found wide o n k) where
  pub found_before : row_width wide * k ≤ row_width wide * met_of n
  found_before = mul-le-mul_left (row_width wide) f.place.within

  pub found_old : row_width wide * met_of n ≤ length n.0
  found_old = capacity_room wide (met_of n) n.0 f.room

  pub found_few : met_of n ≤ length n.0
  found_few = let r = f.room in let l = div-le_self (length n.0) (row_width wide) in omega arith

  -- a row among those that are there
  pub found_key : k < met_of n → row_width wide * k + 48 ≤ length n.0
  found_key h = let a = row_within (row_width wide) (met_of n) k h in let b = found_old in let l = width_least wide in omega arith

  found_below : (met_of n ≡ capacity wide n.0 → ⊥) → met_of n < capacity wide n.0
  found_below e = let r = f.room in elim (dec_lt (met_of n) (capacity wide n.0)) [ yes y ↦ y | no y ↦ absurd (e (omega arith)) ]

  pub found_room : (met_of n ≡ capacity wide n.0 → ⊥) → row_width wide * met_of n + row_width wide ≤ length n.0
  found_room e = let s = mul-suc (row_width wide) (met_of n) in let l = capacity_room wide (suc (met_of n)) n.0 (found_below e) in omega arith

module _ {wide : Bool} {o : List ℕ} {n : Notes} {k : ℕ} (f : Found wide o n k) (rest : ℕ) where
  first : (j : ℕ) (d : List ℕ) → j < k → row_smaller (get_or (old_rows wide n) j d) (new_row wide o rest n) ≡ true
  first j d h =
      let l = f.place.within in
      ap₂ smaller (old_key wide n j (omega arith) d) (new_key o (place_bytes wide (n.1.budget - rest)) f.full) ∙ f.place.before j h

  module _ (h : k < met_of n) where
    here : (d : List ℕ) → row_smaller (get_or (old_rows wide n) k d) (new_row wide o rest n) ≡ smaller (key_at (row_width wide * k) n.0) o
    here d = ap₂ smaller (old_key wide n k h d) (new_key o (place_bytes wide (n.1.budget - rest)) f.full)

    back : (d : List ℕ) → row_smaller (new_row wide o rest n) (get_or (old_rows wide n) k d) ≡ smaller o (key_at (row_width wide * k) n.0)
    back d = ap₂ smaller (new_key o (place_bytes wide (n.1.budget - rest)) f.full) (old_key wide n k h d)

    -- the row at the place has the outcome: nothing changes
    pub found_there : key_at (row_width wide * k) n.0 ≡ o → n ≡ noted wide o rest n
    found_there e =
        let same : (x y : List ℕ) → x ≡ o → y ≡ o → smaller x y ≡ false = λ x y p q. ap₂ smaller p q ∙ smaller_irreflexive o in
        sym
        (noted_there wide n o rest f.room
        (entered_there row_smaller k (new_row wide o rest n) (old_rows wide n) (let l = old_length wide n in omega arith) first (λ c d. smaller_asym (take 48 c) (take 48 d))
        (λ d. back d ∙ same o (key_at (row_width wide * k) n.0) refl e) (λ d. here d ∙ same (key_at (row_width wide * k) n.0) o e refl)))

    next : (key_at (row_width wide * k) n.0 ≡ o → ⊥) → (d : List ℕ) → row_smaller (new_row wide o rest n) (get_or (old_rows wide n) k d) ≡ true
    next other d = back d ∙ go (smaller o (key_at (row_width wide * k) n.0)) refl
      where
        go : (t : Bool) → smaller o (key_at (row_width wide * k) n.0) ≡ t → t ≡ true
        go true e = refl
        go false e = absurd (other (smaller_same (key_at (row_width wide * k) n.0) o (f.place.behind k (omega arith) h) e))

  -- no row has the outcome
  module _ (new : k < met_of n → key_at (row_width wide * k) n.0 ≡ o → ⊥) where
    found_rows : new_rows wide o rest n ≡ take k (old_rows wide n) ++ (new_row wide o rest n ∷ drop k (old_rows wide n))
    found_rows =
        let l = old_length wide n in
        let w = f.place.within in
        entered_at row_smaller k (new_row wide o rest n) (old_rows wide n) (omega arith) first (λ c d. smaller_asym (take 48 c) (take 48 d))
        (λ d h. let h' : k < met_of n = omega arith in next h' (new h') d)

    found_length : length (new_rows wide o rest n) ≡ met_of n + 1
    found_length =
        let l = old_length wide n in
        let w = f.place.within in
        ap length found_rows ∙ length-append (take k (old_rows wide n)) (new_row wide o rest n ∷ drop k (old_rows wide n))
        ∙ omega (arith, length-take-le k (old_rows wide n) (omega arith), length-drop k (old_rows wide n))

    pub found_over : met_of n ≡ capacity wide n.0 → (n.0, with_met (met_of n + 1) n.1) ≡ noted wide o rest n
    found_over e =
        let l = found_length in
        sym (noted_over wide n o rest f.room (omega arith) ∙ ap (λ (m : ℕ). (n.0, with_met m n.1)) l)

    -- the bytes of all rows with the new one
    found_bytes_lem : row_bytes (new_rows wide o rest n)
        ≡ take (row_width wide * k) n.0 ++ (new_row wide o rest n ++ take (row_width wide * met_of n - row_width wide * k) (drop (row_width wide * k) n.0))
    unfolding rows_of
    found_bytes_lem =
        let w : ℕ = row_width wide in
        let h = f.place.within in
        let head : List (List ℕ) = take k (old_rows wide n) in
        let tail : List (List ℕ) = drop k (old_rows wide n) in
        let front : row_bytes head ≡ take (w * k) n.0 = ap row_bytes (rows_take w k (met_of n) n.0 h) ∙ rows_bytes w k n.0 in
        let rear : row_bytes tail ≡ take (w * met_of n - w * k) (drop (w * k) n.0) =
        ap row_bytes (rows_drop w k (met_of n) n.0 h) ∙ rows_bytes w (met_of n - k) (drop (w * k) n.0) ∙ ap (λ (j : ℕ). take j (drop (w * k) n.0)) (mul-sub w (met_of n) k) in
        ap row_bytes found_rows ∙ bytes_append head (new_row wide o rest n ∷ tail)
        ∙ ap₂ (λ (x y : List ℕ). x ++ y) front (bytes_cons (new_row wide o rest n) tail ∙ ap (λ (x : List ℕ). new_row wide o rest n ++ x) rear)

    -- the rows from the place on move up, and the new one is written there
    module _ (fits : met_of n ≡ capacity wide n.0 → ⊥) (place : ℕ) (p : place ≡ n.1.budget - rest) (a b : List ℕ)
        (ea : a ≡ put (row_width wide * k + row_width wide) (take (row_width wide * met_of n - row_width wide * k) (drop (row_width wide * k) n.0)) n.0)
        (eb : b ≡ put (row_width wide * k) (o ++ place_bytes wide place) a) where
      found_written : b ≡ put 0 (row_bytes (new_rows wide o rest n)) n.0
      found_written =
          let at : ℕ = row_width wide * k in
          let row : List ℕ = new_row wide o rest n in
          let part : List ℕ = take (row_width wide * met_of n - at) (drop at n.0) in
          let long = row_length wide o (n.1.budget - rest) f.full in
          let over = found_room f fits in
          let before = found_before f in
          eb ∙ ap₂ (λ (m : ℕ) (x : List ℕ). put at (o ++ place_bytes wide m) x) p ea
          ∙ put_earlier at (at + row_width wide) row part n.0 (omega arith) (omega arith)
          ∙ sym (put_from_start at (row ++ part) n.0 (omega arith))
          ∙ ap (λ (x : List ℕ). put 0 x n.0) (sym found_bytes_lem)

      pub found_in : (b, with_met (met_of n + 1) n.1) ≡ noted wide o rest n
      found_in =
          let l = found_length in
          let r = found_below f fits in
          ap₂ (λ (x : List ℕ) (m : ℕ). (x, with_met m n.1)) found_written (sym l) ∙ sym (noted_in wide n o rest f.room (omega arith))
