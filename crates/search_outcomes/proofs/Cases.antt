-- The cases of noting an outcome: too many have been met, it is there, it finds no room, it is entered.
-- Assumes nothing.
use mathlib.Core.Path.{◌≡◌, ap, ap₂, ◌∙◌}
use mathlib.Core.Bool.{Bool, true, false}
use mathlib.Core.Logic.{◌⊎◌, inl, inr, ⊎_elim}
use mathlib.Core.List.{List, ◌++◌}
use Prim.Native.Nat.{ℕ, suc, ◌+◌, ◌-◌, ◌*◌, ◌≤◌, ◌<◌}
use native.Mathlib.Omega.{arith}
use lib.ListN.{length, take, drop, take-append-drop}
use lib.Seq.{length-take-le}
use borrow.Author.Tests.{lt-ltb, le-ltb}
use Rattle.theory_sequences.specs.Listing.{entered}
use Rattle.theory_sequences.proofs.Entered.{entered_length, entered_among}
use Rattle.encode_bytes.specs.Places.{put}
use Rattle.encode_bytes.proofs.Entries.{entries_length}
use Rattle.search_outcomes.specs.declared.Sheet.{Sheet}
use Rattle.search_outcomes.specs.Table.{row_width, place_bytes, capacity, rows_of, row_smaller, row_bytes, Notes, met_of, with_met, noted}
use Rattle.search_outcomes.proofs.Rows.{Each, row_length, rows_bytes, rows_wide}

-- ---- room for n rows
pub capacity_room : (wide : Bool) (n : ℕ) (area : List ℕ) → n ≤ capacity wide area → row_width wide * n ≤ length area
capacity_room true n area h = omega arith
capacity_room false n area h = omega arith

-- ---- the row of an outcome, the rows that are there, and those with it
abbrev pub new_row : Bool → List ℕ → ℕ → Notes → List ℕ
new_row wide o rest n = o ++ place_bytes wide (n.1.budget - rest)

abbrev pub old_rows : Bool → Notes → List (List ℕ)
old_rows wide n = rows_of wide (met_of n) n.0

abbrev pub new_rows : Bool → List ℕ → ℕ → Notes → List (List ℕ)
new_rows wide o rest n = entered row_smaller (new_row wide o rest n) (old_rows wide n)

module _ (wide : Bool) (n : Notes) where
  pub old_length : length (old_rows wide n) ≡ met_of n
  unfolding rows_of
  old_length = entries_length (take (row_width wide)) (row_width wide) (met_of n) n.0

  pub old_wide : met_of n ≤ capacity wide n.0 → Each (row_width wide) (old_rows wide n)
  unfolding rows_of
  old_wide h = rows_wide (row_width wide) (met_of n) n.0 (capacity_room wide (met_of n) n.0 h)

  old_written : met_of n ≤ capacity wide n.0 → put 0 (row_bytes (old_rows wide n)) n.0 ≡ n.0
  unfolding put rows_of
  old_written h =
      let m : ℕ = row_width wide * met_of n in
      let l : length (take m n.0) ≡ m = length-take-le m n.0 (capacity_room wide (met_of n) n.0 h) in
      let e : 0 + length (take m n.0) ≡ m = omega arith in
      ap (λ (x : List ℕ). x ++ drop (0 + length x) n.0) (rows_bytes (row_width wide) (met_of n) n.0)
      ∙ ap (λ (j : ℕ). take m n.0 ++ drop j n.0) e
      ∙ take-append-drop m n.0

  module _ (o : List ℕ) (rest : ℕ) where
    pub new_length : (length (new_rows wide o rest n) ≡ met_of n) ⊎ (length (new_rows wide o rest n) ≡ suc (met_of n))
    new_length =
        let l = old_length in
        ⊎_elim (λ e. inl (ap length e ∙ l)) (λ e. inr (e ∙ ap suc l)) (entered_length row_smaller (new_row wide o rest n) (old_rows wide n))

    pub new_wide : length o ≡ 48 → met_of n ≤ capacity wide n.0 → Each (row_width wide) (new_rows wide o rest n)
    new_wide full h r i =
        ⊎_elim (λ e. ap length e ∙ row_length wide o (n.1.budget - rest) full) (λ j. old_wide h r j) (entered_among row_smaller r (new_row wide o rest n) (old_rows wide n) i)

    pub noted_full : capacity wide n.0 < met_of n → noted wide o rest n ≡ n
    unfolding noted
    noted_full h = rw (lt-ltb (capacity wide n.0) (met_of n) h)

    module _ (room : met_of n ≤ capacity wide n.0) where
      pub noted_over : capacity wide n.0 < length (new_rows wide o rest n) → noted wide o rest n ≡ (n.0, with_met (length (new_rows wide o rest n)) n.1)
      unfolding noted
      noted_over h = rw (le-ltb (capacity wide n.0) (met_of n) room, lt-ltb (capacity wide n.0) (length (new_rows wide o rest n)) h)

      pub noted_in : length (new_rows wide o rest n) ≤ capacity wide n.0
          → noted wide o rest n ≡ (put 0 (row_bytes (new_rows wide o rest n)) n.0, with_met (length (new_rows wide o rest n)) n.1)
      unfolding noted
      noted_in h = rw (le-ltb (capacity wide n.0) (met_of n) room, le-ltb (capacity wide n.0) (length (new_rows wide o rest n)) h)

      pub noted_there : new_rows wide o rest n ≡ old_rows wide n → noted wide o rest n ≡ n
      noted_there e =
          let l : length (new_rows wide o rest n) ≡ met_of n = ap length e ∙ old_length in
          noted_in (omega arith)
          ∙ ap₂ (λ (x : List ℕ) (s : Sheet). (x, s)) (ap (λ (x : List (List ℕ)). put 0 (row_bytes x) n.0) e ∙ old_written room) (ap (λ (m : ℕ). with_met m n.1) l)
