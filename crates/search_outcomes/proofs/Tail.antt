-- The bytes behind the whole rows of a lent table: whatever is noted, they stay as they were, so that clearing the rows gives back the cleared table.
-- Assumes nothing.
use mathlib.Core.Path.{◌≡◌, refl, sym, ap, subst, ◌∙◌}
use mathlib.Core.Bool.{Bool}
use mathlib.Core.List.{List, ◌++◌}
use Prim.Native.Nat.{ℕ, ◌+◌, ◌-◌, ◌*◌, ◌/◌, ◌≤◌}
use native.Mathlib.Decide.{dec_lt}
use native.Mathlib.Nat.{mul-le-mul_left}
use native.Mathlib.Omega.{arith}
use lib.ListN.{length, drop, replicate, length-replicate}
use lib.Seq.{drop-append-add, drop-drop}
use Rattle.encode_bytes.specs.Places.{put}
use Rattle.encode_bytes.proofs.Putting.{put_length}
use Rattle.search_outcomes.specs.Table.{row_width, capacity, row_bytes, Notes, met_of, noted}
use Rattle.search_outcomes.proofs.Rows.{bytes_length}
use Rattle.search_outcomes.proofs.Cases.{capacity_room, new_rows, new_wide, noted_full, noted_over, noted_in}

-- what is written at the front leaves the bytes behind it
drop_put : (bs a : List ℕ) (m : ℕ) → length bs ≤ m → drop m (put 0 bs a) ≡ drop m a
unfolding put
drop_put bs a m h =
    let d : ℕ = m - length bs in
    let rest : List ℕ = drop (0 + length bs) a in
    let front : m ≡ length bs + d = omega arith in
    let back : 0 + length bs + d ≡ m = omega arith in
    ap (λ (k : ℕ). drop k (bs ++ rest)) front ∙ drop-append-add bs rest d ∙ drop-drop d (0 + length bs) a ∙ ap (λ (k : ℕ). drop k a) back

-- the bytes of all rows that there is room for
abbrev rows_end : Bool → List ℕ → ℕ
rows_end wide t = row_width wide * capacity wide t

-- AFTER DIFFERS FROM THE TABLE t IN ITS ROWS ONLY
pub record Tail (wide : Bool) (t after : List ℕ) : Type 0 where
  pub as_long : length after ≡ length t
  pub behind : drop (row_width wide * capacity wide t) after ≡ drop (row_width wide * capacity wide t) t

-- bytes no longer than the rows, written at the front
tail_put : {wide : Bool} {t after : List ℕ} (bs : List ℕ) → length bs ≤ row_width wide * capacity wide t → Tail wide t after → Tail wide t (put 0 bs after)
tail_put {wide} {t} {after} bs h k =
    let room = capacity_room wide (capacity wide t) t (omega arith) in
    let same = k.as_long in
    record { as_long = put_length 0 bs after (omega arith) ∙ same; behind = drop_put bs after (rows_end wide t) h ∙ k.behind }

-- the table with its rows cleared
pub tail_emptied : (wide : Bool) (t : List ℕ) → Tail wide t (put 0 (replicate (row_width wide * capacity wide t) 0) t)
tail_emptied wide t = tail_put (replicate (rows_end wide t) 0) (let l = length-replicate {A = ℕ} (rows_end wide t) 0 in omega arith) (record { as_long = refl; behind = refl })

-- whatever is noted
pub tail_noted : (wide : Bool) (t o : List ℕ) (rest : ℕ) (n : Notes) → length o ≡ 48 → Tail wide t n.0 → Tail wide t (noted wide o rest n).0
tail_noted wide t o rest n full k =
    elim (dec_lt (capacity wide n.0) (met_of n)) [
      | yes h ↦ subst (λ (m : Notes). Tail wide t m.0) (sym (noted_full wide n o rest h)) k
      | no h ↦ let room : met_of n ≤ capacity wide n.0 = omega arith in
          elim (dec_lt (capacity wide n.0) (length (new_rows wide o rest n))) [
            | yes l ↦ subst (λ (m : Notes). Tail wide t m.0) (sym (noted_over wide n o rest room l)) k
            | no l ↦
                let fits : length (new_rows wide o rest n) ≤ capacity wide n.0 = omega arith in
                let same : capacity wide n.0 ≡ capacity wide t = ap (λ (m : ℕ). m / row_width wide) k.as_long in
                let size = bytes_length (row_width wide) (new_rows wide o rest n) (new_wide wide n o rest full room) in
                let less : row_width wide * length (new_rows wide o rest n) ≤ row_width wide * capacity wide t = mul-le-mul_left (row_width wide) (omega arith) in
                subst (λ (m : Notes). Tail wide t m.0) (sym (noted_in wide n o rest room fits)) (tail_put (row_bytes (new_rows wide o rest n)) (omega arith) k)
          ]
    ]

-- CLEARED AGAIN: the cleared table is back
pub tail_cleared : {wide : Bool} {t after : List ℕ} → Tail wide t after → put 0 (replicate (row_width wide * capacity wide t) 0) after ≡ put 0 (replicate (row_width wide * capacity wide t) 0) t
unfolding put
tail_cleared {wide} {t} {after} k =
    let zeros : List ℕ = replicate (rows_end wide t) 0 in
    let size : 0 + length zeros ≡ rows_end wide t = let l = length-replicate {A = ℕ} (rows_end wide t) 0 in omega arith in
    ap (λ (m : ℕ). zeros ++ drop m after) size ∙ ap (λ (x : List ℕ). zeros ++ x) k.behind ∙ sym (ap (λ (m : ℕ). zeros ++ drop m t) size)
