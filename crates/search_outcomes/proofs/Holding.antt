-- The rows beside the entries of a listing: as long as there is room, they are its entries one after the other.
-- Assumes nothing.
use mathlib.Core.Path.{◌≡◌, refl, sym, ap, ap₂, subst, ◌∙◌}
use mathlib.Core.Bool.{Bool, true}
use mathlib.Core.Logic.{inl, inr, ⊎_elim}
use mathlib.Core.List.{List, [], ◌∷◌, ◌++◌, map}
use Prim.Native.Nat.{ℕ, ◌+◌, ◌-◌, ◌*◌, ◌/◌, ◌≤◌, ◌<◌}
use native.Mathlib.Decide.{dec_lt}
use native.Mathlib.Nat.{mul-le-mul_left}
use native.Mathlib.Omega.{arith}
use lib.ListN.{length, drop, length-map}
use lib.Seq.{drop-append-add, drop-drop}
use Rattle.theory_sequences.specs.Sequences.{Among, Ascending}
use Rattle.theory_sequences.specs.Listing.{Entry, entered}
use Rattle.theory_sequences.proofs.Ordered.{among_unmap}
use Rattle.theory_sequences.proofs.Entered.{Stands, ahead, past, alike, stands, entered_first, entered_ahead, entered_past, entered_alike, entered_length, entered_among}
use Rattle.step.specs.Order.{for_each}
use Rattle.step.specs.Outcome.{smaller}
use Rattle.encode_bytes.specs.Places.{put}
use Rattle.encode_bytes.proofs.Putting.{put_none, put_length}
use Rattle.search_outcomes.specs.Table.{row_width, place_bytes, capacity, rows_of, row_smaller, row_bytes, entry_bytes, entry_smaller, Notes, met_of, fresh_sheet, noted, Orderly}
use Rattle.search_outcomes.proofs.Rows.{Each, row_length, new_key, bytes_length, rows_again}
use Rattle.search_outcomes.proofs.Cases.{capacity_room, old_rows, new_rows, noted_full, noted_over, noted_in}

-- ---- images of members that keep the order
module _ {A B : Type 0} (before : A → A → Bool) (before' : B → B → Bool) (f : A → B) (P : A → Type 0) (same : (x y : A) → P x → P y → before' (f x) (f y) ≡ before x y) where
  -- to enter the image among the images is to enter and then take the images
  entered_image : (a : A) (l : List A) → P a → ((x : A) → Among x l → P x) → entered before' (f a) (map f l) ≡ map f (entered before a l)
  entered_image a [] pa pl = rw (entered_first before a) (entered_first before' (f a))
  entered_image a (c ∷ l) pa pl = go (stands before a c) (entered_image a l pa (λ x i. pl x (inr i)))
    where
      there : before' (f a) (f c) ≡ before a c
      there = same a c pa (pl c (inl refl))

      back : before' (f c) (f a) ≡ before c a
      back = same c a (pl c (inl refl)) pa

      go : Stands before a c → entered before' (f a) (map f l) ≡ map f (entered before a l) → entered before' (f a) (f c ∷ map f l) ≡ map f (entered before a (c ∷ l))
      go (ahead e) rec = rw (entered_ahead before a c l e) (entered_ahead before' (f a) (f c) (map f l) (there ∙ e))
      go (past e g) rec =
          rw (entered_past before a c l e g) (entered_past before' (f a) (f c) (map f l) (there ∙ e) (back ∙ g) ∙ ap (λ (x : List B). f c ∷ x) rec)
      go (alike e g) rec = rw (entered_alike before a c l e g) (entered_alike before' (f a) (f c) (map f l) (there ∙ e) (back ∙ g))

  ascending_image : (l : List A) → ((x : A) → Among x l → P x) → Ascending (λ (x y : A). before x y ≡ true) l → Ascending (λ (x y : B). before' x y ≡ true) (map f l)
  ascending_image [] pl s = tt
  ascending_image (a ∷ l) pl s = (
    λ b i. let u = among_unmap f b l i in ap (before' (f a)) u.1 ∙ same a u.0 (pl a (inl refl)) (pl u.0 (inr u.2)) ∙ s.0 u.0 u.2,
    ascending_image l (λ x i. pl x (inr i)) s.1,
  )

-- ---- entries of 48 bytes as rows
abbrev Whole : Entry (List ℕ) → Type 0
Whole x = length x.outcome ≡ 48

rows_order : (wide : Bool) (x y : Entry (List ℕ)) → Whole x → Whole y → row_smaller (entry_bytes wide x) (entry_bytes wide y) ≡ entry_smaller x y
rows_order wide x y p q = ap₂ smaller (new_key x.outcome (place_bytes wide x.place) p) (new_key y.outcome (place_bytes wide y.place) q)

entries_wide : (wide : Bool) (e : List (Entry (List ℕ))) → ((x : Entry (List ℕ)) → Among x e → Whole x) → Each (row_width wide) (map (entry_bytes wide) e)
entries_wide wide e w r i = let u = among_unmap (entry_bytes wide) r e i in ap length u.1 ∙ row_length wide u.0.outcome u.0.place (w u.0 u.2)

-- ---- bytes that are written over with as many or more
put_again : (bs cs a : List ℕ) → length bs ≤ length cs → put 0 cs (put 0 bs a) ≡ put 0 cs a
unfolding put
put_again bs cs a h =
    let m : ℕ = length cs - length bs in
    let rest : List ℕ = drop (0 + length bs) a in
    let e : 0 + length cs ≡ length bs + m = omega arith in
    let g : 0 + length bs + m ≡ 0 + length cs = omega arith in
    ap (λ (x : List ℕ). cs ++ x)
    (ap (λ (k : ℕ). drop k (bs ++ rest)) e ∙ drop-append-add bs rest m ∙ drop-drop m (0 + length bs) a ∙ ap (λ (k : ℕ). drop k a) g)

-- THE NOTES HOLD THE ENTRIES e, with the budget b, in bytes that were lent as `start`
pub record Holds (wide : Bool) (start : List ℕ) (b : ℕ) (e : List (Entry (List ℕ))) (n : Notes) : Type 0 where
  pub budget : n.1.budget ≡ b
  -- as many have been met as there are entries, as long as there is room for these
  pub exact : length e ≤ capacity wide start → met_of n ≡ length e
  pub beyond : capacity wide start < length e → capacity wide start < met_of n
  pub as_long : length n.0 ≡ length start
  pub rows : length e ≤ capacity wide start → n.0 ≡ put 0 (row_bytes (map (entry_bytes wide) e)) start
  pub whole : (x : Entry (List ℕ)) → Among x e → length x.outcome ≡ 48

pub holds_none : (wide : Bool) (start : List ℕ) (b : ℕ) → Holds wide start b [] (start, fresh_sheet b)
unfolding for_each
holds_none wide start b =
    record {
      budget = refl;
      exact = λ h. refl;
      beyond = λ h. absurd (omega arith);
      as_long = refl;
      rows = λ h. sym (put_none 0 start);
      whole = λ x i. absurd i;
    }

module _ {wide : Bool} {start : List ℕ} {b : ℕ} {e : List (Entry (List ℕ))} {n : Notes} (k : Holds wide start b e n) where
  capacity_same : capacity wide n.0 ≡ capacity wide start
  capacity_same = ap (λ (l : ℕ). l / row_width wide) k.as_long

  module _ (fits : length e ≤ capacity wide start) where
    held_rows : old_rows wide n ≡ map (entry_bytes wide) e
    unfolding put rows_of
    held_rows =
        let r : List (List ℕ) = map (entry_bytes wide) e in
        ap₂ (λ (m : ℕ) (a : List ℕ). rows_of wide m a) (k.exact fits ∙ sym (length-map e (entry_bytes wide))) (k.rows fits)
        ∙ rows_again (row_width wide) r (drop (0 + length (row_bytes r)) start) (entries_wide wide e k.whole)

  -- ---- one outcome more
  module _ (o : List ℕ) (r : ℕ) (full : length o ≡ 48) where
    abbrev entry : Entry (List ℕ)
    entry = record { outcome = o; place = b - r }

    abbrev more : List (Entry (List ℕ))
    more = entered entry_smaller entry e

    more_length : length e ≤ length more
    more_length = ⊎_elim (λ q. let l = ap length q in omega arith) (λ q. omega arith) (entered_length entry_smaller entry e)

    more_whole : (x : Entry (List ℕ)) → Among x more → length x.outcome ≡ 48
    more_whole x i = ⊎_elim (λ q. ap (λ (y : Entry (List ℕ)). length y.outcome) q ∙ full) (λ j. k.whole x j) (entered_among entry_smaller x entry e i)

    more_rows : length e ≤ capacity wide start → new_rows wide o r n ≡ map (entry_bytes wide) more
    more_rows fits =
        ap₂ (λ (m : ℕ) (x : List (List ℕ)). entered row_smaller (o ++ place_bytes wide (m - r)) x) k.budget (held_rows fits)
        ∙ entered_image entry_smaller row_smaller (entry_bytes wide) Whole (rows_order wide) entry e full k.whole

    pub holds_noted : Holds wide start b (entered entry_smaller (record { outcome = o; place = b - r }) e) (noted wide o r n)
    holds_noted = elim (dec_lt (capacity wide start) (length e)) [ yes h ↦ beyond_all h | no h ↦ with_room (omega arith) ]
      where
        beyond_all : capacity wide start < length e → Holds wide start b more (noted wide o r n)
        beyond_all h =
            let l = more_length in
            let m = k.beyond h in
            subst (Holds wide start b more) (sym (noted_full wide n o r (rw capacity_same m)))
            (record { budget = k.budget; exact = λ f. absurd (omega arith); beyond = λ f. m; as_long = k.as_long; rows = λ f. absurd (omega arith); whole = more_whole })

        with_room : length e ≤ capacity wide start → Holds wide start b more (noted wide o r n)
        with_room fits =
            let met : met_of n ≤ capacity wide n.0 = rw (capacity_same, k.exact fits) fits in
            let size : length (new_rows wide o r n) ≡ length more = ap length (more_rows fits) ∙ length-map more (entry_bytes wide) in
            elim (dec_lt (capacity wide start) (length more)) [
              | yes h ↦
                  subst (Holds wide start b more) (sym (noted_over wide n o r met (rw (capacity_same, size) h)))
                  (record {
                    budget = k.budget;
                    exact = λ f. absurd (omega arith);
                    beyond = λ f. rw size h;
                    as_long = k.as_long;
                    rows = λ f. absurd (omega arith);
                    whole = more_whole;
                  })
              | no h ↦
                  let few : length more ≤ capacity wide start = omega arith in
                  let less : row_width wide * length e ≤ row_width wide * length more = mul-le-mul_left (row_width wide) more_length in
                  let room = capacity_room wide (length more) start few in
                  let long : (l : List (Entry (List ℕ))) → ((x : Entry (List ℕ)) → Among x l → Whole x) → length (row_bytes (map (entry_bytes wide) l)) ≡ row_width wide * length l =
                  λ l w. bytes_length (row_width wide) (map (entry_bytes wide) l) (entries_wide wide l w) ∙ ap (λ (m : ℕ). row_width wide * m) (length-map l (entry_bytes wide)) in
                  let old = long e k.whole in
                  let new = long more more_whole in
                  let written : put 0 (row_bytes (new_rows wide o r n)) n.0 ≡ put 0 (row_bytes (map (entry_bytes wide) more)) start =
                  ap₂ (λ (x : List (List ℕ)) (a : List ℕ). put 0 (row_bytes x) a) (more_rows fits) (k.rows fits)
                  ∙ put_again (row_bytes (map (entry_bytes wide) e)) (row_bytes (map (entry_bytes wide) more)) start (omega arith) in
                  subst (Holds wide start b more) (sym (noted_in wide n o r met (rw (capacity_same, size) few)))
                  (record {
                    budget = k.budget;
                    exact = λ f. size;
                    beyond = λ f. absurd (omega arith);
                    as_long = ap length written ∙ put_length 0 (row_bytes (map (entry_bytes wide) more)) start (omega arith);
                    rows = λ f. written;
                    whole = more_whole;
                  })
            ]

  -- the rows of ascending entries are in order
  pub holds_orderly : Ascending (λ (x y : Entry (List ℕ)). entry_smaller x y ≡ true) e → Orderly wide n
  holds_orderly s =
      record {
        rising =
            λ h.
            let c = capacity_same in
            elim (dec_lt (capacity wide start) (length e)) [
              | yes l ↦ let m = k.beyond l in absurd (omega arith)
              | no l ↦ let fits : length e ≤ capacity wide start = omega arith in
                  rw (held_rows fits) (ascending_image entry_smaller row_smaller (entry_bytes wide) Whole (rows_order wide) e k.whole s)
            ];
      }
