-- What the answer of the whole visit says: the answer of the listing, and the lent table afterwards.
-- Assumes nothing.
use mathlib.Core.Path.{◌≡◌, refl, sym, ap, subst, ◌∙◌}
use mathlib.Core.Bool.{Bool, true}
use mathlib.Core.List.{List}
use Prim.Native.Nat.{ℕ, ◌-◌, ◌*◌, ◌/◌, ◌≤◌, ◌<◌}
use native.Mathlib.Decide.{dec_lt}
use native.Mathlib.Omega.{arith}
use lib.Dec.{T}
use lib.ListN.{length, replicate}
use borrow.Author.Tests.{lt-ltb, le-ltb, eqb-false}
use Rattle.std.specs.Prelude.{Result, Ok, Err}
use Rattle.program.specs.declared.Program.{Program}
use Rattle.program.specs.File.{FileAnswer, read_file}
use Rattle.program.specs.Answers.{file_read}
use Rattle.program.specs.WellFormed.{program_test}
use Rattle.machine.specs.declared.Machine.{Machine}
use Rattle.machine.specs.State.{fresh}
use Rattle.encode_bytes.specs.Places.{put}
use Rattle.theory_sequences.specs.Scan.{Scan, noted_of}
use Rattle.theory_sequences.specs.Listing.{Listing, finished, unfinished}
use Rattle.step.specs.Step.{Step}
use Rattle.program.proofs.Answered.{read_good, read_refused}
use Rattle.program.specs.declared.Refused.{Refused}
use Rattle.search_sequences.specs.OfProgram.{sequences_of, listing_to}
use Rattle.search_outcomes.specs.Table.{row_width, capacity, Notes, met_of, fresh_sheet}
use Rattle.search_outcomes.proofs.Holding.{Holds, holds_none, holds_orderly}
use Rattle.search_outcomes.proofs.Cases.{capacity_room}
use Rattle.search_outcomes.proofs.Tail.{Tail, tail_emptied, tail_noted, tail_cleared}
use Rattle.search_arrivals.specs.declared.Aim.TheVariants.{Outcomes}
use Rattle.search_arrivals.specs.declared.Ran.{Ran}
use Rattle.search_arrivals.specs.declared.Ran.TheVariants.{Going, Out}
use Rattle.search_arrivals.specs.Visits.{visiting, Reports, Visitable}
use Rattle.search_arrivals.proofs.Acting.{visiting_keeps}
use Rattle.search_visits.proofs.Start.{ready_fresh}
use Rattle.outcomes.specs.Answers.{Finished, TooMany, NotFinished, Answer, nothing_listed, answer_of, emptied, table_of, answer_on, table_on, ListedIn, machines_on, ListedWithin}
use Rattle.outcomes.specs.Inner.{ListsOn}
use Rattle.outcomes.proofs.Gathered.{all_entries, listing_finished, listing_unfinished, Ends, went, spent, visit_ends}

-- ---- before the visit
-- the whole rows of a table, however its width is written
pub rows_within : (wide : Bool) (t : List ℕ) (w : ℕ) → w ≡ row_width wide → w * (length t / w) ≤ length t
rows_within wide t w e = rw e (capacity_room wide (capacity wide t) t (omega arith))

pub ready_to_list : (p : Program) (wide : Bool) (t : List ℕ) (b : ℕ) → T (program_test p) → Visitable p (Outcomes wide) fresh 0 (t, fresh_sheet b)
ready_to_list p wide t b h = ready_fresh p (Outcomes wide) (t, fresh_sheet b) h (λ e. absurd (eqb-false 0 1 refl cc)) (λ narrow e. holds_orderly (holds_none narrow t b) tt)

-- what the visit of a fresh machine reports, where the rows of the table were cleared by their width before
pub reported : (p : Program) (wide : Bool) (b : ℕ) (t : List ℕ) {x : Machine} {w : ℕ} {start : List ℕ} {r : Ran} {after : Notes} → x ≡ fresh → w ≡ row_width wide → start ≡ put 0 (replicate (w * (length t / w)) 0) t
    → Reports 0 (visiting p (Outcomes wide) x b (start, fresh_sheet b)) r after → Reports 0 (visiting p (Outcomes wide) fresh b (emptied wide t, fresh_sheet b)) r after
reported p wide b t {x} {w} {start} {r} {after} is-fresh width cleared told =
    let s : start ≡ emptied wide t = cleared ∙ ap (λ (k : ℕ). put 0 (replicate (k * (length t / k)) 0) t) width in
    subst (λ (y : Machine). Reports 0 (visiting p (Outcomes wide) y b (emptied wide t, fresh_sheet b)) r after) is-fresh
    (subst (λ (a : List ℕ). Reports 0 (visiting p (Outcomes wide) x b (a, fresh_sheet b)) r after) s told)

-- ---- after the visit
module _ (p : Program) (wide : Bool) (b : ℕ) (t : List ℕ) (r : Ran) (after : Notes)
    (told : Reports 0 (visiting p (Outcomes wide) fresh b (emptied wide t, fresh_sheet b)) r after)
  where
    abbrev whole : Scan Step Notes
    whole = visiting p (Outcomes wide) fresh b (emptied wide t, fresh_sheet b)

    capacity_same : capacity wide (emptied wide t) ≡ capacity wide t
    capacity_same = ap (λ (l : ℕ). l / row_width wide) (tail_emptied wide t).as_long

    -- the visit went through all sequences, with c of the budget left
    pub record Went (c : ℕ) : Type 0 where
      pub suffices : length (sequences_of p) ≤ b
      pub left : c ≡ b - length (sequences_of p)
      pub held : Holds wide (emptied wide t) b (all_entries p) after

    pub going_went : (c : ℕ) → r ≡ Going c → Went c
    going_went c e = by (visit_ends p wide (emptied wide t) b)
      where
        by : Ends p wide (emptied wide t) b whole → Went c
        by (went n q fits h) =
            let a : r ≡ Going (b - length (sequences_of p)) = told.answer ∙ rw q in
            let same : after ≡ n = told.lent ∙ rw q in
            record { suffices = fits; left = cc; held = subst (Holds wide (emptied wide t) b (all_entries p)) (sym same) h }
        by (spent n q less) = let a : r ≡ Out = told.answer ∙ rw q in absurd (eqb-false 0 1 refl cc)

    -- it did not: the budget does not suffice
    pub not_going : ((c : ℕ) → r ≡ Going c → ⊥) → b < length (sequences_of p)
    not_going never = by (visit_ends p wide (emptied wide t) b)
      where
        by : Ends p wide (emptied wide t) b whole → b < length (sequences_of p)
        by (went n q fits h) = absurd (never (b - length (sequences_of p)) (told.answer ∙ rw q))
        by (spent n q less) = less

    -- whatever was noted, only rows of the table have changed
    pub tail_after : Tail wide t after.0
    tail_after = by (visit_ends p wide (emptied wide t) b)
      where
        noted_tail : Tail wide t (noted_of whole).0
        noted_tail =
            visiting_keeps (λ n. Tail wide t n.0) p (Outcomes wide)
            (λ v e o c n k i. let same : wide ≡ v = cc in rw (← same) (tail_noted wide t o c n k i)) fresh b (emptied wide t, fresh_sheet b) (tail_emptied wide t)

        by : Ends p wide (emptied wide t) b whole → Tail wide t after.0
        by (went n q fits h) = let same : after ≡ noted_of whole = told.lent ∙ rw q in subst (λ (m : Notes). Tail wide t m.0) (sym same) noted_tail
        by (spent n q less) = let same : after ≡ noted_of whole = told.lent ∙ rw q in subst (λ (m : Notes). Tail wide t m.0) (sym same) noted_tail

    pub rows_still_within : (w : ℕ) → w ≡ row_width wide → w * (length t / w) ≤ length after.0
    rows_still_within w e = let l = rows_within wide t w e in let same = tail_after.as_long in omega arith

    module _ (machines machines' : List ℕ) (cleared : machines' ≡ replicate (length machines) 0) where
      -- the answer and the tables, where the listing is l
      lists_by : (l : Listing (List ℕ)) → listing_to p b ≡ l → (a : Answer) (t' : List ℕ) → a ≡ answer_of (capacity wide t) l → t' ≡ table_of wide l t → ListsOn p wide b t machines a t' machines'
      lists_by l e a t' answer lent =
          record {
            answer = answer ∙ ap (answer_of (capacity wide t)) (sym e);
            lent = lent ∙ ap (λ (k : Listing (List ℕ)). table_of wide k t) (sym e);
            lent_machines = cleared;
          }

      -- there is room for all outcomes that were met
      pub finished_all : (c : ℕ) → r ≡ Going c → met_of after ≤ capacity wide t → ListsOn p wide b t machines (record { verdict = Finished; count = b - c; number = met_of after }) after.0 machines'
      finished_all c e few =
          let w = going_went c e in
          let enough = w.suffices in
          let rest = w.left in
          let same = capacity_same in
          let count : b - c ≡ length (sequences_of p) = omega arith in
          let fits : length (all_entries p) ≤ capacity wide (emptied wide t) =
          elim (dec_lt (capacity wide (emptied wide t)) (length (all_entries p))) [ yes l ↦ let m = w.held.beyond l in absurd (omega arith) | no l ↦ omega arith ] in
          let met : met_of after ≡ length (all_entries p) = w.held.exact fits in
          let room : length (all_entries p) ≤ capacity wide t = omega arith in
          lists_by (finished (length (sequences_of p)) (all_entries p)) (listing_finished p b enough) _ after.0
          (rw (le-ltb (capacity wide t) (length (all_entries p)) room, count, met))
          (rw (le-ltb (capacity wide t) (length (all_entries p)) room) (w.held.rows fits))

      -- the rows cleared again, by their width
      module _ (w : ℕ) (width : w ≡ row_width wide) (t' : List ℕ) (again : t' ≡ put 0 (replicate (w * (length t / w)) 0) after.0) where
        emptied_again : t' ≡ emptied wide t
        emptied_again = again ∙ ap (λ (k : ℕ). put 0 (replicate (k * (length t / k)) 0) after.0) width ∙ tail_cleared tail_after

        -- more outcomes were met than there is room for
        pub too_many : (c : ℕ) → r ≡ Going c → capacity wide t < met_of after → (a : Answer) → a ≡ nothing_listed TooMany (b - c) → ListsOn p wide b t machines a t' machines'
        too_many c e many a told-so =
            let w = going_went c e in
            let enough = w.suffices in
            let rest = w.left in
            let same = capacity_same in
            let count : b - c ≡ length (sequences_of p) = omega arith in
            let more : capacity wide t < length (all_entries p) =
            elim (dec_lt (capacity wide t) (length (all_entries p))) [ yes l ↦ l | no l ↦ let m = w.held.exact (omega arith) in absurd (omega arith) ] in
            lists_by (finished (length (sequences_of p)) (all_entries p)) (listing_finished p b enough) a t'
            (told-so ∙ rw (lt-ltb (capacity wide t) (length (all_entries p)) more, count))
            (rw (lt-ltb (capacity wide t) (length (all_entries p)) more) emptied_again)

        -- the budget did not suffice
        pub not_finished : ((c : ℕ) → r ≡ Going c → ⊥) → (a : Answer) → a ≡ nothing_listed NotFinished b → ListsOn p wide b t machines a t' machines'
        not_finished never a told-so = lists_by (unfinished b) (listing_unfinished p b (not_going never)) a t' told-so emptied_again

-- ---- a program file
module _ (wide : Bool) (f : List ℕ) (b : ℕ) (t : List ℕ) (r : Result Program Refused) (e : r ≡ file_read (read_file f)) where
  -- what a listing answers and leaves, where the file is read as y
  listed_on : (y : FileAnswer) → read_file f ≡ y → (a : Result Answer Refused) (t' : List ℕ) → a ≡ answer_on wide y b t → t' ≡ table_on wide y b t → ListedIn wide f b t a t'
  listed_on y g a t' answer lent =
      record { answer = answer ∙ sym (ap (λ (z : FileAnswer). answer_on wide z b t) g); lent = lent ∙ sym (ap (λ (z : FileAnswer). table_on wide z b t) g) }

  pub file_listed : {p : Program} → r ≡ Ok p → (m : List ℕ) (a : Answer) (t' m' : List ℕ) → ListsOn p wide b t m a t' m' → ListedIn wide f b t (Ok a) t'
  file_listed h m a t' m' l = listed_on _ (read_good _ r e h) (Ok a) t' (ap Ok l.answer) l.lent

  pub file_refused : {d : Refused} → r ≡ Err d → (a : Result Answer Refused) → a ≡ Err d → ListedIn wide f b t a t
  file_refused h a q = listed_on _ (read_refused _ r e h) a t q refl

module _ (f : List ℕ) (b : ℕ) (t m : List ℕ) (r : Result Program Refused) (e : r ≡ file_read (read_file f)) where
  pub within_listed : {p : Program} → r ≡ Ok p → (a : Answer) (t' m' : List ℕ) → ListsOn p true b t m a t' m' → ListedWithin f b t m (Ok a) t' m'
  within_listed h a t' m' l =
      record { listed = file_listed true f b t r e h m a t' m' l; lent_machines = l.lent_machines ∙ sym (ap (λ (z : FileAnswer). machines_on z m) (read_good _ r e h)) }

  pub within_refused : {d : Refused} → r ≡ Err d → (a : Result Answer Refused) → a ≡ Err d → ListedWithin f b t m a t m
  within_refused h a q = record { listed = file_refused true f b t r e h a q; lent_machines = sym (ap (λ (z : FileAnswer). machines_on z m) (read_refused _ r e h)) }
