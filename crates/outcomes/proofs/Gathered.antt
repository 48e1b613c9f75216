-- The visit of all sequences of a program beside its listing: it goes on exactly if the budget suffices, and then the rows that it notes are the entries of the listing.
-- Assumes nothing.
use mathlib.Core.Path.{◌≡◌, refl, ap, subst, ◌∙◌}
use mathlib.Core.Bool.{Bool, true, false, cond}
use mathlib.Core.List.{List, []}
use mathlib.Core.Option.{Option, none, some}
use Prim.Native.Nat.{ℕ, suc, ◌+◌, ◌-◌, ◌≤◌, ◌<◌}
use native.Mathlib.Decide.{dec_lt}
use native.Mathlib.Omega.{arith}
use lib.ListN.{length}
use borrow.Author.Tests.{le-leb, lt-leb}
use Rattle.program.specs.declared.Program.{Program}
use Rattle.machine.specs.declared.Machine.{Machine}
use Rattle.machine.specs.State.{fresh}
use Rattle.theory_sequences.specs.Sequences.{run, upto}
use Rattle.theory_sequences.specs.Scan.{Scan, going, out, scan, done_at}
use Rattle.theory_sequences.specs.Listing.{Entry, entered, gathered, finished, unfinished, listing}
use Rattle.theory_sequences.proofs.Gathering.{with_ending, gathers, runs_out}
use Rattle.step.specs.Step.{Step}
use Rattle.step.specs.Outcome.{complete, outcome, smaller}
use Rattle.step.proofs.Bound.{potential_fresh}
use Rattle.search_sequences.specs.OfProgram.{stepping, sequences_of, ending_of, listing_to}
use Rattle.search_outcomes.specs.Table.{Notes, noted, fresh_sheet, entry_smaller}
use Rattle.search_outcomes.proofs.Holding.{Holds, holds_none, holds_noted}
use Rattle.search_arrivals.specs.declared.Aim.TheVariants.{Outcomes}
use Rattle.search_arrivals.specs.Visits.{acts, visiting}
use Rattle.search_arrivals.proofs.Acting.{outcome_length}

-- ---- the listing, by whether the budget suffices
-- the outcomes of all sequences
abbrev pub all_entries : Program → List (Entry (List ℕ))
all_entries p = gathered smaller (ending_of p) 0 (sequences_of p) []

pub listing_finished : (p : Program) (b : ℕ) → length (sequences_of p) ≤ b → listing_to p b ≡ finished (length (sequences_of p)) (all_entries p)
unfolding listing_to listing
listing_finished p b h = rw (le-leb (length (sequences_of p)) b h)

pub listing_unfinished : (p : Program) (b : ℕ) → b < length (sequences_of p) → listing_to p b ≡ unfinished b
unfolding listing_to listing
listing_unfinished p b h = rw (lt-leb (length (sequences_of p)) b h)

-- ---- the visit of a fresh machine, with the whole budget left and nothing noted
module _ (p : Program) (wide : Bool) (start : List ℕ) (b : ℕ) where
  -- one sequence: its outcome, if it is complete, is entered with its place
  noting : (q : List Step) (k c : ℕ) → k + suc c ≡ b → (e : List (Entry (List ℕ))) (n : Notes) → Holds wide start b e n
      → (m : Notes) × (done_at (stepping p) (acts p (Outcomes wide)) fresh q c n ≡ some m) × Holds wide start b (with_ending smaller (ending_of p) k q e) m
  unfolding done_at acts ending_of
  noting q k c s e n h = go (run (stepping p) fresh q)
    where
      with : Option (List ℕ) → List (Entry (List ℕ))
      with r = elim r [ none ↦ e | some o ↦ entered entry_smaller (record { outcome = o; place = suc k }) e ]

      at_machine : (x : Machine) (t : Bool) → (m : Notes) × (◌≡◌ {A = Option Notes} (some (cond t (noted wide (outcome p x) c n) n)) (some m)) × Holds wide start b (with (cond t (some (outcome p x)) none)) m
      at_machine x true =
          let place : b - c ≡ suc k = omega arith in (
            noted wide (outcome p x) c n,
            refl,
            subst (λ (j : ℕ). Holds wide start b (entered entry_smaller (record { outcome = outcome p x; place = j }) e) (noted wide (outcome p x) c n)) place
                (holds_noted h (outcome p x) c (outcome_length p x)),
          )
      at_machine x false = (n, refl, h)

      go : (o : Option Machine)
          → (m : Notes) × (◌≡◌ {A = Option Notes} (elim o [ none ↦ some n | some x ↦ some (cond (complete p x) (noted wide (outcome p x) c n) n) ]) (some m))
          × Holds wide start b (with (elim o [ none ↦ none | some x ↦ cond (complete p x) (some (outcome p x)) none ])) m
      go none = (n, refl, h)
      go (some x) = at_machine x (complete p x)

  through_all : visiting p (Outcomes wide) fresh b (start, fresh_sheet b) ≡ scan (done_at (stepping p) (acts p (Outcomes wide)) fresh) (sequences_of p) b (start, fresh_sheet b)
  unfolding visiting sequences_of
  through_all = ap (λ (m : ℕ). scan (done_at (stepping p) (acts p (Outcomes wide)) fresh) (upto (stepping p) m fresh) b (start, fresh_sheet b)) (potential_fresh p)

  -- how such a visit ends
  pub data Ends (o : Scan Step Notes) : Type 0 where
    -- the budget suffices: each sequence was paid, and the notes hold the outcomes of all
    went : (n : Notes) → o ≡ going (b - length (sequences_of p)) n → length (sequences_of p) ≤ b → Holds wide start b (all_entries p) n → Ends o
    -- it does not
    spent : (n : Notes) → o ≡ out n → b < length (sequences_of p) → Ends o

  pub visit_ends : Ends (visiting p (Outcomes wide) fresh b (start, fresh_sheet b))
  visit_ends =
      elim (dec_lt b (length (sequences_of p))) [
        | yes h ↦ let r = runs_out smaller (ending_of p) (Holds wide start b) b (done_at (stepping p) (acts p (Outcomes wide)) fresh) noting (sequences_of p) 0 b (omega arith) h [] (start, fresh_sheet b) (holds_none wide start b) in
            spent r.0 (through_all ∙ r.1) h
        | no h ↦
            let fits : length (sequences_of p) ≤ b = omega arith in
            let r = gathers smaller (ending_of p) (Holds wide start b) b (done_at (stepping p) (acts p (Outcomes wide)) fresh) noting (sequences_of p) 0 b (omega arith) fits [] (start, fresh_sheet b) (holds_none wide start b) in
            went r.0 (through_all ∙ r.1) fits r.2
      ]
