-- The listing of a program: it is what is demanded over the list of all accepted sequences, and nothing else is; the sequence at the place of an
-- outcome replays to that outcome; and the listing says what the search answers.
-- Assumes nothing.
use mathlib.Core.Path.{◌≡◌, refl, ap, ◌∙◌}
use mathlib.Core.Bool.{Bool, true, false, cond, ◌&&◌}
use mathlib.Core.List.{List, []}
use mathlib.Core.Option.{Option, none, some, some-injective}
use Prim.Native.Nat.{ℕ, ◌-◌, ◌≤◌}
use lib.Dec.{T}
use lib.ListN.{length, get_or}
use borrow.Author.Tests.{eqb-false}
use Rattle.program.specs.declared.Program.{Program}
use Rattle.program.specs.WellFormed.{program_test}
use Rattle.program.specs.File.{program, read_file}
use Rattle.machine.specs.declared.Machine.{Machine}
use Rattle.machine.specs.State.{fresh}
use Rattle.theory_sequences.specs.Sequences.{Among, Listed, run, wanted}
use Rattle.theory_sequences.specs.Listing.{Entry, Listing, finished, Lists, ListingDemand}
use Rattle.theory_sequences.proofs.Listing as listings
use Rattle.step.specs.Step.{Step}
use Rattle.step.specs.Outcome.{complete, question_holds, asked, outcome, smaller, satisfies}
use Rattle.trace_record.specs.Trace.{trace_bytes}
use Rattle.trace_replay.specs.declared.Replayed.{Replayed}
use Rattle.trace_replay.specs.Replay.{ended}
use Rattle.trace_replay.specs.Answers.{replayed, replay}
use Rattle.trace_replay.proofs.Good.{in_turn_replayed}
use Rattle.search_sequences.specs.OfProgram.{stepping, sequences_of, answer_to, ending_of, listing_to}
use Rattle.search_sequences.proofs.InTurn.{run_in_turn}
use Rattle.search_sequences.proofs.Meaning as sequences
use Rattle.search_outcomes.proofs.Order.{smaller_same, smaller_order}
use Rattle.outcomes.specs.Meaning.{Reaches, Asks}
use Rattle.outcomes.proofs.Question.{satisfies_law}

-- ---- what is demanded
-- outcomes are in a total order
pub total_order : listings.TotalOrder smaller
total_order = record { weak = smaller_order; same = smaller_same }

-- THE DEMAND on the listing, over any list of all accepted sequences in order
pub listing_demand : (p : Program) (b : ℕ) (l : List (List Step)) → Listed (stepping p) fresh l → ListingDemand smaller (ending_of p) l b (listing_to p b)
unfolding listing_to
listing_demand p b l h = rw (sequences.only p l h) (listings.meets_listing smaller (ending_of p) total_order (sequences_of p) b)

-- ONE LISTING: nothing else meets the demand
pub one_listing : (p : Program) (b : ℕ) (r : Listing (List ℕ)) → ListingDemand smaller (ending_of p) (sequences_of p) b r → r ≡ listing_to p b
one_listing p b r d = listings.one_listing smaller (ending_of p) total_order (sequences_of p) b r (listing_to p b) d (listing_demand p b (sequences_of p) (sequences.listed p))

-- a larger budget never changes a finished listing
pub more_budget_finished : (p : Program) (b c n : ℕ) (e : List (Entry (List ℕ))) → b ≤ c → listing_to p b ≡ finished n e → listing_to p c ≡ finished n e
unfolding listing_to
more_budget_finished p b c n e h = listings.more_budget_listing smaller (ending_of p) (sequences_of p) b c n e h

-- ---- the outcome of a sequence
-- a sequence with an outcome leads to a complete machine that has it
pub ending_run : (p : Program) (q : List Step) (o : List ℕ) → ending_of p q ≡ some o → (y : Machine) × (run (stepping p) fresh q ≡ some y) × (complete p y ≡ true) × (outcome p y ≡ o)
unfolding ending_of
ending_run p q o h = at_end_lem (run (stepping p) fresh q) refl h
  where
    at_machine : (y : Machine) → run (stepping p) fresh q ≡ some y → (b : Bool) → complete p y ≡ b → cond b (some (outcome p y)) none ≡ some o
        → (y : Machine) × (run (stepping p) fresh q ≡ some y) × (complete p y ≡ true) × (outcome p y ≡ o)
    at_machine y e true c g = (y, e, c, some-injective _ _ g)
    at_machine y e false c g = absurd (eqb-false 0 1 refl cc)

    at_end_lem : (r : Option Machine) → run (stepping p) fresh q ≡ r → elim r [ none ↦ none | some x ↦ cond (complete p x) (some (outcome p x)) none ] ≡ some o
        → (y : Machine) × (run (stepping p) fresh q ≡ some y) × (complete p y ≡ true) × (outcome p y ≡ o)
    at_end_lem none e g = absurd (eqb-false 0 1 refl cc)
    at_end_lem (some y) e g = at_machine y e (complete p y) refl g

-- a sequence is wanted exactly if it has an outcome, and one that satisfies the question
pub wanted_ending : (p : Program) → T (program_test p) → (q : List Step) → wanted (stepping p) fresh q ≡ elim (ending_of p q) [ none ↦ false | some o ↦ satisfies p o ]
unfolding wanted ending_of asked
wanted_ending p formed q = at_end_lem (run (stepping p) fresh q) (ending_of p q) refl
  where
    at_machine : (y : Machine) (b : Bool) (o : Option (List ℕ)) → o ≡ cond b (some (outcome p y)) none → (b && question_holds p y) ≡ elim o [ none ↦ false | some o ↦ satisfies p o ]
    at_machine y true o h = rw h (satisfies_law p formed y)
    at_machine y false o h = rw h

    at_end_lem : (r : Option Machine) (o : Option (List ℕ)) → o ≡ elim r [ none ↦ none | some y ↦ cond (complete p y) (some (outcome p y)) none ]
        → ◌≡◌ {A = Bool} (elim r [ none ↦ false | some y ↦ asked p y ]) (elim o [ none ↦ false | some o ↦ satisfies p o ])
    at_end_lem none o h = rw h
    at_end_lem (some y) o h = at_machine y (complete p y) o h

-- ---- a finished listing
module _ (p : Program) (b n : ℕ) (e : List (Entry (List ℕ))) (done : listing_to p b ≡ finished n e) where
  finished_lists : (n ≡ length (sequences_of p)) × (length (sequences_of p) ≤ b) × Lists smaller (ending_of p) (sequences_of p) e
  finished_lists = (listing_demand p b (sequences_of p) (sequences.listed p)).finished_then n e done

  -- FIRST REACHED: the sequence at the place of an outcome leads to a complete machine that has it, and replays to that machine
  pub reached_first : (f : List ℕ) → read_file f ≡ program p → (x : Entry (List ℕ)) → Among x e
      → let q = get_or (sequences_of p) (x.place - 1) [] in
      (y : Machine) × (run (stepping p) fresh q ≡ some y) × (complete p y ≡ true) × (outcome p y ≡ x.outcome) × (replay f (trace_bytes q) ≡ replayed p (ended (length q) y))
  reached_first f good x i =
      let q : List Step = get_or (sequences_of p) (x.place - 1) [] in
      let y = ending_run p q x.outcome (finished_lists.2.sound x i).reached in
      (y.0, y.1, y.2, y.3, in_turn_replayed f p good (run_in_turn p q fresh y.0 y.1))

  -- the same, as the meaning of an answer has it
  pub first_reaches : (f : List ℕ) → read_file f ≡ program p → (x : Entry (List ℕ)) → Among x e → Reaches f p (get_or (sequences_of p) (x.place - 1) []) x.outcome
  first_reaches f good x i =
      let y = reached_first f good x i in
      record {
        good = ap (λ (r : Replayed). r.answer) y.4;
        steps = ap (λ (r : Replayed). r.steps) y.4;
        complete = ap (λ (r : Replayed). r.complete) y.4 ∙ y.2;
        ends = ap (λ (r : Replayed). outcome p r.machine) y.4 ∙ y.3;
      }

  -- THE QUESTION: the listing says what the search answers
  pub listing_asks : T (program_test p) → Asks p b n e
  unfolding answer_to
  listing_asks formed =
      let l : List (List Step) = sequences_of p in
      let agree : (q : List Step) → Among q l → wanted (stepping p) fresh q ≡ elim (ending_of p q) [ none ↦ false | some o ↦ satisfies p o ] = λ q i. wanted_ending p formed q in
      let lists = finished_lists.2 in
      let fits = finished_lists.1 in
      record {
        allowed_if = listings.listed_allowed smaller (ending_of p) (wanted (stepping p) fresh) (satisfies p) l agree e lists b fits;
        allowed_then = listings.allowed_listed smaller (ending_of p) (wanted (stepping p) fresh) (satisfies p) l agree e lists b fits;
        allowed_first = listings.allowed_least smaller (ending_of p) (wanted (stepping p) fresh) (satisfies p) l agree e lists b fits;
        forbidden_if = λ h. listings.listed_forbidden smaller (ending_of p) (wanted (stepping p) fresh) (satisfies p) l agree e lists b fits h ∙ rw finished_lists.0;
      }
