-- What an answer of the listing means, over the list of all accepted sequences: what is demanded of it, the lent table, the trace to each outcome, and what it says of the question.
-- Assumes nothing.
use Rattle.std.specs.Prelude.{◌≡◌, Bool, true, false, List, [], ℕ, ◌-◌, ◌≤◌, length, get_or, Result, Ok, Err}
use Rattle.program.specs.declared.Program.{Program}
use Rattle.program.specs.File.{refused, program, read_file}
use Rattle.program.specs.declared.Refusal.{Refusal}
use Rattle.program.specs.declared.Refused.{Refused}
use Rattle.machine.specs.State.{fresh}
use Rattle.theory_sequences.specs.Sequences.{Among, Listed}
use Rattle.theory_sequences.specs.Answer.{allowed, forbidden}
use Rattle.theory_sequences.specs.Listing.{Entry, Listing, finished, ListingDemand}
use Rattle.step.specs.Step.{Step}
use Rattle.step.specs.Outcome.{outcome, smaller, satisfies}
use Rattle.trace_record.specs.Trace.{trace_bytes}
use Rattle.trace_replay.specs.Answers.{replay}
use Rattle.search_sequences.specs.OfProgram.{stepping, answer_to, ending_of}
use Rattle.search_outcomes.specs.Rows.{capacity}
use Rattle.outcomes.specs.Answers.{Answer, answer_of, table_of}

-- the trace of the sequence q, replayed on the file, is good and complete, and ends with the outcome o
pub record Reaches (f : List ℕ) (p : Program) (q : List Step) (o : List ℕ) : Type 0 where
  pub good : (replay f (trace_bytes q)).answer ≡ Ok tt
  pub steps : (replay f (trace_bytes q)).steps ≡ length q
  pub complete : (replay f (trace_bytes q)).complete ≡ true
  pub ends : outcome p (replay f (trace_bytes q)).machine ≡ o

-- the question of the program: what the search answers with budget b, read off the outcomes e of all n sequences
pub record Asks (p : Program) (b n : ℕ) (e : List (Entry (List ℕ))) : Type 0 where
  -- an outcome that satisfies the question is listed: allowed
  pub allowed_if : (x : Entry (List ℕ)) → Among x e → satisfies p x.outcome ≡ true → (k : ℕ) × (q : List Step) × (answer_to p b ≡ allowed k q)
  -- allowed: one that satisfies the question is listed with the place of the answer, and none with an earlier place
  pub allowed_then : (k : ℕ) (q : List Step) → answer_to p b ≡ allowed k q → (x : Entry (List ℕ)) × Among x e × (satisfies p x.outcome ≡ true) × (x.place ≡ k)
  pub allowed_first : (k : ℕ) (q : List Step) → answer_to p b ≡ allowed k q → (x : Entry (List ℕ)) → Among x e → satisfies p x.outcome ≡ true → k ≤ x.place
  -- none is listed that satisfies the question: forbidden, with the number of all sequences
  pub forbidden_if : ((x : Entry (List ℕ)) → Among x e → satisfies p x.outcome ≡ false) → answer_to p b ≡ forbidden n

-- the answer r with budget b to the program p of a file, and the table before and after
pub record Told (wide : Bool) (f : List ℕ) (p : Program) (b : ℕ) (t : List ℕ) (r : Answer) (after : List ℕ) : Type 0 where
  -- all accepted sequences of the program, in order, each once
  pub sequences : List (List Step)
  pub all : Listed (stepping p) fresh sequences
  -- the listing over that list: a sequence that ends complete has an outcome, every other has none
  pub listing : Listing (List ℕ)
  pub demand : ListingDemand smaller (ending_of p) sequences b listing
  -- it is what the code answers, and its outcomes are what stands in the table; where there is no room for all, the answer is 40 and the table is empty
  pub told : r ≡ answer_of (capacity wide t) listing
  pub lent : after ≡ table_of wide listing t
  -- the sequence at the place of an outcome replays to that outcome
  pub replays : (n : ℕ) (e : List (Entry (List ℕ))) → listing ≡ finished n e → (x : Entry (List ℕ)) → Among x e → Reaches f p (get_or sequences (x.place - 1) []) x.outcome
  -- the listing says what the search answers
  pub asks : (n : ℕ) (e : List (Entry (List ℕ))) → listing ≡ finished n e → Asks p b n e

-- THE MEANING of an answer to a file
pub data Means (wide : Bool) (f : List ℕ) (b : ℕ) (t : List ℕ) (r : Result Answer Refused) (after : List ℕ) : Type 0 where
  -- the file is refused: the refusal and its place, and nothing is written
  bad_file : (n : Refusal) (place : ℕ) → read_file f ≡ refused n place → r ≡ Err (record { refusal = n; place = place }) → after ≡ t → Means wide f b t r after
  -- the listing has run
  listed : (p : Program) → read_file f ≡ program p → (a : Answer) → r ≡ Ok a → Told wide f p b t a after → Means wide f b t r after
