-- What an answer of the search means, over the list of all accepted sequences: what is demanded of it, the trace that is found, and the lent area.
-- Assumes nothing.
use Rattle.std.specs.Prelude.{◌≡◌, true, List, ℕ, ◌*◌, ◌≤◌, ◌<◌, length, take, Result, Ok}
use Rattle.program.specs.declared.Program.{Program}
use Rattle.program.specs.Counts.{size}
use Rattle.program.specs.File.{refused, program, read_file}
use Rattle.program.specs.declared.Refusal.{Refusal}
use Rattle.program.specs.declared.Refusal.TheVariants.{ShortArea}
use Rattle.program.specs.declared.Refused.{Refused}
use Rattle.machine.specs.State.{fresh}
use Rattle.theory_sequences.specs.Sequences.{Among, Listed, wanted}
use Rattle.theory_sequences.specs.Answer as answers
use Rattle.theory_sequences.specs.Demand.{Demand}
use Rattle.step.specs.Step.{Step}
use Rattle.trace_replay.specs.Answers.{replay}
use Rattle.search_sequences.specs.OfProgram.{stepping}
use Rattle.search.specs.Answers.{Allowed, Answer, answer_of, area_of, refusal}

-- the first 6 bytes a step of the area are a trace of so many steps that is good and complete, and on which the question holds
pub record Replays (f : List ℕ) (r : Answer) (after : List ℕ) : Type 0 where
  pub good : (replay f (take (6 * r.steps) after)).answer ≡ Ok tt
  pub steps : (replay f (take (6 * r.steps) after)).steps ≡ r.steps
  pub complete : (replay f (take (6 * r.steps) after)).complete ≡ true
  pub holds : (replay f (take (6 * r.steps) after)).holds ≡ true

-- the answer r with budget b to the program p of a file, and the area before and after
pub record Judged (f : List ℕ) (p : Program) (b : ℕ) (area : List ℕ) (r : Answer) (after : List ℕ) : Type 0 where
  -- all accepted sequences of the program, in order, each once
  pub sequences : List (List Step)
  pub all : Listed (stepping p) fresh sequences
  -- none has more steps than the program has instructions and stores together
  pub short : (q : List Step) → Among q sequences → length q ≤ size p
  -- the answer over that list: wanted is a sequence that ends complete, with the asked outcome
  pub answer : answers.Answer Step
  pub demand : Demand (wanted (stepping p) fresh) sequences b answer
  -- it is what the code answers, and its trace is what stands in the area
  pub told : r ≡ answer_of answer
  pub lent : after ≡ area_of answer area
  -- a trace that is found replays to the outcome asked about
  pub replays : r.verdict ≡ Allowed → Replays f r after

-- THE MEANING of an answer to a file
pub data Means (f : List ℕ) (b : ℕ) (area : List ℕ) (r : Result Answer Refused) (after : List ℕ) : Type 0 where
  -- the file is refused: the refusal and its place, and nothing is written
  bad_file : (n : Refusal) (place : ℕ) → read_file f ≡ refused n place → r ≡ refusal n place → after ≡ area → Means f b area r after
  -- the area is shorter than 480 bytes: 30, and nothing is written
  short_area : (p : Program) → read_file f ≡ program p → length area < 480 → r ≡ refusal ShortArea 0 → after ≡ area → Means f b area r after
  -- the search has run
  searched : (p : Program) → read_file f ≡ program p → 480 ≤ length area → (a : Answer) → r ≡ Ok a → Judged f p b area a after → Means f b area r after
