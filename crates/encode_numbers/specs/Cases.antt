-- The numbers that the cases of each answer stand for; 0 where a case has none.
-- Assumes nothing.
use Rattle.std.specs.Prelude.{ℕ, Option, Some, None, Result, Ok, Err}
use Rattle.program.specs.declared.Refusal.{Refusal}
use Rattle.program.specs.declared.Refused.{Refused}
use Rattle.program.specs.declared.Refusal.TheVariants.{ManyOutcomes}
use Rattle.program.specs.Refusals.{number}
use Rattle.trace_replay.specs.declared.ReplayRefusal.{ReplayRefusal}
use Rattle.trace_replay.specs.declared.ReplayRefusal.TheVariants as whose
use Rattle.search.specs.declared.Verdict.{Verdict}
use Rattle.search.specs.declared.Verdict.TheVariants.{Allowed, Forbidden, NotFinished}
use Rattle.search.specs.declared.Answer.{Answer}
use Rattle.outcomes.specs.declared.Verdict.{Verdict as Listing}
use Rattle.outcomes.specs.declared.Verdict.TheVariants.{Finished as Listed, TooMany, NotFinished as NotListed}
use Rattle.outcomes.specs.declared.Answer.{Answer as Listing_answer}

-- ---- a refusal at a place, of whatever answer
-- the refusal number
abbrev pub refused_number : {A : Type 0} → Result A Refused → ℕ
refused_number (Ok x) = 0
refused_number (Err e) = number e.refusal

-- the place of the refused byte
abbrev pub refused_place : {A : Type 0} → Result A Refused → ℕ
refused_place (Ok x) = 0
refused_place (Err e) = e.place

-- ---- a refusal without a place, of whatever answer
-- the refusal number
abbrev pub refusal_number : {A : Type 0} → Result A Refusal → ℕ
refusal_number (Ok x) = 0
refusal_number (Err r) = number r

-- ---- certify
-- whether the thread is certified
abbrev pub certified_byte : {A : Type 0} → Result (Option A) Refusal → ℕ
certified_byte (Ok (Some x)) = 1
certified_byte (Ok None) = 0
certified_byte (Err r) = 0

-- ---- replay
-- the number of the refusal, of whichever file
abbrev pub replay_refusal : Result Unit ReplayRefusal → ℕ
replay_refusal (Ok good) = 0
replay_refusal (Err (whose.Program e)) = number e.refusal
replay_refusal (Err (whose.Trace e index)) = number e.refusal

-- the file that is refused: 1 the program, 2 the trace
abbrev pub replay_file : Result Unit ReplayRefusal → ℕ
replay_file (Ok good) = 0
replay_file (Err (whose.Program e)) = 1
replay_file (Err (whose.Trace e index)) = 2

-- the index of the refused record of the trace
abbrev pub replay_index : Result Unit ReplayRefusal → ℕ
replay_index (Ok good) = 0
replay_index (Err (whose.Program e)) = 0
replay_index (Err (whose.Trace e index)) = index

-- the place of the refusal in its file
abbrev pub replay_place : Result Unit ReplayRefusal → ℕ
replay_place (Ok good) = 0
replay_place (Err (whose.Program e)) = e.place
replay_place (Err (whose.Trace e index)) = e.place

-- ---- search
-- 1 allowed, 2 forbidden, 3 not finished
abbrev pub verdict_number : Verdict → ℕ
verdict_number Allowed = 1
verdict_number Forbidden = 2
verdict_number NotFinished = 3

-- and 0 refused
abbrev pub verdict_byte : Result Answer Refused → ℕ
verdict_byte (Ok a) = verdict_number a.verdict
verdict_byte (Err e) = 0

-- how many steps the trace has
abbrev pub search_steps : Result Answer Refused → ℕ
search_steps (Ok a) = a.steps
search_steps (Err e) = 0

-- the count
abbrev pub search_count : Result Answer Refused → ℕ
search_count (Ok a) = a.count
search_count (Err e) = 0

-- ---- outcomes
-- 1 finished, 3 not finished, 0 refused: too many is refusal 40
abbrev pub listing_number : Listing → ℕ
listing_number Listed = 1
listing_number TooMany = 0
listing_number NotListed = 3

abbrev pub listing_byte : Result Listing_answer Refused → ℕ
listing_byte (Ok a) = listing_number a.verdict
listing_byte (Err e) = 0

-- the number of the refusal
abbrev pub room_refusal : Listing → ℕ
room_refusal Listed = 0
room_refusal TooMany = number ManyOutcomes
room_refusal NotListed = 0

abbrev pub listing_refusal : Result Listing_answer Refused → ℕ
listing_refusal (Ok a) = room_refusal a.verdict
listing_refusal (Err e) = number e.refusal

-- the count
abbrev pub listing_count : Result Listing_answer Refused → ℕ
listing_count (Ok a) = a.count
listing_count (Err e) = 0

-- how many outcomes there are
abbrev pub outcomes_number : Result Listing_answer Refused → ℕ
outcomes_number (Ok a) = a.number
outcomes_number (Err e) = 0
