-- The bytes of each call's answer: over numbers, and of the answer's own type by these.
-- Assumes nothing.
use Rattle.std.specs.Prelude.{cond, List, [], ◌∷◌, ◌++◌, ℕ, get_or, Option, Some, None, Result, Ok, Err}
use Rattle.program.specs.declared.Program.{Program}
use Rattle.program.specs.declared.Refusal.{Refusal}
use Rattle.program.specs.declared.Refused.{Refused}
use Rattle.program.specs.Refusals.{number}
use Rattle.program.specs.Program.{no_program}
use Rattle.machine.specs.declared.Machine.{Machine}
use Rattle.certify_runs.specs.declared.RunStep.{RunStep}
use Rattle.certify_runs.specs.declared.Run.{Run}
use Rattle.certify_runs.specs.Values.{no_step, run_of}
use Rattle.trace_replay.specs.declared.Replayed.{Replayed}
use Rattle.search.specs.declared.Answer.{Answer}
use Rattle.outcomes.specs.declared.Answer.{Answer as Listed}
use Rattle.encode_bytes.specs.Lists.{joined}
use Rattle.encode_bytes.specs.Numbers.{word32, word64}
use Rattle.encode_numbers.specs.Cases.{refused_number, refused_place, refusal_number, certified_byte, replay_refusal, replay_file, replay_index, replay_place, verdict_byte, search_steps, search_count, listing_byte, listing_refusal, listing_count, outcomes_number}
use Rattle.encode_program.specs.Value.{program_bytes}
use Rattle.encode_machine.specs.Value.{machine_bytes}
use Rattle.encode_answers.specs.declared.ReplayNumbers.{ReplayNumbers}

-- ---- a program file: refusal (0 none), 3 zero bytes, place u32, the program value; 495 bytes
unfoldable pub file_bytes : ℕ → ℕ → Program → List ℕ
file_bytes refusal place p = (refusal ∷ 0 ∷ 0 ∷ 0 ∷ []) ++ (word32 place ++ program_bytes p)

-- ---- read: the program of all 0 where the file is refused
abbrev pub program_read : Result Program Refused → Program
program_read (Ok p) = p
program_read (Err e) = no_program

unfoldable pub read_bytes : Result Program Refused → List ℕ
read_bytes r = file_bytes (refused_number r) (refused_place r) (program_read r)

-- ---- a machine after a step: refusal (0 accepted), the machine value; 342 bytes
unfoldable pub machine_after_bytes : ℕ → Machine → List ℕ
machine_after_bytes refusal x = (refusal ∷ []) ++ machine_bytes x

-- ---- step of the machine x: as it came in where the step is refused
abbrev pub stepped_bytes : Machine → Result Machine Refusal → List ℕ
stepped_bytes x (Ok y) = machine_after_bytes 0 y
stepped_bytes x (Err r) = machine_after_bytes (number r) x

-- ---- certify: an entry of a run; 2 bytes
abbrev pub entry_bytes : RunStep → List ℕ
entry_bytes s = s.kind ∷ s.time ∷ []

-- the 16 entries; 32 bytes
abbrev pub entries_bytes : Run → List ℕ
entries_bytes r = joined (λ k. entry_bytes (get_or r.steps k no_step)) 0 16

-- refusal, certified (0 or 1), length of the run that shows it, 0, the entries; 36 bytes
unfoldable pub shown_bytes : ℕ → ℕ → Run → List ℕ
shown_bytes refusal certified run = (refusal ∷ certified ∷ run.count ∷ 0 ∷ []) ++ entries_bytes run

-- without steps where there is no run
abbrev pub run_shown : Result (Option Run) Refusal → Run
run_shown (Ok (Some run)) = run
run_shown (Ok None) = run_of []
run_shown (Err r) = run_of []

abbrev pub certified_bytes : Result (Option Run) Refusal → List ℕ
certified_bytes r = shown_bytes (refusal_number r) (certified_byte r) (run_shown r)

-- ---- a trace's replay: refusal, the file it is in (0 none, 1 program, 2 trace), complete, holds, steps u32, index u32, place u32, the machine value; 357 bytes
unfoldable pub replay_bytes : ReplayNumbers → Machine → List ℕ
replay_bytes n x =
    (n.refusal ∷ n.file ∷ cond n.complete 1 0 ∷ cond n.holds 1 0 ∷ [])
    ++ (word32 n.steps
    ++ (word32 n.index
    ++ (word32 n.place
    ++ machine_bytes x)))

-- the numbers of a replay
abbrev pub replay_numbers : Replayed → ReplayNumbers
replay_numbers r =
    record {
      refusal = replay_refusal r.answer;
      file = replay_file r.answer;
      complete = r.complete;
      holds = r.holds;
      steps = r.steps;
      index = replay_index r.answer;
      place = replay_place r.answer;
    }

-- and its machine
unfoldable pub replayed_bytes : Replayed → List ℕ
replayed_bytes r = replay_bytes (replay_numbers r) r.machine

-- ---- what the answers of searches and listings begin with: verdict, refusal, steps, 0, place u32; 8 bytes
unfoldable pub front_bytes : ℕ → ℕ → ℕ → ℕ → List ℕ
front_bytes verdict refusal steps place = (verdict ∷ refusal ∷ steps ∷ 0 ∷ []) ++ word32 place

-- ---- search: verdict (0 refused, 1 allowed, 2 forbidden, 3 not finished), refusal, steps, place
unfoldable pub found_bytes : Result Answer Refused → List ℕ
found_bytes r = front_bytes (verdict_byte r) (refused_number r) (search_steps r) (refused_place r)

-- and count u32; 12 bytes
unfoldable pub searched_bytes : Result Answer Refused → List ℕ
searched_bytes r = found_bytes r ++ word32 (search_count r)

-- ---- search within a table: the same with count u64; 16 bytes
unfoldable pub within_bytes : Result Answer Refused → List ℕ
within_bytes r = found_bytes r ++ word64 (search_count r)

-- ---- outcomes: verdict (0 refused, 1 finished, 3 not finished), refusal, no steps, place
unfoldable pub listing_bytes : Result Listed Refused → List ℕ
listing_bytes r = front_bytes (listing_byte r) (listing_refusal r) 0 (refused_place r)

-- and count u32, number of outcomes u32; 16 bytes
unfoldable pub listed_bytes : Result Listed Refused → List ℕ
listed_bytes r = listing_bytes r ++ (word32 (listing_count r) ++ word32 (outcomes_number r))

-- ---- outcomes within a table of machines: the same with number of outcomes u32, 4 zero bytes, count u64; 24 bytes
unfoldable pub listed_within_bytes : Result Listed Refused → List ℕ
listed_within_bytes r = listing_bytes r ++ (word32 (outcomes_number r) ++ (word32 0 ++ word64 (listing_count r)))
