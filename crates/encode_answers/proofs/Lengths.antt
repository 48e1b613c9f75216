-- The answers have the lengths that the calls test for.
-- Assumes nothing.
use mathlib.Core.Path.{◌≡◌, refl, ◌∙◌}
use mathlib.Core.List.{◌++◌}
use Prim.Native.Nat.{ℕ}
use native.Mathlib.Omega.{arith}
use lib.ListN.{length, length-append}
use Rattle.std.specs.Prelude.{Option, Result, Ok, Err}
use Rattle.program.specs.declared.Program.{Program}
use Rattle.program.specs.declared.Refusal.{Refusal}
use Rattle.program.specs.declared.Refused.{Refused}
use Rattle.machine.specs.declared.Machine.{Machine}
use Rattle.certify_runs.specs.declared.Run.{Run}
use Rattle.trace_replay.specs.declared.Replayed.{Replayed}
use Rattle.search.specs.declared.Answer.{Answer}
use Rattle.outcomes.specs.declared.Answer.{Answer as Listed}
use Rattle.encode_numbers.specs.Cases.{search_count, listing_count, outcomes_number}
use Rattle.encode_program.proofs.Lengths.{program_length}
use Rattle.encode_machine.proofs.Lengths.{machine_length}
use Rattle.encode_bytes.specs.Numbers.{word32, word64}
use Rattle.encode_bytes.proofs.Entries.{joined_length}
use Rattle.encode_answers.specs.declared.ReplayNumbers.{ReplayNumbers}
use Rattle.encode_answers.specs.Value.{file_bytes, program_read, read_bytes, machine_after_bytes, stepped_bytes, entries_bytes, shown_bytes, run_shown, certified_bytes, replay_bytes, replayed_bytes, front_bytes, found_bytes, searched_bytes, within_bytes, listing_bytes, listed_bytes, listed_within_bytes}

pub file_length : (refusal place : ℕ) (p : Program) → length (file_bytes refusal place p) ≡ 495
unfolding file_bytes
file_length refusal place p = omega (arith, program_length p)

pub read_length : (r : Result Program Refused) → length (read_bytes r) ≡ 495
unfolding read_bytes
read_length r = file_length _ _ (program_read r)

pub machine_after_length : (refusal : ℕ) (x : Machine) → length (machine_after_bytes refusal x) ≡ 342
unfolding machine_after_bytes
machine_after_length refusal x = omega (arith, machine_length x)

pub stepped_length : (x : Machine) (r : Result Machine Refusal) → length (stepped_bytes x r) ≡ 342
stepped_length x (Ok y) = machine_after_length _ y
stepped_length x (Err r) = machine_after_length _ x

entries_length : (r : Run) → length (entries_bytes r) ≡ 32
entries_length r = joined_length _ 2 (λ k. refl) 0 16

pub shown_length : (refusal certified : ℕ) (r : Run) → length (shown_bytes refusal certified r) ≡ 36
unfolding shown_bytes
shown_length refusal certified r = omega (arith, entries_length r)

pub certified_length : (r : Result (Option Run) Refusal) → length (certified_bytes r) ≡ 36
certified_length r = shown_length _ _ (run_shown r)

pub replay_length : (n : ReplayNumbers) (x : Machine) → length (replay_bytes n x) ≡ 357
unfolding replay_bytes
replay_length n x = omega (arith, machine_length x)

pub replayed_length : (r : Replayed) → length (replayed_bytes r) ≡ 357
unfolding replayed_bytes
replayed_length r = replay_length _ r.machine

pub front_length : (verdict refusal steps place : ℕ) → length (front_bytes verdict refusal steps place) ≡ 8
unfolding front_bytes
front_length verdict refusal steps place = refl

pub found_length : (r : Result Answer Refused) → length (found_bytes r) ≡ 8
unfolding found_bytes
found_length r = front_length _ _ _ _

pub searched_length : (r : Result Answer Refused) → length (searched_bytes r) ≡ 12
unfolding searched_bytes
searched_length r = length-append (found_bytes r) (word32 (search_count r)) ∙ (let l = found_length r in omega arith)

pub within_length : (r : Result Answer Refused) → length (within_bytes r) ≡ 16
unfolding within_bytes
within_length r = length-append (found_bytes r) (word64 (search_count r)) ∙ (let l = found_length r in omega arith)

pub listing_length : (r : Result Listed Refused) → length (listing_bytes r) ≡ 8
unfolding listing_bytes
listing_length r = front_length _ _ _ _

pub listed_length : (r : Result Listed Refused) → length (listed_bytes r) ≡ 16
unfolding listed_bytes
listed_length r = length-append (listing_bytes r) (word32 (listing_count r) ++ word32 (outcomes_number r)) ∙ (let l = listing_length r in omega arith)

pub listed_within_length : (r : Result Listed Refused) → length (listed_within_bytes r) ≡ 24
unfolding listed_within_bytes
listed_within_length r = length-append (listing_bytes r) (word32 (outcomes_number r) ++ (word32 0 ++ word64 (listing_count r))) ∙ (let l = listing_length r in omega arith)
