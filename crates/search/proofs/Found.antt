-- The trace of an allowed answer replays: it is good and complete, and the question holds.
-- Assumes nothing.
use mathlib.Core.Path.{◌≡◌, refl, sym, subst, ◌∙◌}
use mathlib.Core.Bool.{true, false}
use mathlib.Core.List.{List}
use mathlib.Core.Option.{Option, none, some}
use Prim.Native.Nat.{ℕ, ◌≤◌}
use lib.Dec.{T}
use lib.ListN.{length}
use borrow.Author.Tests.{eqb-false}
use Rattle.program.specs.declared.Program.{Program}
use Rattle.program.specs.Counts.{size}
use Rattle.program.specs.File.{program, read_file}
use Rattle.program.proofs.Tests.{is_true, and_left}
use Rattle.machine.specs.declared.Machine.{Machine}
use Rattle.machine.specs.State.{fresh}
use Rattle.theory_sequences.specs.Sequences.{run, wanted}
use Rattle.theory_sequences.specs.Answer.{allowed}
use Rattle.step.specs.Step.{Step}
use Rattle.step.specs.Outcome.{complete, question_holds, asked}
use Rattle.trace_record.specs.Trace.{trace_bytes}
use Rattle.trace_replay.specs.Replay.{ended}
use Rattle.trace_replay.specs.Answers.{replayed, replay}
use Rattle.trace_replay.proofs.Good.{in_turn_replayed, in_turn_holds}
use Rattle.search_sequences.specs.OfProgram.{stepping, sequences_of, answer_to}
use Rattle.search_sequences.proofs.InTurn.{run_in_turn}
use Rattle.search_sequences.proofs.Meaning.{bound, listed, demand_3}

-- a wanted sequence leads to a machine that is complete, with the asked outcome
wanted_run : (p : Program) (q : List Step) → wanted (stepping p) fresh q ≡ true → (y : Machine) × (run (stepping p) fresh q ≡ some y) × (asked p y ≡ true)
unfolding wanted
wanted_run p q h = go (run (stepping p) fresh q) refl h
  where
    go : (o : Option Machine) → run (stepping p) fresh q ≡ o → elim o [ none ↦ false | some y ↦ asked p y ] ≡ true
        → (y : Machine) × (run (stepping p) fresh q ≡ some y) × (asked p y ≡ true)
    go none e h = absurd (eqb-false 0 1 refl cc)
    go (some y) e h = (y, e, h)

-- what is asked is asked of a complete machine
asked_complete : (p : Program) (y : Machine) → asked p y ≡ true → complete p y ≡ true
unfolding asked
asked_complete p y h = is_true _ (and_left (complete p y) (question_holds p y) (subst T (sym h) tt))

-- the trace of an allowed answer has no more steps than the program has instructions and stores together
pub found_short : (p : Program) (b n : ℕ) (q : List Step) → answer_to p b ≡ allowed n q → length q ≤ size p
found_short p b n q e =
    let w = wanted_run p q ((demand_3 p b (sequences_of p) (listed p)).allowed_then n q e).is_wanted in
    bound p q (w.0, w.1)

-- FOUND REPLAYS: the trace of an allowed answer is good, and it ends complete, with the asked outcome
pub found_replays : (f : List ℕ) (p : Program) → read_file f ≡ program p → (b n : ℕ) (q : List Step) → answer_to p b ≡ allowed n q
    → (y : Machine) × (replay f (trace_bytes q) ≡ replayed p (ended (length q) y)) × (complete p y ≡ true) × ((replay f (trace_bytes q)).holds ≡ true)
found_replays f p good b n q e =
    let w = wanted_run p q ((demand_3 p b (sequences_of p) (listed p)).allowed_then n q e).is_wanted in
    let t = run_in_turn p q fresh w.0 w.1 in
    (w.0, in_turn_replayed f p good t, asked_complete p w.0 w.2, in_turn_holds f p good t ∙ w.2)
