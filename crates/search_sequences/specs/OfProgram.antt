-- The accepted sequences of a program in the order of the search, the answer with a budget, and the listing of all outcomes.
-- Assumes nothing.
use Rattle.std.specs.Prelude.{cond, List, ℕ}
use Rattle.std.proofs.Math.Option.{Option, none, some}
use Rattle.program.specs.declared.Program.{Program}
use Rattle.program.specs.Counts.{size}
use Rattle.machine.specs.declared.Machine.{Machine}
use Rattle.machine.specs.State.{fresh}
use Rattle.step.specs.Step.{Step, step, taken}
use Rattle.step.specs.Order.{Less, every_step}
use Rattle.step.specs.Outcome.{complete, asked, outcome, smaller}
use Rattle.theory_sequences.specs.Stepping.{Stepping}
use Rattle.theory_sequences.specs.Sequences.{run, upto, wanted}
use Rattle.theory_sequences.specs.Answer.{Answer, answer}
use Rattle.theory_sequences.specs.Listing.{Listing, listing}

-- the machine of a program, as the sequences see it
abbrev pub stepping : Program → Stepping
stepping p = record {
  State = Machine;
  Step = Step;
  next = λ x k. taken (step p x k);
  steps = every_step;
  Less = Less;
  asked = λ x. asked p x;
}

-- THE ACCEPTED SEQUENCES OF A PROGRAM, in order; none has more steps than the program has instructions and stores together
unfoldable pub sequences_of : Program → List (List Step)
sequences_of p = upto (stepping p) (size p) fresh

-- THE ANSWER with budget b
unfoldable pub answer_to : Program → ℕ → Answer Step
answer_to p b = answer (wanted (stepping p) fresh) (sequences_of p) b

-- the outcome that a sequence of the program ends with: none unless it is complete
unfoldable pub ending_of : Program → List Step → Option (List ℕ)
ending_of p q = elim (run (stepping p) fresh q) [ none ↦ none | some x ↦ cond (complete p x) (some (outcome p x)) none ]

-- THE LISTING with budget b: all outcomes, each once, smallest first, with the place of the first sequence that reaches it
unfoldable pub listing_to : Program → ℕ → Listing (List ℕ)
listing_to p b = listing smaller (ending_of p) (sequences_of p) b
