-- A run of the machine that the sequences see, step by step.
-- Assumes nothing.
use mathlib.Core.Path.{◌≡◌, subst}
use mathlib.Core.List.{List, [], ◌∷◌}
use mathlib.Core.Option.{some, some-injective}
use Rattle.program.specs.declared.Program.{Program}
use Rattle.machine.specs.declared.Machine.{Machine}
use Rattle.theory_sequences.specs.Sequences.{run}
use Rattle.theory_sequences.proofs.Listed.{first_step}
use Rattle.step.specs.Step.{Step, step}
use Rattle.trace_replay.specs.InTurn.{InTurn, no_step, a_step}
use Rattle.search_sequences.specs.OfProgram.{stepping}
use Rattle.search_sequences.proofs.Machine.{taken_accepted}

-- a run of the search's machine is steps accepted in turn
pub run_in_turn : (p : Program) (q : List Step) (x y : Machine) → run (stepping p) x q ≡ some y → InTurn p x q y
unfolding run
run_in_turn p [] x y h = subst (InTurn p x []) (some-injective _ _ h) no_step
run_in_turn p (k ∷ q) x y h =
    let i = first_step (stepping p) x y k q h in
    a_step k i.0 (taken_accepted (step p x k) i.0 i.1) (run_in_turn p q i.0 y i.2)
