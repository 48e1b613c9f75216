-- The answer of a step for the code: the next machine, or the refusal.
-- Assumes nothing.
use Rattle.std.specs.Prelude.{Result, Ok, Err}
use Rattle.program.specs.declared.Refusal.{Refusal}
use Rattle.certify_runs.specs.Below.{Machine}
use Rattle.step.specs.Step.{Decision, rejected, accepted}

abbrev pub stepped : Decision → Result Machine Refusal
stepped (rejected r) = Err r
stepped (accepted x) = Ok x
