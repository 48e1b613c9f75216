-- Steps accepted in turn, and their trace.
-- Assumes nothing.
use Rattle.std.specs.Prelude.{◌≡◌, List, [], ◌∷◌, ℕ, length}
use Rattle.program.specs.declared.Program.{Program}
use Rattle.machine.specs.declared.Machine.{Machine}
use Rattle.step.specs.Step.{Step, accepted, step}
use Rattle.trace_record.specs.Trace.{trace_bytes}

-- the steps q, each accepted in turn, lead from x to y
pub data InTurn (p : Program) : Machine → List Step → Machine → Type 0 where
  no_step : {x : Machine} → InTurn p x [] x
  a_step : {x : Machine} {q : List Step} {y : Machine} (k : Step) (z : Machine) → step p x k ≡ accepted z → InTurn p z q y → InTurn p x (k ∷ q) y

-- t is the trace of n steps that, accepted in turn, lead from x to y
pub record TraceOf (p : Program) (x : Machine) (t : List ℕ) (n : ℕ) (y : Machine) : Type 0 where
  pub steps : List Step
  pub bytes : t ≡ trace_bytes steps
  pub count : n ≡ length steps
  pub in_turn : InTurn p x steps y
