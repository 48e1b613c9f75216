-- The machines that accepted steps reach from the fresh machine.
-- Assumes nothing.
use Rattle.std.specs.Prelude.{◌≡◌}
use Rattle.machine.specs.State.{fresh}
use Rattle.certify_runs.specs.Below.{Program, Machine}
use Rattle.step.specs.Step.{Step, accepted, step}

pub data Reached (p : Program) : Machine → Type 0 where
  start : Reached p fresh
  on : {x : Machine} (k : Step) (y : Machine) → Reached p x → step p x k ≡ accepted y → Reached p y
