-- A machine that takes steps: all that a search through its sequences asks of it.
-- Assumes nothing.
use Rattle.std.specs.Prelude.{Bool, List}
use Rattle.std.proofs.Math.Option.{Option}

pub record Stepping : Type 1 where
  pub State : Type 0
  pub Step : Type 0
  -- the state after a step, if the step is accepted
  pub next : State → Step → Option State
  -- the steps that are tried, in the order of the search
  pub steps : List Step
  -- the order of steps
  pub Less : Step → Step → Type 0
  -- complete, with the asked outcome
  pub asked : State → Bool
