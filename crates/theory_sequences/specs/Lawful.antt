-- What the theorems ask of a machine that takes steps.
-- Assumes nothing.
use Rattle.std.specs.Prelude.{◌≡◌, ℕ, ◌<◌}
use Rattle.std.proofs.Math.Option.{some}
use Rattle.theory_sequences.specs.Stepping.{Stepping}
use Rattle.theory_sequences.specs.Sequences.{Among, Ascending}

pub record Lawful (M : Stepping) : Type 0 where
  -- of two steps at most one is before the other
  pub less_asym : (x y : M.Step) → M.Less x y → M.Less y x → ⊥
  -- the steps are tried in their order
  pub rising : Ascending M.Less M.steps
  -- every accepted step is tried
  pub tried : (s : M.State) (k : M.Step) (t : M.State) → M.next s k ≡ some t → Among k M.steps
  -- a number that falls with every accepted step
  pub bound : M.State → ℕ
  pub falls : (s : M.State) (k : M.Step) (t : M.State) → M.next s k ≡ some t → bound t < bound s
