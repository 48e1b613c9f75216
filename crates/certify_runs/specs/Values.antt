-- A run as a value.
-- Assumes nothing.
use Rattle.std.specs.Prelude.{List, [], ◌∷◌, ℕ, zero, suc, length}
use Rattle.certify_runs.specs.Certify.{RunStep}
pub use Rattle.certify_runs.specs.declared.Run.{Run}

-- an entry past the run's steps
abbrev pub no_step : RunStep
no_step = record { kind = 0; time = 0 }

-- n entries: the steps, and then entries past them
unfoldable pub entries : ℕ → List RunStep → List RunStep
entries zero l = []
entries (suc n) [] = no_step ∷ entries n []
entries (suc n) (a ∷ l) = a ∷ entries n l

-- the steps with 16 entries, and how many they are
abbrev pub run_of : List RunStep → Run
run_of l = record { steps = entries 16 l; count = length l }
