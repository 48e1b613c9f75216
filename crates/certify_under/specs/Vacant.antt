-- Locations that no message is to.
-- Assumes nothing.
use Rattle.std.specs.Prelude.{◌≡◌, ℕ, ◌≤◌, ◌<◌}
use Rattle.machine.specs.State.{message_at}
use Rattle.certify_runs.specs.Below.{Memory}

-- no message of the memory is to l
abbrev pub Vacant : Memory → ℕ → Type 0
Vacant m l = (t : ℕ) → 0 < t → t ≤ m.count → (message_at m t).location ≡ l → ⊥
