-- The promises of a thread by their number: 256 · location + value.
-- Assumes nothing.
use Rattle.std.specs.Prelude.{ℕ, ◌/◌, ◌%◌}
use Rattle.step.specs.Step.{Step}
use Rattle.step.specs.Order.{promise}

-- ---- promises by their number: location, then value
abbrev pub key_promise : ℕ → ℕ → Step
key_promise i k = promise i (k / 256) (k % 256)
