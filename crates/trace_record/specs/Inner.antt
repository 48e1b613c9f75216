-- What the readers of a trace are promised: the mark and the step of the record at a place.
-- Assumes nothing.
use Rattle.std.specs.Prelude.{Bool, ◌&&◌, List, ℕ, ◌+◌, eqb}
use Rattle.program.specs.File.{byte_at}
use Rattle.step.specs.Step.{Step}

-- the mark stands at a place
abbrev pub marked_at : List ℕ → ℕ → Bool
marked_at t at = eqb (byte_at t at) 0x53 && eqb (byte_at t (at + 1)) 0x54

-- the step of the record at a place
abbrev pub step_at : List ℕ → ℕ → Step
step_at t at = record { kind = byte_at t (at + 2); thread = byte_at t (at + 3); a = byte_at t (at + 4); b = byte_at t (at + 5) }
