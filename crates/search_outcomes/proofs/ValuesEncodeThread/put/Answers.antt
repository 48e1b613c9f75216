-- The values of a thread's registers, one byte each.
-- Assumes nothing.
use mathlib.Core.Path.{refl}
use Rattle.machine.specs.State.{fresh_register}
use Rattle.encode_bytes.proofs.Entries.{joined_length}
use Rattle.search_outcomes.proofs.ValuesEncodeThread.put.Goals as goal

pub returns : goal.returns
returns c = record { written = c.put_each.ensures fresh_register; wide = joined_length _ 1 (λ j. refl) 0 8 }
