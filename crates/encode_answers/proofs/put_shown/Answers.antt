-- `encode_answers::put_shown` meets its contract: four bytes, then the run's entries.
-- Assumes nothing.
use native.Mathlib.Omega.{arith}
use Rattle.encode_answers.specs.Value.{shown_bytes}
use Rattle.encode_bytes.proofs.Putting.{put_then}
use Rattle.encode_answers.proofs.put_shown.Goals as goal

pub returns : goal.returns
unfolding shown_bytes
returns c = put_then _ _ _ _ _ c.put_bytes.ensures c.put_entries.ensures (omega arith) (omega arith)
