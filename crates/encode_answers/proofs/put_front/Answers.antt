-- `encode_answers::put_front` meets its contract: four bytes, then the place.
-- Assumes nothing.
use native.Mathlib.Omega.{arith}
use Rattle.encode_answers.specs.Value.{front_bytes}
use Rattle.encode_bytes.proofs.Putting.{put_then}
use Rattle.encode_answers.proofs.put_front.Goals as goal

pub returns : goal.returns
unfolding front_bytes
returns c = put_then _ _ _ _ _ c.put_bytes.ensures c.put_u32.ensures (omega arith) (omega arith)
