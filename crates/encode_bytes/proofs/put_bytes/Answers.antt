-- `encode_bytes::put_bytes` meets its contract: the part is copied over.
-- Assumes nothing.
use native.Mathlib.Omega.{arith}
use Rattle.encode_bytes.proofs.Putting.{put_part}
use Rattle.encode_bytes.proofs.put_bytes.Goals as goal

pub returns : goal.returns
returns c = put_part _ _ _ _ _ c.copy_from_slice.ensures.after (omega arith)
