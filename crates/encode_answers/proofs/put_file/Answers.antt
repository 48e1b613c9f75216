-- `encode_answers::put_file` meets its contract: part after part.
-- Assumes nothing.
use native.Mathlib.Omega.{arith}
use Rattle.encode_answers.specs.Value.{file_bytes}
use Rattle.encode_bytes.proofs.Putting.{put_then}
use Rattle.encode_answers.proofs.put_file.Goals as goal

pub returns : goal.returns
unfolding file_bytes
returns c =
    put_then _ _ _ _ _ c.put_bytes.ensures
    (put_then _ _ _ _ _ c.put_u32.ensures c.put_program.ensures (omega arith) (omega arith))
    (omega arith) (omega arith)
