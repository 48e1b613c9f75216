-- `encode_answers::put_replay` meets its contract: part after part.
-- Assumes nothing.
use native.Mathlib.Omega.{arith}
use Rattle.encode_answers.specs.Value.{replay_bytes}
use Rattle.encode_bytes.proofs.Putting.{put_then}
use Rattle.encode_answers.proofs.put_replay.Goals as goal

pub returns : goal.returns
unfolding replay_bytes
returns c =
    put_then _ _ _ _ _ (rw (c.yes_byte-2.ensures, c.yes_byte.ensures) at c.put_bytes.ensures)
    (put_then _ _ _ _ _ c.put_u32.ensures
    (put_then _ _ _ _ _ c.put_u32-2.ensures
    (put_then _ _ _ _ _ c.put_u32-3.ensures
    c.put_machine.ensures
    (omega arith) (omega arith))
    (omega arith) (omega arith))
    (omega arith) (omega arith))
    (omega arith) (omega arith)
