-- `encode_answers::put_machine_after` meets its contract: the refusal, then the machine.
-- Assumes nothing.
use native.Mathlib.Omega.{arith}
use Rattle.encode_answers.specs.Value.{machine_after_bytes}
use Rattle.encode_bytes.proofs.Putting.{put_then}
use Rattle.encode_answers.proofs.put_machine_after.Goals as goal

pub returns : goal.returns
unfolding machine_after_bytes
returns c = put_then _ _ _ _ _ c.put_bytes.ensures c.put_machine.ensures (omega arith) (omega arith)
