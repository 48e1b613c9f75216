-- `encode_machine::put_machine` meets its contract: the memory's count and messages, then the threads.
-- Assumes nothing.
use native.Mathlib.Omega.{arith}
use Rattle.machine.specs.State.{no_message, fresh_thread}
use Rattle.encode_bytes.proofs.Putting.{put_then}
use Rattle.encode_machine.specs.Value.{memory_bytes, machine_bytes}
use Rattle.encode_machine.proofs.Lengths.{memory_length}
use Rattle.encode_machine.proofs.put_machine.Goals as goal

pub returns : goal.returns
unfolding machine_bytes memory_bytes
returns c =
    put_then _ _ (memory_bytes c.args.x.memory) _ _ (put_then _ _ _ _ _ c.put_bytes.ensures (c.put_each.ensures no_message) (omega arith) (omega arith))
    (c.put_each-2.ensures fresh_thread)
    (omega (arith, memory_length c.args.x.memory)) (omega arith)
