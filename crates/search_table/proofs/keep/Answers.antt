-- `search_table::keep` meets its contract: the machine, then the count.
-- Assumes nothing.
use native.Mathlib.Omega.{arith}
use Rattle.encode_bytes.proofs.Putting.{put_then}
use Rattle.encode_machine.proofs.Lengths.{machine_length}
use Rattle.search_table.specs.Table.{slot_with}
use Rattle.search_table.proofs.keep.Goals as goal

pub returns : goal.returns
unfolding slot_with
returns c = put_then _ _ _ _ _ c.put_machine.ensures c.put_u64.ensures (omega (arith, machine_length c.args.x)) (omega arith)
