-- `encode_answers::put_searched` meets its contract: part after part.
-- Assumes nothing.
use native.Mathlib.Omega.{arith}
use Rattle.encode_answers.specs.Value.{searched_bytes}
use Rattle.encode_bytes.proofs.Putting.{put_then}
use Rattle.encode_answers.proofs.Lengths.{found_length}
use Rattle.encode_answers.proofs.put_searched.Goals as goal

pub returns : goal.returns
unfolding searched_bytes
returns c = put_then _ _ _ _ _ c.put_found.ensures (rw c.search_count.ensures at c.put_u32.ensures) (let l = found_length c.args.r in omega arith) (omega arith)
