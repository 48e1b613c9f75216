-- `encode_answers::put_listed_within` meets its contract: part after part.
-- Assumes nothing.
use native.Mathlib.Omega.{arith}
use Rattle.encode_answers.specs.Value.{listed_within_bytes}
use Rattle.encode_bytes.proofs.Putting.{put_then}
use Rattle.encode_answers.proofs.Lengths.{listing_length}
use Rattle.encode_answers.proofs.put_listed_within.Goals as goal

pub returns : goal.returns
unfolding listed_within_bytes
returns c =
    put_then _ _ _ _ _ c.put_listing.ensures
    (put_then _ _ _ _ _ (rw c.outcomes_number.ensures at c.put_u32.ensures)
    (put_then _ _ _ _ _ c.put_u32-2.ensures
    (rw c.listing_count.ensures at c.put_u64.ensures)
    (omega arith) (omega arith))
    (omega arith) (omega arith))
    (let l = listing_length c.args.r in omega arith) (omega arith)
