-- `encode_answers::put_listing` meets its contract: the numbers are those of its answer.
-- Assumes nothing.
use Rattle.encode_answers.specs.Value.{listing_bytes}
use Rattle.encode_answers.proofs.put_listing.Goals as goal

pub returns : goal.returns
unfolding listing_bytes
returns c = rw (c.refused_place.ensures, c.listing_refusal.ensures, c.listing_byte.ensures) at c.put_front.ensures
