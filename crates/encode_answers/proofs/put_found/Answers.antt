-- `encode_answers::put_found` meets its contract: the numbers are those of its answer.
-- Assumes nothing.
use Rattle.encode_answers.specs.Value.{found_bytes}
use Rattle.encode_answers.proofs.put_found.Goals as goal

pub returns : goal.returns
unfolding found_bytes
returns c =
    rw (c.refused_place.ensures, c.search_steps.ensures, c.refused_number.ensures, c.verdict_byte.ensures) at c.put_front.ensures
