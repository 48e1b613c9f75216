-- `encode_answers::put_replayed` meets its contract: the numbers are those of its answer.
-- Assumes nothing.
use Rattle.encode_answers.specs.Value.{replayed_bytes}
use Rattle.encode_answers.proofs.put_replayed.Goals as goal

pub returns : goal.returns
unfolding replayed_bytes
returns c =
    rw (c.replay_place.ensures, c.replay_index.ensures, c.replay_file.ensures, c.replay_refusal.ensures) at c.put_replay.ensures
