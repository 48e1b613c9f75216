-- `capi::blyskota_replay` meets its contract.
-- Assumes nothing.
use native.Mathlib.Omega.{arith}
use Rattle.encode_answers.specs.Value.{replayed_bytes}
use Rattle.capi.proofs.Called.{short, answer_of_file}
use Rattle.capi.specs.Calls.{replay_call}
use Rattle.capi.proofs.blyskota_replay.Goals as goal

pub returns-then-answer-lt357 : goal.returns-then-answer-lt357
unfolding replay_call
returns-then-answer-lt357 c = short 357 _ _ (omega arith)

pub returns : goal.returns
unfolding replay_call
returns c = answer_of_file 357 replayed_bytes _ _ _ c.if-answer-lt357.false c.put_replayed.ensures _ c.replay.ensures
