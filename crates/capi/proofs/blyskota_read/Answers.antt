-- `capi::blyskota_read` meets its contract.
-- Assumes nothing.
use native.Mathlib.Omega.{arith}
use Rattle.encode_answers.specs.Value.{read_bytes}
use Rattle.capi.proofs.Called.{short, answer_of_file}
use Rattle.capi.specs.Calls.{read_call}
use Rattle.capi.proofs.blyskota_read.Goals as goal

pub returns-then-answer-lt495 : goal.returns-then-answer-lt495
unfolding read_call
returns-then-answer-lt495 c = short 495 _ _ (omega arith)

pub returns : goal.returns
unfolding read_call
returns c = answer_of_file 495 read_bytes _ _ _ c.if-answer-lt495.false c.put_read.ensures _ c.read.ensures
