-- `capi::blyskota_outcomes` meets its contract.
-- Assumes nothing.
use Rattle.encode_answers.specs.Value.{listed_bytes}
use Rattle.capi.proofs.Called.{one, short_beside, answer_beside}
use Rattle.capi.specs.Calls.{outcomes_call}
use Rattle.capi.proofs.blyskota_outcomes.Goals as goal

pub returns-then-answer-lt16 : goal.returns-then-answer-lt16
unfolding outcomes_call
returns-then-answer-lt16 c = short_beside 16 _ _ _ _ c.if-answer-lt16.true

pub returns : goal.returns
unfolding outcomes_call
returns c =
    let e = c.outcomes.ensures in
    answer_beside 16 listed_bytes _ _ _ c.if-answer-lt16.false c.put_listed.ensures _ e.answer _ _ _ (one _ _ e.lent)
