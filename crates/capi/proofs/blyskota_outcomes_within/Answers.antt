-- `capi::blyskota_outcomes_within` meets its contract.
-- Assumes nothing.
use Rattle.encode_answers.specs.Value.{listed_within_bytes}
use Rattle.capi.proofs.Called.{two, short_beside, answer_beside}
use Rattle.capi.specs.Calls.{outcomes_within_call}
use Rattle.capi.proofs.blyskota_outcomes_within.Goals as goal

pub returns-then-answer-lt24 : goal.returns-then-answer-lt24
unfolding outcomes_within_call
returns-then-answer-lt24 c = short_beside 24 _ _ _ _ c.if-answer-lt24.true

pub returns : goal.returns
unfolding outcomes_within_call
returns c =
    let e = c.outcomes_within.ensures in
    answer_beside 24 listed_within_bytes _ _ _ c.if-answer-lt24.false c.put_listed_within.ensures _ e.listed.answer _ _ _ (two _ _ _ _ e.listed.lent e.lent_machines)
