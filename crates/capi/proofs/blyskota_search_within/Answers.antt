-- `capi::blyskota_search_within` meets its contract.
-- Assumes nothing.
use Rattle.search.proofs.Promise.{few_steps}
use Rattle.encode_answers.specs.Value.{within_bytes}
use Rattle.capi.proofs.Called.{few, two, short_beside, answer_beside}
use Rattle.capi.specs.Calls.{within_call}
use Rattle.capi.proofs.blyskota_search_within.Goals as goal

pub returns-then-answer-lt16 : goal.returns-then-answer-lt16
unfolding within_call
returns-then-answer-lt16 c = short_beside 16 _ _ _ _ c.if-answer-lt16.true

pub put_within-requires : goal.put_within-requires
put_within-requires c = (c.if-answer-lt16.false, few _ (few_steps _ _ _ _ _ c.search_within.ensures.searched))

pub returns : goal.returns
unfolding within_call
returns c =
    let e = c.search_within.ensures in
    answer_beside 16 within_bytes _ _ _ c.if-answer-lt16.false c.put_within.ensures _ e.searched.answer _ _ _ (two _ _ _ _ e.searched.lent e.lent_table)
