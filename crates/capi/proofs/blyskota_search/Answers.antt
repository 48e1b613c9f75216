-- `capi::blyskota_search` meets its contract.
-- Assumes nothing.
use Rattle.search.proofs.Promise.{few_steps}
use Rattle.encode_answers.specs.Value.{searched_bytes}
use Rattle.capi.proofs.Called.{few, one, short_beside, answer_beside}
use Rattle.capi.specs.Calls.{search_call}
use Rattle.capi.proofs.blyskota_search.Goals as goal

pub returns-then-answer-lt12 : goal.returns-then-answer-lt12
unfolding search_call
returns-then-answer-lt12 c = short_beside 12 _ _ _ _ c.if-answer-lt12.true

pub put_searched-requires : goal.put_searched-requires
put_searched-requires c = (c.if-answer-lt12.false, few _ (few_steps _ _ _ _ _ c.search.ensures))

pub returns : goal.returns
unfolding search_call
returns c =
    let e = c.search.ensures in
    answer_beside 12 searched_bytes _ _ _ c.if-answer-lt12.false c.put_searched.ensures _ e.answer _ _ _ (one _ _ e.lent)
