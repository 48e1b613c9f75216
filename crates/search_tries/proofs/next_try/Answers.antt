-- `search_tries::next_try` meets its contract.
-- Assumes nothing.
use Rattle.search_tries.proofs.Worth.{past_times, at_a_time, after_times}
use native.Mathlib.Omega.{arith}
use Rattle.search_tries.proofs.next_try.Goals as goal

pub returns-then-from-ge17 : goal.returns-then-from-ge17
returns-then-from-ge17 c = past_times _ _ _ _ _ c.if-from-ge17.true c.next_promises.ensures

pub returns-then-k-lt17 : goal.returns-then-k-lt17
returns-then-k-lt17 c = at_a_time _ _ _ _ c.requires.1 _ _ (omega (arith, c.if-from-ge17.false)) c.next_time-k.ensures c.if-k-lt17.true

pub returns : goal.returns
returns c = after_times _ _ _ _ c.requires.1 _ _ (omega (arith, c.if-from-ge17.false)) c.next_time-k.ensures c.if-k-lt17.false _ c.next_promises-2.ensures
