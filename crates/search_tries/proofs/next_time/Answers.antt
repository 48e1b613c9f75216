-- `search_tries::next_time` meets its contract.
-- Assumes nothing.
use Rattle.search_tries.proofs.Worth.{at_zero_now, after_zero, after_time}
use Rattle.search_tries.proofs.next_time.Goals as goal

pub returns-then-t : goal.returns-then-t
returns-then-t c = rw c.if-from-eq0.true (at_zero_now c.if-t.true)

pub returns-then-from-eq0 : goal.returns-then-from-eq0
returns-then-from-eq0 c = rw c.if-from-eq0.true (after_zero c.if-t.false _ c.after.ensures)

pub returns : goal.returns
returns c = after_time _ _ c.if-from-eq0.false c.after-2.ensures
