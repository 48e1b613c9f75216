-- `search_promises::next_reached` meets its contract.
-- Assumes nothing.
use borrow.Author.Tests.{le-leb, lt-leb}
use Rattle.certify_sought.proofs.Numbers.{only_least, two_least, none_met}
use Rattle.search_promises.proofs.next_reached.Goals as goal

pub returns-then-one : goal.returns-then-one
returns-then-one c = only_least _ _ _ _ (rw (c.nothing_met.ensures, le-leb _ _ c.if-one.true) at c.reached_after-met.ensures)

pub returns-then-met-le4096 : goal.returns-then-met-le4096
returns-then-met-le4096 c = two_least _ _ _ _ (rw (c.nothing_met.ensures, lt-leb _ _ c.if-one.false) at c.reached_after-met.ensures) c.if-met-le4096.true

pub returns : goal.returns
returns c = none_met _ _ _ _ (rw (c.nothing_met.ensures, lt-leb _ _ c.if-one.false) at c.reached_after-met.ensures) c.if-met-le4096.false
