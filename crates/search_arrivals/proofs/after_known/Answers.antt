-- `search_arrivals::after_known` meets its contract.
-- Assumes nothing.
use borrow.Author.Tests.{le-leb, lt-leb}
use Rattle.search_arrivals.proofs.after_known.Goals as goal

pub returns-then-n-left : goal.returns-then-n-left
returns-then-n-left c = rw (le-leb _ _ c.if-n-left.true)

pub returns : goal.returns
returns c = rw (lt-leb _ _ c.if-n-left.false)
