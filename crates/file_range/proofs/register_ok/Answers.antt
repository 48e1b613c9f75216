-- `file_range::register_ok` meets its contract.
-- Assumes nothing.
use borrow.Author.Tests.{le-leb, lt-leb}
use Rattle.program.specs.WellFormed.{register_test}
use Rattle.file_range.proofs.register_ok.Goals as goal

pub returns-then-op-le1 : goal.returns-then-op-le1
unfolding register_test
returns-then-op-le1 c = rw (le-leb _ _ c.if-op-le1.true)

pub returns-else-op-le1 : goal.returns-else-op-le1
unfolding register_test
returns-else-op-le1 c = rw (lt-leb _ _ c.if-op-le1.false)
