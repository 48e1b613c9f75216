-- `rules::plain::branch_by` meets its contract.
-- Assumes nothing.
use Rattle.std.proofs.Common.{arith}
use Rattle.rules.proofs.plain.branch_by.Goals as goal

pub returns-then-equal : goal.returns-then-equal
returns-then-equal c = (rw c.if-equal.true, omega arith)

pub returns-else-equal : goal.returns-else-equal
returns-else-equal c = (rw c.if-equal.false, omega arith)
