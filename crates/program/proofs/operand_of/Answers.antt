-- `program::operand_of` meets its contract: one case for each arm.
-- Assumes nothing.
use borrow.Author.Tests.{eq-eqb, ne_eqb}
use Rattle.program.specs.Program.{operand}
use Rattle.program.proofs.operand_of.Goals as goal

pub returns-then-k-eq0 : goal.returns-then-k-eq0
unfolding operand
returns-then-k-eq0 c = rw (eq-eqb _ _ c.if-k-eq0.true)

pub returns-else-k-eq0 : goal.returns-else-k-eq0
unfolding operand
returns-else-k-eq0 c = rw (ne_eqb _ _ c.if-k-eq0.false)
