-- `program::Instruction::one_store` meets its contract.
-- Assumes nothing.
use borrow.Author.Tests.{eq-eqb, ne_eqb}
use Rattle.program.specs.Counts.{one_store}
use Rattle.program.proofs.Instruction.one_store.Goals as goal

pub returns-then-self-eq2 : goal.returns-then-self-eq2
unfolding one_store
returns-then-self-eq2 c = rw (eq-eqb _ _ c.if-self-eq2.true)

pub returns-else-self-eq2 : goal.returns-else-self-eq2
unfolding one_store
returns-else-self-eq2 c = rw (ne_eqb _ _ c.if-self-eq2.false)
