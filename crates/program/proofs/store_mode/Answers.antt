-- `program::store_mode` meets its contract: one case for each arm.
-- Assumes nothing.
use borrow.Author.Tests.{eq-eqb, ne_eqb}
use Rattle.program.specs.Program.{store_mode}
use Rattle.program.proofs.store_mode.Goals as goal

pub returns-then-m-eq0 : goal.returns-then-m-eq0
unfolding store_mode
returns-then-m-eq0 c = rw (eq-eqb _ _ c.if-m-eq0.true)

pub returns-else-m-eq0 : goal.returns-else-m-eq0
unfolding store_mode
returns-else-m-eq0 c = rw (ne_eqb _ _ c.if-m-eq0.false)
