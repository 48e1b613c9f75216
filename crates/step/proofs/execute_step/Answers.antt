-- `step::execute_step` meets its contract.
-- Assumes nothing.
use Rattle.step.proofs.Stepping.{execute_end}
use Rattle.step.proofs.execute_step.Goals as goal

pub returns-then-c-n : goal.returns-then-c-n
returns-then-c-n c = execute_end _ _ _ _ _ c.if-c-n.true

pub execute_at-requires : goal.execute_at-requires
execute_at-requires c = (c.requires, c.instr_at.ensures)

pub returns : goal.returns
returns c = c.execute_at.ensures
