-- `step::execute_at` meets its contract.
-- Assumes nothing.
use mathlib.Core.Path.{sym, subst}
use Rattle.program.proofs.PassedOn.{passed_on}
use Rattle.step.specs.Inner.{Executes}
use Rattle.step.proofs.Stepping.{reach_small, ready_executed, execute_done, execute_refused}
use Rattle.step.proofs.execute_at.Goals as goal

pub execute-requires : goal.execute-requires
execute-requires c = (reach_small _ _ _ c.requires.0 _ _ c.requires.1, c.requires.0.room)

pub returns-in_err-y : goal.returns-in_err-y
returns-in_err-y c = subst (Executes _ _ _ _ _) (sym (passed_on _ _ c.from_residual.ensures.1)) (execute_refused _ _ _ _ _ _ c.requires.1 _ c.execute.ensures c.in_err-y.was)

pub settle-requires : goal.settle-requires
settle-requires c = ready_executed _ _ _ c.requires.0 _ _ _ c.execute.ensures c.in_ok-y.was

pub returns : goal.returns
returns c = execute_done _ _ _ _ _ _ c.requires.1 _ c.execute.ensures c.in_ok-y.was _ c.settle.ensures
