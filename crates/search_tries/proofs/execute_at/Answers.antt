-- `search_tries::execute_at` meets its contract.
-- Assumes nothing.
use Rattle.machine.proofs.Cases.{ruled_done}
use Rattle.step.proofs.Stepping.{reach_small, ready_executed, execute_done, execute_refused}
use Rattle.search_tries.proofs.execute_at.Goals as goal

pub execute-requires : goal.execute-requires
execute-requires c = (reach_small _ _ _ c.requires.0 _ _ c.requires.1, c.requires.0.room)

pub settled-requires : goal.settled-requires
settled-requires c =
    let o = c.requires in
    let e = c.execute.ensures in
    let d = c.in-Ok.is in
    (ready_executed _ _ _ o.0 _ _ _ e d, o.1, ruled_done _ _ e d, o.2)

pub returns-in-Ok : goal.returns-in-Ok
returns-in-Ok c = (execute_done _ _ _ _ _ _ c.requires.1 _ c.execute.ensures c.in-Ok.is _ c.settled.ensures.0, c.settled.ensures.1)

pub returns-in-Err : goal.returns-in-Err
returns-in-Err c = (execute_refused _ _ _ _ _ _ c.requires.1 _ c.execute.ensures c.in-Err.is, c.requires.2)
