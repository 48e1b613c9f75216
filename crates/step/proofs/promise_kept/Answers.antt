-- `step::promise_kept` meets its contract.
-- Assumes nothing.
use Rattle.step.proofs.Stepping.{promise_keeps}
use Rattle.step.proofs.promise_kept.Goals as goal

pub returns : goal.returns
returns c = rw c.promised.ensures (promise_keeps _ _ _ _ _ c.requires.0 c.requires.1.0)
