-- `step::memory_after` meets its contract.
-- Assumes nothing.
use Rattle.step.proofs.Stepping.{remembers_same, remembers_none, remembers_one}
use Rattle.step.proofs.memory_after.Goals as goal

pub returns-then-k-eq0 : goal.returns-then-k-eq0
returns-then-k-eq0 c = remembers_same _ _ c.if-k-eq0.true

pub returns-then-m-ge16 : goal.returns-then-m-ge16
returns-then-m-ge16 c = remembers_none _ _ c.if-k-eq0.false c.if-m-ge16.true

pub returns : goal.returns
returns c = remembers_one _ _ c.if-k-eq0.false _ c.append.ensures
