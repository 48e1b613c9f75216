-- `search_promises::nothing_met` meets its contract.
-- Assumes nothing.
use Rattle.search_promises.proofs.nothing_met.Goals as goal

pub returns-then-one : goal.returns-then-one
returns-then-one c = rw c.if-one.true

pub returns-else-one : goal.returns-else-one
returns-else-one c = rw c.if-one.false
