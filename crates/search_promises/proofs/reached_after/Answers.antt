-- `search_promises::reached_after` meets its contract.
-- Assumes nothing.
use Rattle.certify_runs.proofs.Ready.{ready_promised, with_room}
use Rattle.search_promises.specs.Explored.{hole}
use Rattle.search_promises.proofs.reached_after.Goals as goal

pub with-requires : goal.with-requires
with-requires c = rw c.append-n.ensures (with_room _ _ _ c.requires.0 c.requires.1)

pub two_reached-requires : goal.two_reached-requires
two_reached-requires c = rw (c.with_promises-q.ensures, c.with.ensures, c.append-n.ensures) (ready_promised _ _ _ c.requires.0 c.requires.1 hole)

pub returns : goal.returns
returns c = rw (c.with_promises-q.ensures, c.with.ensures, c.append-n.ensures) at c.two_reached.ensures
