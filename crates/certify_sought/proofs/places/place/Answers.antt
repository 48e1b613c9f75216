-- `certify_sought::places::place` meets its contract.
-- Assumes nothing.
use Rattle.certify_cares.proofs.Marks.{all_marked}
use Rattle.certify_sought.proofs.Placing.{elsewhere}
use Rattle.certify_sought.proofs.places.place.Goals as goal

pub returns-then-own : goal.returns-then-own
returns-then-own c = λ l low out. absurd (out (all_marked l low))

pub returns : goal.returns
returns c = elsewhere c.args.m _ _ _ _ _ c.requires c.locations.ensures c.sought_at.ensures c.either.ensures
