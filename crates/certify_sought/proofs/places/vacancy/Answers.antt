-- `certify_sought::places::vacancy` meets its contract.
-- Assumes nothing.
use Rattle.certify_cares.proofs.Marks.{all_marked}
use Rattle.certify_sought.proofs.Placing.{vacant_out}
use Rattle.certify_sought.proofs.places.vacancy.Goals as goal

pub returns-then-not-apart : goal.returns-then-not-apart
returns-then-not-apart c = λ j low out. absurd (out (all_marked j low))

pub returns-then-marked : goal.returns-then-marked
returns-then-marked c = λ j low out. absurd (out (all_marked j low))

pub returns : goal.returns
returns c =
    let vacant = vacant_out c.args.m _ c.requires.0 c.locations-set.ensures in
    λ j low out. (c.if-not-apart.false, (vacant _ c.requires.1 (c.marked.ensures.1 c.if-marked.false), vacant j low out))
