-- `certify::checked::certify` meets its contract: the refusals in order, then the first certifying run.
-- Assumes nothing.
use mathlib.Core.Path.{ap, ◌∙◌}
use Rattle.std.specs.Prelude.{Ok}
use Rattle.certify_runs.proofs.Ready.{formed, of_four, ready_here}
use Rattle.certify.proofs.Asked.{certify_20, certify_21, certify_shown}
use Rattle.certify.proofs.checked.certify.Goals as goal

pub returns-then-not-both_formed : goal.returns-then-not-both_formed
returns-then-not-both_formed c = certify_20 _ _ _ _ c.both_formed.ensures (c.if-not-both_formed.true)

pub returns-then-p-i : goal.returns-then-p-i
returns-then-p-i c = certify_21 _ _ _ _ c.both_formed.ensures (c.if-not-both_formed.false) c.if-p-i.true

pub code_of-requires : goal.code_of-requires
code_of-requires c = of_four _ _ (formed _ _ _ c.both_formed.ensures (c.if-not-both_formed.false)) _ c.if-p-i.false

pub thread_of-requires : goal.thread_of-requires
thread_of-requires c = of_four _ _ (formed _ _ _ c.both_formed.ensures (c.if-not-both_formed.false)) _ c.if-p-i.false

pub show-requires : goal.show-requires
show-requires c =
    rw (c.thread_of.ensures, c.code_of.ensures)
    (ready_here _ _ (formed _ _ _ c.both_formed.ensures (c.if-not-both_formed.false)) _ c.if-p-i.false)

pub returns : goal.returns
returns c =
    ap Ok (rw (c.thread_of.ensures, c.code_of.ensures) at c.show.ensures)
    ∙ certify_shown _ _ _ _ c.both_formed.ensures (c.if-not-both_formed.false) c.if-p-i.false
