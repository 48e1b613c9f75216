-- `step::promise_step` meets its contract.
-- Assumes nothing.
use Rattle.certify_runs.proofs.Ready.{ready_promised}
use Rattle.step.proofs.Stepping.{promise_23, promise_24, promise_settles}
use mathlib.Core.Path.{refl}
use Rattle.step.proofs.promise_step.Goals as goal

pub returns-then-l-gt15 : goal.returns-then-l-gt15
returns-then-l-gt15 c = promise_23 _ _ _ _ _ _ c.if-l-gt15.true

pub returns-then-m-ge16 : goal.returns-then-m-ge16
returns-then-m-ge16 c = promise_24 _ _ _ _ _ _ c.if-l-gt15.false c.if-m-ge16.true

pub promised-q-requires : goal.promised-q-requires
promised-q-requires c = (c.if-m-ge16.false, c.requires.promises_in)

pub settle-requires : goal.settle-requires
settle-requires c = rw (c.append-after.ensures, c.promised-q.ensures) (ready_promised _ _ _ c.requires c.if-m-ge16.false _)

pub returns : goal.returns
returns c =
    promise_settles _ _ _ _ _ _ c.settle.result c.if-l-gt15.false c.if-m-ge16.false _ refl (rw (c.append-after.ensures, c.promised-q.ensures) at c.settle.ensures)
