-- `step_ending::last_value` meets its contract: no message after time t is at l.
-- Assumes nothing.
use native.Mathlib.Omega.{arith}
use Rattle.step_ending.proofs.Asking.{older_all, older_hit, older_more, older_none}
use Rattle.step_ending.proofs.last_value.Goals as goal

pub loop-t-init : goal.loop-t-init
loop-t-init c = older_all

pub message_at-w-requires : goal.message_at-w-requires
message_at-w-requires c = let k = c.loop-t.invariant.known in (c.loop-t-test.true, omega (arith, c.requires))

pub returns-then-w-l : goal.returns-then-w-l
returns-then-w-l c = older_hit _ c.loop-t.invariant c.loop-t-test.true c.message_at-w.ensures c.if-w-l.true

pub loop-t-preserved : goal.loop-t-preserved
loop-t-preserved c = older_more _ c.loop-t.invariant c.loop-t-test.true c.message_at-w.ensures c.if-w-l.false

pub returns : goal.returns
returns c = older_none _ c.loop-t.invariant c.loop-t-test.false
