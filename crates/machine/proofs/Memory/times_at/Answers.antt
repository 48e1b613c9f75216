-- `machine::Memory::times_at` meets its contract. The loop's invariant: the set has the messages to l after time t, each moved down
-- by t. The measure is t.
-- Assumes nothing.
use native.Mathlib.Omega.{arith}
use Rattle.machine.proofs.TimeSets.{gathered_none, gathered_step, gathered_room, gathered_all}
use Rattle.machine.proofs.Memory.times_at.Goals as goal

pub loop-t-init : goal.loop-t-init
loop-t-init c = gathered_none _ _

pub overflow_mul-set : goal.overflow_mul-set
overflow_mul-set c = omega (arith, gathered_room _ _ _ _ c.requires c.loop-t-test.true c.loop-t.invariant)

pub overflow_add-set : goal.overflow_add-set
overflow_add-set c = omega (arith, gathered_room _ _ _ _ c.requires c.loop-t-test.true c.loop-t.invariant)

pub loop-t-preserved : goal.loop-t-preserved
loop-t-preserved c = gathered_step _ _ _ _ c.loop-t-test.true c.loop-t.invariant

pub returns : goal.returns
returns c = gathered_all _ _ _ _ c.loop-t-test.false c.loop-t.invariant
