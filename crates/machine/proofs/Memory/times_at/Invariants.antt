-- `machine::Memory::times_at` meets its contract. The loop's invariant: the set has the messages to l after time t, each moved down
-- by t. The measure is t.
-- Assumes nothing.
use Rattle.machine.proofs.TimeSets.{Gathered}
use Rattle.machine.proofs.Memory.times_at.Given as goal

abbrev pub invariant-loop-t : goal.invariant-loop-t
invariant-loop-t l = Gathered (record { count = l.initial.t; messages = l.messages }) l.l l.t l.set

abbrev pub decreases-loop-t : goal.decreases-loop-t
decreases-loop-t l = l.t
