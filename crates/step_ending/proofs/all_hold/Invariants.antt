-- `step_ending::all_hold` meets its contract: the loop has come to condition k, and those before it hold.
-- Assumes nothing.
use Prim.Native.Nat.{◌-◌}
use Rattle.step_ending.proofs.Asking.{Holding}
use Rattle.step_ending.proofs.all_hold.Given as goal

abbrev pub invariant-loop-k : goal.invariant-loop-k
invariant-loop-k l = Holding l.question l.x l.n l.k

abbrev pub decreases-loop-k : goal.decreases-loop-k
decreases-loop-k l = l.n - l.k
