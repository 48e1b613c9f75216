-- `certify_trail::run_of` meets its contract: the loop takes one step after the other, the first one from the end of the bytes.
-- Assumes nothing.
use Rattle.certify_trail.proofs.Read.{Reading}
use Rattle.certify_trail.proofs.run_of.Given as goal

abbrev pub invariant-loop-n : goal.invariant-loop-n
invariant-loop-n l = Reading l.of l.count l.n l.steps
