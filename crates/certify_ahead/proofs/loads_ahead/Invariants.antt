-- `certify_ahead::loads_ahead` meets its contract.
-- Assumes nothing.
use Rattle.certify_ahead.proofs.Loads.{NoneUpTo}
use Rattle.certify_ahead.proofs.loads_ahead.Given as goal

abbrev pub invariant-loop-k : goal.invariant-loop-k
invariant-loop-k l = NoneUpTo l.c l.n l.k
