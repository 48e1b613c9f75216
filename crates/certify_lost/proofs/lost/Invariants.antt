-- `certify_lost::lost` meets its contract.
-- Assumes nothing.
use Rattle.certify_lost.proofs.Losing.{Passed}
use Rattle.certify_lost.proofs.lost.Given as goal

abbrev pub invariant-loop-at : goal.invariant-loop-at
invariant-loop-at l = Passed l.c l.s l.w l.rests l.set l.v l.far l.at
