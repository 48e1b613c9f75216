-- `search_outcomes::put_last` meets its contract: the loop writes one message after the other.
-- Assumes nothing.
use Rattle.search_outcomes.proofs.LastValues.{Lasting}
use Rattle.search_outcomes.proofs.put_last.Given as goal

abbrev pub invariant-loop-w : goal.invariant-loop-w
invariant-loop-w l = Lasting l.initial.o l.fn.m l.w-index l.o
