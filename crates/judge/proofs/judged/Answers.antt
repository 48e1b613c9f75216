-- `judge::judged` meets its contract: what is read of the input has the answer of the whole.
-- Assumes nothing.
use Rattle.std.proofs.Common.{rules}
use Rattle.judge.proofs.Room.{steps_fit}
use Rattle.judge.proofs.Whole.{whole_input}
use Rattle.judge.proofs.judged.Goals as goal

-- the steps that the search says are those of the trace in the lent area
pub returns-clause-trace : goal.returns-clause-trace
returns-clause-trace g c = steps_fit c.search_within.ensures.searched

pub returns-clause-whole : goal.returns-clause-whole
returns-clause-whole g c = whole_input _ _ c.in_ok-n.n c.read_full.new.buffer (search rules) c.in_ok-n.ensures.bound c.in_ok-n.ensures.bytes c.in_ok-n.ensures.end c.search_within.ensures.searched
