-- `trace_replay::finished` meets its contract.
-- Assumes nothing.
use Rattle.trace_replay.proofs.finished.Goals as goal

pub returns : goal.returns
returns c = rw (c.asked.ensures, c.complete.ensures)
