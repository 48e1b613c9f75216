-- `trace_replay::stopped` meets its contract.
-- Assumes nothing.
use Rattle.trace_replay.proofs.stopped.Goals as goal

pub returns : goal.returns
returns c = rw (c.refused_with.ensures, c.requires)
