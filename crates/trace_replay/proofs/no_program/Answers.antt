-- `trace_replay::no_program` meets its contract.
-- Assumes nothing.
use Rattle.trace_replay.proofs.no_program.Goals as goal

pub returns : goal.returns
returns c = λ t. rw (c.refused_with.ensures, c.fresh.ensures, c.default.ensures)
