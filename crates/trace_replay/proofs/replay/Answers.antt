-- `trace_replay::replay` meets its contract: the program file's answer first.
-- Assumes nothing.
use Rattle.trace_replay.proofs.Files.{good_formed, good_replay, refused_replay}
use Rattle.trace_replay.proofs.replay.Goals as goal

pub replay_from-requires : goal.replay_from-requires
replay_from-requires c = rw c.fresh.ensures (good_formed _ _ c.read.ensures c.in-Ok.is)

pub returns-in-Ok : goal.returns-in-Ok
returns-in-Ok c = good_replay _ _ c.read.ensures _ _ _ c.fresh.ensures c.replay_from.ensures c.in-Ok.is

pub returns-in-Err : goal.returns-in-Err
returns-in-Err c = refused_replay _ _ c.read.ensures _ _ c.no_program.ensures c.in-Err.is
