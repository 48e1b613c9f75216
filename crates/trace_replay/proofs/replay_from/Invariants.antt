-- `trace_replay::replay_from` meets its contract: the replay of the whole is that of the rest.
-- Assumes nothing.
use Rattle.trace_replay.proofs.Records.{Replaying}
use Rattle.trace_replay.proofs.replay_from.Given as goal

abbrev pub invariant-loop-n : goal.invariant-loop-n
invariant-loop-n l = Replaying l.p l.initial.x l.trace l.records l.n l.x
