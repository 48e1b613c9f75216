-- `machine::machines::fresh_thread` meets its contract.
-- Assumes nothing.
use lib.ListN.{replicate}
use Rattle.machine.specs.State.{fresh_thread}
use Rattle.machine.proofs.machines.fresh_thread.Goals as goal

pub returns : goal.returns
unfolding fresh_thread
returns c =
    let r = c.default.ensures in
    let f = c.default-2.ensures in
    let w = c.default-3.ensures in
    λ i. record {
      registers = replicate 8 (record { value = r.0 i; view = r.1 i });
      coherence = replicate 16 0;
      forward = replicate 16 (record { time = f.0 i; view = f.1 i });
      promises = 0;
      position = 0;
      views = record { rOld = w.0 i; wOld = w.1.0 i; rNew = w.1.1.0 i; wNew = w.1.1.1.0 i; cap = w.1.1.1.1.0 i; rel = w.1.1.1.1.1 i };
    }
