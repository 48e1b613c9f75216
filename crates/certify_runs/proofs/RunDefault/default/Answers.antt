-- `certify_runs::RunDefault::default` meets its contract: entries that are 0.
-- Assumes nothing.
use lib.ListN.{replicate}
use Rattle.certify_runs.specs.Values.{entries}
use Rattle.certify_runs.proofs.RunDefault.default.Goals as goal

pub returns : goal.returns
unfolding entries
returns c = let e = c.default.ensures in λ i. record { steps = replicate 16 (record { kind = e.0 i; time = e.1 i }); count = 0 }
