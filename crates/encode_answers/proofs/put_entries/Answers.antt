-- `encode_answers::put_entries` meets its contract: the entries of the array.
-- Assumes nothing.
use Rattle.certify_runs.specs.Values.{no_step}
use Rattle.encode_answers.proofs.put_entries.Goals as goal

pub returns : goal.returns
returns c = c.put_each.ensures no_step
