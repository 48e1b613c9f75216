-- `search_outcomes::outcome` meets its contract: the last values of all locations, then the registers.
-- Assumes nothing.
use mathlib.Core.Path.{refl}
use Rattle.machine.specs.State.{fresh_thread}
use Rattle.search_outcomes.proofs.Ending.{ending_written}
use Rattle.search_outcomes.proofs.outcome.Goals as goal

pub returns : goal.returns
returns c = ending_written _ refl c.put_last.ensures (c.put_each.ensures fresh_thread)
