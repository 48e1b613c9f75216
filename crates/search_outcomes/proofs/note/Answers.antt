-- `search_outcomes::note` meets its contract.
-- Assumes nothing.
use mathlib.Core.Path.{ap, ◌∙◌}
use mathlib.Core.List.{List}
use Prim.Native.Nat.{ℕ}
use lib.ListN.{length}
use Rattle.search_outcomes.specs.Table.{noted}
use Rattle.search_outcomes.proofs.Ending.{ending_length}
use Rattle.search_outcomes.proofs.note.Goals as goal

pub enter-requires : goal.enter-requires
enter-requires c = (ap length c.outcome-o.ensures ∙ ending_length _, c.requires.1)

pub returns : goal.returns
returns c = c.enter.ensures ∙ ap (λ (o : List ℕ). noted c.args.wide o c.args.rest (c.args.area.now, c.args.sheet.now)) c.outcome-o.ensures
