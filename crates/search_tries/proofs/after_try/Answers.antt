-- `search_tries::after_try` meets its contract.
-- Assumes nothing.
use Rattle.search_tries.proofs.Worth.{foreseen}
use Rattle.search_tries.proofs.after_try.Goals as goal

pub returns-then-k-ne0 : goal.returns-then-k-ne0
returns-then-k-ne0 c = foreseen _ _ _ _ c.requires.1.1.0 c.if-k-ne0.true

pub next_try-requires : goal.next_try-requires
next_try-requires c = (c.requires.0, c.requires.1.0)

pub returns : goal.returns
returns c = c.next_try.ensures
