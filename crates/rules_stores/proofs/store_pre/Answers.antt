-- `rules_stores::store_pre` meets its contract: one case for each mode.
-- Assumes nothing.
use Rattle.rules_stores.proofs.store_pre.Goals as goal

pub returns-in-PlainStore : goal.returns-in-PlainStore
returns-in-PlainStore c =
    rw (
      c.in-PlainStore.is,
      c.larger-v.ensures,
      c.larger-2.ensures,
      c.larger.ensures,
    )

pub returns-in-Release : goal.returns-in-Release
returns-in-Release c =
    rw (
      c.larger-in-Release-2.ensures,
      c.larger-in-Release.ensures,
      c.in-Release.is,
      c.larger-v.ensures,
      c.larger-2.ensures,
      c.larger.ensures,
    )
