-- `rules_stores::below_time` meets its contract: one case for each arm.
-- Assumes nothing.
use borrow.Author.Tests.{lt-ltb, le-ltb}
use Rattle.machine.specs.Inner.{below_time}
use Rattle.rules_stores.proofs.below_time.Goals as goal

pub returns-then-store_pre-t : goal.returns-then-store_pre-t
unfolding below_time
returns-then-store_pre-t c = rw (c.coherence_at.ensures, ← c.store_pre.ensures, lt-ltb _ _ c.if-store_pre-t.true)

pub returns-else-store_pre-t : goal.returns-else-store_pre-t
unfolding below_time
returns-else-store_pre-t c = rw (← c.store_pre.ensures, le-ltb _ _ c.if-store_pre-t.false)
