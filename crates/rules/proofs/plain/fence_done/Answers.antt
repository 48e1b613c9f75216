-- `rules::plain::fence_done` meets its contract.
-- Assumes nothing.
use Rattle.std.proofs.Common.{arith}
use Rattle.rules.proofs.plain.fence_done.Goals as goal

pub advance-requires : goal.advance-requires
advance-requires c = rw c.with_views.ensures (omega arith)

pub returns : goal.returns
returns c = rw (c.advance.ensures, c.with_views.ensures, c.fence_views.ensures)
