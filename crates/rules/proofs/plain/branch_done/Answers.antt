-- `rules::plain::branch_done` meets its contract.
-- Assumes nothing.
use Rattle.std.proofs.Common.{arith}
use Rattle.rules.proofs.plain.branch_done.Goals as goal

pub advance-requires : goal.advance-requires
advance-requires c = rw c.with_views.ensures (omega arith)

pub returns : goal.returns
returns c =
    rw (
      c.advance.ensures,
      c.with_views.ensures,
      c.raise_cap.ensures,
      c.view_of_both.ensures,
      c.branch_by-by.ensures.0,
      c.value_of-2.ensures,
      c.value_of.ensures,
    )
