-- `rules::plain::compute_done` meets its contract.
-- Assumes nothing.
use Rattle.std.proofs.Common.{arith}
use Rattle.rules.proofs.plain.compute_done.Goals as goal

pub advance-requires : goal.advance-requires
advance-requires c = rw c.with_register.ensures (omega arith)

pub returns : goal.returns
returns c =
    rw (
      c.advance.ensures,
      c.with_register.ensures,
      c.view_of_both.ensures,
      c.combine-v.ensures,
      c.value_of-2.ensures,
      c.value_of.ensures,
    )
