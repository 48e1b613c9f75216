-- `rules_stores::stored` meets its contract.
-- Assumes nothing.
use native.Mathlib.Omega.{arith}
use Rattle.rules_stores.proofs.stored.Goals as goal

pub advance-requires : goal.advance-requires
advance-requires c = rw (c.with_forward.ensures, c.with_views.ensures, c.raise_coherence.ensures) (omega arith)

pub returns : goal.returns
returns c =
    rw (
      c.advance.ensures,
      c.with_forward.ensures,
      c.larger.ensures,
      c.with_views.ensures,
      c.raise_coherence.ensures,
      c.store_views-w.ensures,
    )
