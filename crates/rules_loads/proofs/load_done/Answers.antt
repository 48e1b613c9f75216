-- `rules_loads::load_done` meets its contract.
-- Assumes nothing.
use native.Mathlib.Omega.{arith}
use Rattle.rules_loads.proofs.load_done.Goals as goal

pub advance-requires : goal.advance-requires
advance-requires c = rw (c.with_views.ensures, c.raise_coherence.ensures, c.with_register.ensures) (omega arith)

pub returns : goal.returns
returns c =
    rw (
      c.advance.ensures,
      c.with_views.ensures,
      c.raise_coherence.ensures,
      c.with_register.ensures,
      c.read_value.ensures,
      c.load_views-w.ensures,
    )
