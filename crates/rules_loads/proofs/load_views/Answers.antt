-- `rules_loads::load_views` meets its contract.
-- Assumes nothing.
use Rattle.rules_loads.proofs.load_views.Goals as goal

pub returns : goal.returns
returns c =
    rw (
      c.raise_cap.ensures,
      c.raise_w_new.ensures,
      c.raise_r_new.ensures,
      c.raise_r_old.ensures,
      c.if_acquire-v.ensures,
    )
