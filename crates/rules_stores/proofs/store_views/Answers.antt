-- `rules_stores::store_views` meets its contract.
-- Assumes nothing.
use Rattle.rules_stores.proofs.store_views.Goals as goal

pub returns : goal.returns
returns c =
    rw (
      c.raise_cap.ensures,
      c.raise_rel.ensures,
      c.if_release.ensures,
      c.raise_w_old.ensures,
    )
