-- `rules::plain::fence_views` meets its contract: one case for each fence.
-- Assumes nothing.
use Rattle.rules.proofs.plain.fence_views.Goals as goal

pub returns-in-DmbSy : goal.returns-in-DmbSy
returns-in-DmbSy c =
    rw (
      c.raise_w_new.ensures,
      c.raise_r_new.ensures,
      c.larger-v.ensures,
      c.in-DmbSy.is,
    )

pub returns-in-DmbLd : goal.returns-in-DmbLd
returns-in-DmbLd c = rw (c.raise_w_new-in-DmbLd.ensures, c.raise_r_new-in-DmbLd.ensures, c.in-DmbLd.is)

pub returns-in-DmbSt : goal.returns-in-DmbSt
returns-in-DmbSt c = rw (c.raise_w_new-in-DmbSt.ensures, c.in-DmbSt.is)

pub returns-in-Isb : goal.returns-in-Isb
returns-in-Isb c = rw (c.raise_r_new-in-Isb.ensures, c.in-Isb.is)
