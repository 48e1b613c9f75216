-- Smaller views.
-- Assumes nothing.
use Rattle.std.specs.Prelude.{◌≤◌}
use Rattle.machine.specs.declared.Views.{Views}

-- the six views, each at most the other
pub record Lower (v w : Views) : Type 0 where
  pub r_old_low : v.rOld ≤ w.rOld
  pub w_old_low : v.wOld ≤ w.wOld
  pub r_new_low : v.rNew ≤ w.rNew
  pub w_new_low : v.wNew ≤ w.wNew
  pub cap_low : v.cap ≤ w.cap
  pub rel_low : v.rel ≤ w.rel
