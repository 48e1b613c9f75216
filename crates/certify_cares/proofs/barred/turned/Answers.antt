-- `certify_cares::barred::turned` meets its contract.
-- Assumes nothing.
use mathlib.Core.Path.{◌≡◌, subst}
use Prim.Native.Nat.{ℕ, ◌+◌, ◌%◌, ◌<◌}
use native.Mathlib.Omega.{arith}
use Rattle.certify_cares.specs.Cares.{Marked}
use Rattle.certify_cares.proofs.Marks.{turned_marked}
use Rattle.certify_cares.proofs.barred.turned.Goals as goal

pub returns : goal.returns
returns c =
    λ y m. let h : c.args.by % 16 < 16 = omega arith in
    let e : (c.args.by + y) % 16 ≡ (c.args.by % 16 + y) % 16 = omega arith in
    turned_marked c.args.set (c.args.by % 16) y h (subst (λ (x : ℕ). Marked c.args.set x) e m)
