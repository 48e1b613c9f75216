-- `search_table::same` meets its contract: slices that compare as equal are equal.
-- Assumes nothing.
use mathlib.Core.Path.{◌≡◌, ap, ◌∙◌}
use Prim.Native.Nat.{ℕ, ◌+◌, ◌-◌}
use native.Mathlib.Omega.{arith}
use lib.ListN.{take, drop}
use Rattle.std.specs.List.{between}
use Rattle.std.proofs.lemmas.Bool.Decides.{Decides-eqb}
use Rattle.std.proofs.lemmas.Slice.Eq.{slice_eq-Decides}
use Rattle.search_table.proofs.same.Goals as goal

pub returns : goal.returns
returns c =
    let a = c.args in
    let n : 341 ≡ a.at + 341 - a.at = omega arith in
    λ e. ap (λ (k : ℕ). take k (drop a.at a.table.now)) n ∙ (slice_eq-Decides Decides-eqb (between a.at (a.at + 341) a.table.now) (take 341 a.key.now) _ c.eq.ensures).0 e
