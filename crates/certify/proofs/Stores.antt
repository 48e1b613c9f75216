-- Stores enough: where what is sought is met, no more promises are outstanding than stores are left.
-- Assumes nothing.
use mathlib.Core.Path.{ap}
use mathlib.Core.Logic.{inl, inr}
use Prim.Native.Nat.{ℕ, suc, ◌≤◌}
use native.Mathlib.Omega.{arith}
use lib.Count.{ones}
use Rattle.program.specs.Counts.{stores_from}
use Rattle.program.proofs.Counts.{stores_past, stores_fall}
use Rattle.machine.specs.Rules.{execute}
use Rattle.machine.proofs.Sets.{ones_none}
use Rattle.machine.proofs.Effects.{effect, moves}
use Rattle.certify_runs.specs.Below.{Code, Memory, Thread}
use Rattle.certify_runs.specs.Certify.{certified}
use Rattle.certify_runs.proofs.Iff.{onward_inv}
use Rattle.certify_runs.proofs.Fit.{takes, promises_fit}
use Rattle.certify_sought.specs.Aim.{fill, Aim}

pub aim_fits : (c : Code) (i h k : ℕ) (m : Memory) (s : Thread) → Aim c i h k m s → ones s.promises ≤ stores_from c s.position
aim_fits c i h k m s (inl p) = let z = ones_none in let f = ap ones p.2 in omega arith
aim_fits c i h k m s (inr (x, g, f)) =
    let m' = fill m h f.message in
    let q = onward_inv (certified c i m') (execute x m' h s) f.keeps in
    let does = effect x m' h s q.0 q.1 in
    let a = promises_fit c i m' q.0 q.2 in
    let b = takes does in
    let d = stores_past c s.position x g in
    let l = stores_fall c (suc s.position) q.0.position (moves does) in
    omega arith
