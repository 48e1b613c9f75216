-- `machine::promises::without` meets its contract: a time in the set is from 1 to 16, and its digit is set.
-- Assumes nothing.
use Prim.Native.Nat.{◌-◌, ◌<◌}
use native.Mathlib.Omega.{arith}
use Rattle.machine.specs.State.{without}
use Rattle.machine.proofs.Words.{member, shl_one}
use Rattle.machine.proofs.promises.without.Goals as goal

pub overflow_sub-result : goal.overflow_sub-result
overflow_sub-result c = omega (arith, member _ _ c.ranges.p.fits c.requires)

pub overflow_shl-result : goal.overflow_shl-result
overflow_shl-result c = omega (arith, member _ _ c.ranges.p.fits c.requires)

pub overflow_sub-result-2 : goal.overflow_sub-result-2
overflow_sub-result-2 c =
    let q = member _ _ c.ranges.p.fits c.requires in
    let k : c.args.t - 1 < 16 = omega arith in
    rw (shl_one _ k) q.holds

pub returns : goal.returns
unfolding without
returns c =
    let q = member _ _ c.ranges.p.fits c.requires in
    let k : c.args.t - 1 < 16 = omega arith in
    rw (shl_one _ k)
