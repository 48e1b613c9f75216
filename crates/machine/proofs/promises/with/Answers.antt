-- `machine::promises::with` meets its contract.
-- Assumes nothing.
use Prim.Native.Nat.{◌-◌, ◌^◌, ◌<◌, ◌≤◌}
use native.Mathlib.Omega.{arith}
use lib.Pow.{pow_mono}
use Rattle.machine.specs.State.{with}
use Rattle.machine.proofs.Words.{shl_one}
use Rattle.machine.proofs.promises.with.Goals as goal

pub overflow_add-result : goal.overflow_add-result
overflow_add-result c =
    let k : c.args.t - 1 < 16 = omega arith in
    let b : 2 ^ (c.args.t - 1) ≤ 2 ^ 15 = pow_mono {j = 15} (omega arith) in
    rw (shl_one _ k) (omega arith)

pub returns : goal.returns
unfolding with
returns c = let k : c.args.t - 1 < 16 = omega arith in rw (shl_one _ k)
