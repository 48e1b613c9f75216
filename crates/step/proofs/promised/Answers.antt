-- `step::promised` meets its contract.
-- Assumes nothing.
use mathlib.Core.Path.{◌≡◌}
use Prim.Native.Nat.{◌+◌, ◌-◌}
use native.Mathlib.Omega.{arith}
use Rattle.step.proofs.promised.Goals as goal

pub with-requires : goal.with-requires
with-requires c =
    let m = c.args.m in
    let few = c.requires.0 in
    let n : m.count + 1 - 1 ≡ m.count = omega arith in
    (omega arith, (omega arith, rw n c.requires.1))

pub returns : goal.returns
returns c = rw (c.with_promises.ensures, c.with.ensures)
