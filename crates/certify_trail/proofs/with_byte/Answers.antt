-- `certify_trail::with_byte` meets its contract: one case for each byte.
-- Assumes nothing.
use mathlib.Core.Path.{◌≡◌}
use native.Mathlib.Omega.{arith}
use Rattle.certify_trail.proofs.Bytes.{put_0, put_1, put_2, put_3}
use Rattle.certify_trail.proofs.with_byte.Goals as goal

pub returns-in-0 : goal.returns-in-0
returns-in-0 c = let a = c.args in rw c.in-0.is (put_0 a.word a.b (omega arith))

pub returns-in-1 : goal.returns-in-1
returns-in-1 c = let a = c.args in rw c.in-1.is (put_1 a.word a.b (omega arith))

pub returns-in-2 : goal.returns-in-2
returns-in-2 c = let a = c.args in rw c.in-2.is (put_2 a.word a.b (omega arith))

pub returns-in_default : goal.returns-in_default
returns-in_default c =
    let a = c.args in
    let e : a.j ≡ 3 = omega (arith, c.requires) in
    rw e (put_3 a.word a.b (omega arith))
