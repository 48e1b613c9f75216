-- `machine::Thread::with_register` meets its contract: past the registers nothing is set.
-- Assumes nothing.
use mathlib.Core.Path.{◌≡◌}
use Prim.Native.Nat.{◌≤◌}
use native.Mathlib.Omega.{arith}
use lib.ListN.{length}
use lib.Seq.{set_out}
use Rattle.program.proofs.Arrays.{length_mapped}
use Rattle.machine.proofs.Thread.with_register.Goals as goal

pub returns-else-n-lt8 : goal.returns-else-n-lt8
returns-else-n-lt8 c =
    let s = c.args.self in
    let h : length s.registers ≡ 8 = search length_mapped depth 7 in
    let g : length s.registers ≤ c.args.n = omega arith in
    rw (set_out _ _ _ g)
