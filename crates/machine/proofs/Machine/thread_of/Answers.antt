-- `machine::Machine::thread_of` meets its contract.
-- Assumes nothing.
use mathlib.Core.Path.{◌≡◌}
use native.Mathlib.Omega.{arith}
use lib.ListN.{length}
use Rattle.program.proofs.Arrays.{length_mapped, get_d_any}
use Rattle.machine.proofs.Machine.thread_of.Goals as goal

pub returns : goal.returns
returns c =
    let x = c.args.self in
    let h : length x.threads ≡ 4 = search length_mapped depth 7 in
    get_d_any _ _ x.threads c.args.i (omega arith)
