-- `program::Program::code_of` meets its contract.
-- Assumes nothing.
use mathlib.Core.Path.{◌≡◌}
use native.Mathlib.Omega.{arith}
use lib.ListN.{length}
use Rattle.program.specs.Program.{code_of}
use Rattle.program.proofs.Arrays.{length_mapped, get_d_any}
use Rattle.program.proofs.Program.code_of.Goals as goal

pub returns : goal.returns
unfolding code_of
returns c =
    let p = c.args.self in
    let h : length p.codes ≡ 4 = search length_mapped depth 7 in
    get_d_any _ _ p.codes c.args.i (omega arith)
