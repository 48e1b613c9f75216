-- `file_threads::code_of` meets its contract.
-- Assumes nothing.
use mathlib.Core.Path.{◌≡◌}
use native.Mathlib.Omega.{arith}
use lib.ListN.{length}
use Rattle.program.specs.Program.{code_of}
use Rattle.program.proofs.Arrays.{length_mapped, get_d_any}
use Rattle.file_threads.proofs.code_of.Goals as goal

pub returns : goal.returns
unfolding code_of
returns c =
    let a = c.args in
    let h : length a.p.codes ≡ 4 = search length_mapped depth 7 in
    get_d_any _ _ a.p.codes a.i (omega arith)
