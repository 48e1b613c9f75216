-- `certify_trail::preceded` meets its contract: the step's byte stands behind those that are written, and they stay.
-- Assumes nothing.
use mathlib.Core.Path.{◌≡◌, refl}
use native.Mathlib.Omega.{arith}
use lib.ListN.{length}
use Rattle.program.proofs.Arrays.{length_mapped}
use Rattle.certify_trail.proofs.Written.{preceding}
use Rattle.certify_trail.proofs.preceded.Goals as goal

pub returns : goal.returns
returns c =
    let k = c.args.k.of in
    let h : length k ≡ 8 = search length_mapped depth 7 in
    preceding k _ _ c.with_byte.result _ h (omega arith) c.with_byte.ensures refl (omega arith) refl c.requires.1
