-- `certify_cares::Cares::noting` meets its contract.
-- Assumes nothing.
use mathlib.Core.Path.{◌≡◌}
use native.Mathlib.Omega.{arith}
use lib.ListN.{length}
use Rattle.program.proofs.Arrays.{length_mapped}
use Rattle.certify_cares.proofs.Agreeing.{noted}
use Rattle.certify_cares.proofs.Cares.noting.Goals as goal

pub returns-else-n-ge8 : goal.returns-else-n-ge8
returns-else-n-ge8 c =
    let h : length c.args.self.of ≡ 8 = search length_mapped depth 7 in
    let l = c.if-n-ge8.false in
    rw c.in-OfRegister.is (noted c.args.self.of c.in-OfRegister.n (omega arith) c.args.care c.joined.result c.joined.ensures)
