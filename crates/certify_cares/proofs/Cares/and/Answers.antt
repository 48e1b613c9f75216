-- `certify_cares::Cares::and` meets its contract: register by register the cares are joined.
-- Assumes nothing.
use mathlib.Core.Path.{◌≡◌}
use native.Mathlib.Omega.{arith}
use lib.ListN.{length, length-set}
use Rattle.program.proofs.Arrays.{length_mapped}
use Rattle.certify_cares.proofs.Agreeing.{joined_more, joined_all}
use Rattle.certify_cares.proofs.Cares.and.Goals as goal

pub loop-j-preserved : goal.loop-j-preserved
loop-j-preserved c =
    let h : length c.args.other.of ≡ 8 = search length_mapped depth 7 in
    let e = length-set c.loop-j.of c.loop-j.j c.joined.result in
    (omega arith, joined_more c.args.self.of c.args.other.of c.loop-j.of c.loop-j.j c.loop-j.invariant.1 c.joined.result (omega arith) (omega arith) c.joined.ensures)

pub returns : goal.returns
returns c = joined_all c.args.self.of c.args.other.of c.loop-j.of c.loop-j.j c.loop-j.invariant.1 (omega arith)
