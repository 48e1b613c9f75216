-- `certify_cares::barred::marking` meets its contract.
-- Assumes nothing.
use Prim.Native.Nat.{◌^◌}
use Rattle.machine.proofs.Words.{shl_one}
use Rattle.certify_cares.proofs.Marks.{marked_left, marked_right, one_marked}
use Rattle.certify_cares.proofs.barred.marking.Goals as goal

pub returns : goal.returns
returns c =
    let l = c.args.l in
    (rw (shl_one l c.requires) (marked_right c.args.set (2 ^ l) l (one_marked l)), marked_left c.args.set _)
