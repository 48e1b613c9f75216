-- `certify_cares::before::before_branch` meets its contract: an operand that is compared with itself is not noted; else the first is, then the second.
-- Assumes nothing.
use Rattle.certify_cares.proofs.Results.{one_operand, way_told}
use Rattle.certify_cares.proofs.before.before_branch.Goals as goal

pub returns-then-i : goal.returns-then-i
returns-then-i c = record { of_len = c.requires; agreeing = λ s s' told h. (h, one_operand c.args.e.instruction c.if-i.true s s') }

pub returns : goal.returns
returns c =
    let e = c.args.e in
    record {
      of_len = c.note-2.ensures.of_len;
      agreeing = λ s s' told h.
          let q = c.note-2.ensures.agreeing s s' h in
          let p = c.note.ensures.agreeing s s' q.0 in
          (p.0, way_told told.first_held told.second_held p.1 q.1 e.instruction.m c.branch_shares-shares.ensures);
    }
