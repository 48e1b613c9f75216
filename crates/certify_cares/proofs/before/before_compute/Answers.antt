-- `certify_cares::before::before_compute` meets its contract: the first operand is noted, then the second.
-- Assumes nothing.
use Rattle.program.specs.Program.{compute_mode}
use Rattle.certify_cares.proofs.Results.{result_told}
use Rattle.certify_cares.proofs.before.before_compute.Goals as goal

pub returns : goal.returns
returns c =
    let e = c.args.e in
    let t = c.take-care.ensures in
    record {
      of_len = c.note-2.ensures.of_len;
      agreeing_but = λ s s' told h.
          let q = c.note-2.ensures.agreeing s s' h in
          let p = c.note.ensures.agreeing s s' q.0 in
          (t.value.1 s s' p.0, result_told told.first_held told.second_held p.1 q.1 (compute_mode e.instruction.m) t.value.0 c.compute_shares-shares.ensures);
    }
