-- `rules::own_store` meets its contract: the promise need not be put in and taken out.
-- Assumes nothing.
use Rattle.std.proofs.Common.{◌≡◌, length, arith}
use Rattle.program.proofs.Arrays.{length_mapped}
use Rattle.machine.proofs.Cases.{own_store_lem}
use Rattle.rules.proofs.own_store.Goals as goal

pub returns : goal.returns
returns c =
    let a = c.args in
    let h : length a.m.messages ≡ 16 = search (length_mapped, c.well_formed.1.1.1.0) depth 7 in
    let p = c.requires in
    rw (
      own_store_lem a.k a.a a.d a.m a.i a.s (omega arith) p.1.1,
      c.own_at.ensures,
      c.view_of-2.ensures,
      c.view_of.ensures,
      c.address.ensures.0,
      c.value_of.ensures,
    )
