-- `certify_cares::before::note` meets its contract.
-- Assumes nothing.
use mathlib.Core.Path.{◌≡◌, ◌∙◌}
use native.Mathlib.Omega.{arith}
use lib.ListN.{length, length-set}
use Rattle.certify_cares.proofs.Agreeing.{noted_constant, noted_past, noted_register}
use Rattle.certify_cares.proofs.before.note.Goals as goal

pub returns-then-k-eq0 : goal.returns-then-k-eq0
returns-then-k-eq0 c = let a = c.args in record { of_len = c.requires; agreeing = noted_constant a.of.now a.k a.n a.care c.if-k-eq0.true }

pub returns-then-n-ge8 : goal.returns-then-n-ge8
returns-then-n-ge8 c =
    let a = c.args in
    let h : length a.of.now ≡ 8 = c.requires in
    let l = c.if-n-ge8.true in record { of_len = h; agreeing = noted_past a.of.now a.k a.n a.care c.if-k-eq0.false (omega arith) }

pub returns : goal.returns
returns c =
    let a = c.args in
    let h : length a.of.now ≡ 8 = c.requires in
    let l = c.if-n-ge8.false in record { of_len = length-set a.of.now a.n c.joined.result ∙ h; agreeing = noted_register a.of.now a.k a.n a.care c.if-k-eq0.false (omega arith) c.joined.result c.joined.ensures }
