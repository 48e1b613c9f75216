-- `certify_cares::before::difference_shares` meets its contract: one case for each return.
-- Assumes nothing.
use mathlib.Core.Path.{refl}
use native.Mathlib.Omega.{arith}
use Rattle.certify_cares.proofs.Results.{placed_difference, other_difference, other_difference_first}
use Rattle.certify_cares.proofs.before.difference_shares.Goals as goal

pub returns-then-care-eq0 : goal.returns-then-care-eq0
returns-then-care-eq0 c = λ x' y' p q. placed_difference c.if-care-eq0.true c.turned.result (omega arith) c.turned.ensures (rw c.barring.ensures at p) q

pub returns-then-care-ne256 : goal.returns-then-care-ne256
returns-then-care-ne256 c =
    let a = c.args in
    λ x' y' p q. other_difference c.if-care-lt256.false (let l = c.if-care-gt511.false in omega arith) c.if-care-ne256.true refl (omega arith) p q

pub returns : goal.returns
returns c = λ x' y' p q. other_difference_first c.if-care-lt256.false (let l = c.if-care-gt511.false in omega arith) refl (omega arith) p q
