-- `certify_cares::before::sum_shares` meets its contract: one case for each return.
-- Assumes nothing.
use mathlib.Core.Path.{refl}
use native.Mathlib.Omega.{arith}
use Rattle.certify_cares.proofs.Results.{placed_sum, placed_sum_first, other_sum, other_sum_first}
use Rattle.certify_cares.proofs.before.sum_shares.Goals as goal

pub returns-then-earlier : goal.returns-then-earlier
returns-then-earlier c = λ x' y' p q. placed_sum c.if-care-eq0.true c.turned.result c.turned.ensures (rw c.barring.ensures at p) (rw c.barring-then-earlier.ensures at q)

pub returns-then-care-eq0 : goal.returns-then-care-eq0
returns-then-care-eq0 c =
    λ x' y' p q. placed_sum_first c.if-care-eq0.true c.turned-then-care-eq0.result c.turned-then-care-eq0.ensures (rw c.barring-then-care-eq0-2.ensures at q) (rw c.barring-then-care-eq0.ensures at p)

pub returns-then-earlier-2 : goal.returns-then-earlier-2
returns-then-earlier-2 c = λ x' y' p q. other_sum c.if-care-lt256.false (let l = c.if-care-gt511.false in omega arith) refl (omega arith) p q

pub returns : goal.returns
returns c = λ x' y' p q. other_sum_first c.if-care-lt256.false (let l = c.if-care-gt511.false in omega arith) refl (omega arith) q p
