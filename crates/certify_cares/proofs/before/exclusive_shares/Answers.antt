-- `certify_cares::before::exclusive_shares` meets its contract: one case for each return.
-- Assumes nothing.
use mathlib.Core.Path.{refl}
use native.Mathlib.Omega.{arith}
use Rattle.certify_cares.proofs.Results.{placed_exclusive, other_exclusive, other_exclusive_first}
use Rattle.certify_cares.proofs.before.exclusive_shares.Goals as goal

pub returns-then-care-eq0 : goal.returns-then-care-eq0
returns-then-care-eq0 c = let b = c.both.ensures in let l = c.barring.ensures in λ x' y' p q. placed_exclusive c.if-care-eq0.true (rw (b.0, l) at p) (rw (b.1, l) at q)

pub returns-then-earlier : goal.returns-then-earlier
returns-then-earlier c = λ x' y' p q. other_exclusive c.if-care-lt256.false (let l = c.if-care-gt511.false in omega arith) refl (omega arith) p q

pub returns : goal.returns
returns c = λ x' y' p q. other_exclusive_first c.if-care-lt256.false (let l = c.if-care-gt511.false in omega arith) refl (omega arith) q p
