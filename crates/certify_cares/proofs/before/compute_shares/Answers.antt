-- `certify_cares::before::compute_shares` meets its contract: one case for each mode.
-- Assumes nothing.
use Rattle.certify_cares.proofs.Results.{is_sum, is_difference, is_exclusive, is_equal, same_equal}
use Rattle.certify_cares.proofs.before.compute_shares.Goals as goal

pub returns-then-m-eq0 : goal.returns-then-m-eq0
returns-then-m-eq0 c = λ x' y' p q. rw (is_sum _ c.if-m-eq0.true) (c.sum_shares.ensures x' y' p q)

pub returns-then-m-eq1 : goal.returns-then-m-eq1
returns-then-m-eq1 c = λ x' y' p q. rw (is_difference _ c.if-m-eq1.true) (c.difference_shares.ensures x' y' p q)

pub returns-then-m-eq2 : goal.returns-then-m-eq2
returns-then-m-eq2 c = λ x' y' p q. rw (is_exclusive _ c.if-m-eq2.true) (c.exclusive_shares.ensures x' y' p q)

pub returns : goal.returns
returns c = λ x' y' p q. rw (is_equal _ c.if-m-eq0.false c.if-m-eq1.false c.if-m-eq2.false) (same_equal _ _ x' y' (c.equal_shares.ensures x' y' p q))
