-- `rules_times::at_zero` meets its contract.
-- Assumes nothing.
use Rattle.rules_times.proofs.Sets.{store_not_at_0, may_be_at_0}
use Rattle.rules_times.proofs.at_zero.Goals as goal

pub returns-in-Store : goal.returns-in-Store
returns-in-Store c = rw c.in-Store.is (store_not_at_0 _ _ _)

pub returns-in-Load : goal.returns-in-Load
returns-in-Load c = may_be_at_0 _

pub returns-in-Compute : goal.returns-in-Compute
returns-in-Compute c = may_be_at_0 _

pub returns-in-Branch : goal.returns-in-Branch
returns-in-Branch c = may_be_at_0 _

pub returns-in-Fence : goal.returns-in-Fence
returns-in-Fence c = may_be_at_0 _
