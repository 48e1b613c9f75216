-- `search_tries::narrowed` meets its contract.
-- Assumes nothing.
use Rattle.search_tries.proofs.Beaten.{narrowed_none, narrowed_load}
use Rattle.search_tries.proofs.narrowed.Goals as goal

pub returns-in-Load : goal.returns-in-Load
returns-in-Load c =
    narrowed_load _ _ _ _ _ _ _ _ _ _ c.in-Load.is _ (rw (c.value_of.ensures, c.value_of-in-Load.ensures) at c.address_of_sum-l.ensures.0) _ c.of_register.ensures _ c.passed_over.ensures

pub returns-in-Store : goal.returns-in-Store
returns-in-Store c = narrowed_none _ _ _ _ _ _

pub returns-in-Compute : goal.returns-in-Compute
returns-in-Compute c = narrowed_none _ _ _ _ _ _

pub returns-in-Branch : goal.returns-in-Branch
returns-in-Branch c = narrowed_none _ _ _ _ _ _

pub returns-in-Fence : goal.returns-in-Fence
returns-in-Fence c = narrowed_none _ _ _ _ _ _
