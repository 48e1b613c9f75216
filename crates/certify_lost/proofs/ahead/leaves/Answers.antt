-- `certify_lost::ahead::leaves` meets its contract: one case for each instruction.
-- Assumes nothing.
use Rattle.certify_lost.proofs.Leaving.{leaves_same, leaves_load, leaves_store, leaves_fence}
use Rattle.certify_lost.proofs.ahead.leaves.Goals as goal

pub returns-in-Load : goal.returns-in-Load
returns-in-Load c = leaves_load _ _ _ _ _ _ c.in-Load.is _ (rw (c.load_views.ensures, c.load_pre.ensures))

pub returns-in-Store : goal.returns-in-Store
returns-in-Store c = leaves_store _ _ _ _ _ c.in-Store.is _ c.store_pre.ensures _ c.later.ensures.0 _ c.store_views.ensures

pub returns-in-Fence : goal.returns-in-Fence
returns-in-Fence c = leaves_fence _ _ _ c.in-Fence.is _ c.fence_views.ensures

pub returns-in-Compute : goal.returns-in-Compute
returns-in-Compute c = leaves_same _ _

pub returns-in-Branch : goal.returns-in-Branch
returns-in-Branch c = leaves_same _ _
