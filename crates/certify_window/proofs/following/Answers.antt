-- `certify_window::following` meets its contract.
-- Assumes nothing.
use Rattle.certify_window.proofs.Window.{load_following, store_following, compute_following, branch_following, fence_following}
use Rattle.certify_window.proofs.following.Goals as goal

pub returns-in-Load : goal.returns-in-Load
returns-in-Load c =
    load_following _ _ _ _ _ _ _ c.in-Load.is _ (rw (c.value_of.ensures, c.value_of-in-Load.ensures) at c.address_of_sum.ensures.0) _ _ c.next_message.ensures

pub returns-in-Store : goal.returns-in-Store
returns-in-Store c =
    store_following _ _ _ _ _ _ c.in-Store.is _ _ (rw c.value_of-in-Store.ensures at c.address-l.ensures.0) c.value_of-in-Store-2.ensures _ _ c.next_kept.ensures

pub returns-in-Compute : goal.returns-in-Compute
returns-in-Compute c = compute_following _ _ _ _ _ _ _ c.in-Compute.is _ c.requires.1

pub returns-in-Branch : goal.returns-in-Branch
returns-in-Branch c = branch_following _ _ _ _ _ _ c.in-Branch.is _ c.requires.1

pub returns-in-Fence : goal.returns-in-Fence
returns-in-Fence c = fence_following _ _ _ _ c.in-Fence.is _ c.requires.1
