-- `rules_times::later_times` meets its contract.
-- Assumes nothing.
use Rattle.rules_times.proofs.Sets.{load_later, store_later, compute_later, branch_later, fence_later}
use Rattle.machine.specs.Rules.{address}
use Prim.Native.Nat.{ℕ, ◌+◌}
use mathlib.Core.Path.{ap₂, ◌∙◌}
use Rattle.rules_times.proofs.later_times.Goals as goal

pub returns-in-Load : goal.returns-in-Load
returns-in-Load c =
    rw c.in-Load.is (load_later _ _ _ _ _ _ _ _ (c.address_of_sum-l.ensures.0 ∙ ap₂ (λ (v w : ℕ). address (v + w)) c.value_of.ensures c.value_of-in-Load.ensures) c.times_at.ensures)

pub returns-in-Store : goal.returns-in-Store
returns-in-Store c = rw c.in-Store.is (store_later _ _ _ _ _)

pub returns-in-Compute : goal.returns-in-Compute
returns-in-Compute c = rw c.in-Compute.is (compute_later _ _ _ _ _ _)

pub returns-in-Branch : goal.returns-in-Branch
returns-in-Branch c = rw c.in-Branch.is (branch_later _ _ _ _ _)

pub returns-in-Fence : goal.returns-in-Fence
returns-in-Fence c = rw c.in-Fence.is (fence_later _ _ _)
