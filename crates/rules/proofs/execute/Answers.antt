-- `rules::execute` meets its contract: one case for each instruction, and for each time of those that touch no memory.
-- Assumes nothing.
use Rattle.std.proofs.Common.{arith, eq-eqb, ne_eqb}
use Rattle.machine.specs.Rules.{execute}
use Rattle.rules.proofs.execute.Goals as goal

pub compute_done-requires : goal.compute_done-requires
compute_done-requires c = let p = rw c.in-Compute.is at c.requires in omega arith

pub load_at-requires : goal.load_at-requires
load_at-requires c = let p = rw c.in-Load.is at c.requires in omega arith

pub store_at-requires : goal.store_at-requires
store_at-requires c = let p = rw c.in-Store.is at c.requires in omega arith

pub branch_done-requires : goal.branch_done-requires
branch_done-requires c = let p = rw c.in-Branch.is at c.requires in omega arith

pub fence_done-requires : goal.fence_done-requires
fence_done-requires c = let p = rw c.in-Fence.is at c.requires in omega arith

pub returns-then-t-eq0 : goal.returns-then-t-eq0
unfolding execute
returns-then-t-eq0 c =
    rw (
      c.compute_done.ensures,
      c.in-Compute.is,
      eq-eqb _ _ c.if-t-eq0.true,
    )

pub returns-else-t-eq0 : goal.returns-else-t-eq0
unfolding execute
returns-else-t-eq0 c = rw (c.in-Compute.is, ne_eqb _ _ c.if-t-eq0.false)

pub returns-in-Load : goal.returns-in-Load
unfolding execute
returns-in-Load c =
    rw (
      c.load_at.ensures,
      c.view_of_both.ensures,
      c.address_of_sum-l.ensures.0,
      c.value_of-in-Load.ensures,
      c.value_of.ensures,
      c.in-Load.is,
    )

pub returns-in-Store : goal.returns-in-Store
unfolding execute
returns-in-Store c =
    rw (
      c.store_at.ensures,
      c.view_of-in-Store.ensures,
      c.view_of.ensures,
      c.value_of-in-Store-2.ensures,
      c.address-l.ensures.0,
      c.value_of-in-Store.ensures,
      c.in-Store.is,
    )

pub returns-then-t-eq0-2 : goal.returns-then-t-eq0-2
unfolding execute
returns-then-t-eq0-2 c =
    rw (
      c.branch_done.ensures,
      c.in-Branch.is,
      eq-eqb _ _ c.if-t-eq0-2.true,
    )

pub returns-else-t-eq0-2 : goal.returns-else-t-eq0-2
unfolding execute
returns-else-t-eq0-2 c = rw (c.in-Branch.is, ne_eqb _ _ c.if-t-eq0-2.false)

pub returns-then-t-eq0-3 : goal.returns-then-t-eq0-3
unfolding execute
returns-then-t-eq0-3 c =
    rw (
      c.fence_done.ensures,
      c.in-Fence.is,
      eq-eqb _ _ c.if-t-eq0-3.true,
    )

pub returns-else-t-eq0-3 : goal.returns-else-t-eq0-3
unfolding execute
returns-else-t-eq0-3 c = rw (c.in-Fence.is, ne_eqb _ _ c.if-t-eq0-3.false)
