-- `rules::plain::combine` meets its contract: one case for each mode.
-- Assumes nothing.
use Rattle.std.proofs.Common.{arith, eq-eqb, ne_eqb}
use Rattle.machine.specs.Rules.{combine}
use Rattle.rules.proofs.plain.combine.Goals as goal

pub returns-in-Add : goal.returns-in-Add
unfolding combine
returns-in-Add c = rw c.in-Add.is c.wrapping_add_u8.ensures.value

pub returns-in-Subtract : goal.returns-in-Subtract
unfolding combine
returns-in-Subtract c = rw c.in-Subtract.is (let d = c.wrapping_sub_u8.ensures.value in omega arith)

pub returns-in-ExclusiveOr : goal.returns-in-ExclusiveOr
unfolding combine
returns-in-ExclusiveOr c = rw c.in-ExclusiveOr.is

pub returns-then-x-y : goal.returns-then-x-y
unfolding combine
returns-then-x-y c = rw (c.in-Equal.is, eq-eqb _ _ c.if-x-y.true)

pub returns-else-x-y : goal.returns-else-x-y
unfolding combine
returns-else-x-y c = rw (c.in-Equal.is, ne_eqb _ _ c.if-x-y.false)
