-- `search_tries::next_promises` meets its contract.
-- Assumes nothing.
use borrow.Author.Tests.{not-true}
use native.Mathlib.Omega.{arith}
use Rattle.search_tries.proofs.Worth.{none_promised, next_full, one_explored, two_explored}
use Rattle.search_tries.proofs.next_promises.Goals as goal

pub returns-then-not-t : goal.returns-then-not-t
returns-then-not-t c = none_promised _ _ _ _ c.requires.1 _ (not-true _ c.if-not-t.true)

pub returns-then-m-ge16 : goal.returns-then-m-ge16
returns-then-m-ge16 c = next_full _ _ _ _ c.if-m-ge16.true

pub next_reached-met-requires : goal.next_reached-met-requires
next_reached-met-requires c = (c.requires.0, c.if-m-ge16.false)

pub returns-then-met-eq0 : goal.returns-then-met-eq0
returns-then-met-eq0 c = one_explored _ _ _ _ _ c.next_reached-met.ensures c.if-m-ge16.false

pub overflow_add-result : goal.overflow_add-result
overflow_add-result c = let h = (c.next_reached-met.ensures.two c.if-met-eq0.false).within in omega arith

pub returns : goal.returns
returns c = two_explored _ _ _ _ _ c.next_reached-met.ensures c.if-m-ge16.false c.if-met-eq0.false
