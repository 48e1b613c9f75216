-- `certify_straight::operand_in` meets its contract: one case for each return.
-- Assumes nothing.
use Rattle.std.proofs.Common.{arith}
use Rattle.certify_straight.proofs.Walking.{held_constant, held_register, held_past}
use Rattle.certify_straight.proofs.operand_in.Goals as goal

pub returns-then-k-eq0 : goal.returns-then-k-eq0
returns-then-k-eq0 c = λ s h e. held_constant s _ _ c.if-k-eq0.true

pub returns-then-n-lt8 : goal.returns-then-n-lt8
returns-then-n-lt8 c = λ s h e. held_register s _ _ c.if-k-eq0.false c.if-n-lt8.true _ e

pub returns : goal.returns
returns c = λ s h e. held_past s _ _ c.if-k-eq0.false (let l = c.if-n-lt8.false in omega arith)
