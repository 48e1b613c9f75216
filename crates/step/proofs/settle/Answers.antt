-- `step::settle` meets its contract.
-- Assumes nothing.
use Rattle.step.proofs.Stepping.{settle_free, settle_yes, settle_no}
use Rattle.step.proofs.settle.Goals as goal

pub returns-then-is_empty : goal.returns-then-is_empty
returns-then-is_empty c = settle_free _ _ _ _ _ c.is_empty.ensures c.if-is_empty.true

pub returns-then-is_certified : goal.returns-then-is_certified
returns-then-is_certified c = settle_yes _ _ _ _ _ c.is_certified.ensures c.if-is_certified.true

pub returns-else-is_certified : goal.returns-else-is_certified
returns-else-is_certified c = settle_no _ _ _ _ _ c.is_certified.ensures c.if-is_certified.false
