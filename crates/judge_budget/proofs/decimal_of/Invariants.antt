-- `judge_budget::decimal_of` meets its contract.
-- Assumes nothing.
use Rattle.judge_budget.proofs.Reading.{Read}
use Rattle.judge_budget.proofs.decimal_of.Given as goal

abbrev pub invariant-loop-b : goal.invariant-loop-b
invariant-loop-b l = Read l.text l.n l.b-index
