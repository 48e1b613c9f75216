-- `judge_budget::decimal_of` meets its contract.
-- Assumes nothing.
use Rattle.std.proofs.Common.{rules, arith, sym, ◌∙◌}
use Rattle.judge_budget.proofs.Reading.{none_read, read_start, read_other, read_large, read_more, read_all}
use Rattle.judge_budget.proofs.decimal_of.Goals as goal

pub returns-then-is_empty : goal.returns-then-is_empty
returns-then-is_empty c = none_read _ (search rules)

pub loop-b-init : goal.loop-b-init
loop-b-init c = read_start _ (search rules)

pub returns-then-not-is_ascii_digit : goal.returns-then-not-is_ascii_digit
returns-then-not-is_ascii_digit c = read_other c.loop-b.invariant c.loop-b-test.true (sym c.if-not-is_ascii_digit.ensures.value)

pub returns-in_err-checked_mul : goal.returns-in_err-checked_mul
returns-in_err-checked_mul c = c.from_residual.ensures ∙ read_large c.loop-b.invariant c.loop-b-test.true (omega (arith, c.in_err-checked_mul.ensures))

pub returns-in_err-n : goal.returns-in_err-n
returns-in_err-n c = c.from_residual-in_err-n.ensures ∙ read_large c.loop-b.invariant c.loop-b-test.true (omega (arith, c.in_err-n.ensures, c.in_ok-checked_mul.ensures))

pub loop-b-preserved : goal.loop-b-preserved
loop-b-preserved c = read_more c.loop-b.invariant c.loop-b-test.true (sym c.if-not-is_ascii_digit.ensures.value) _ (omega (arith, c.in_ok-n.ensures, c.in_ok-checked_mul.ensures)) (omega (arith, c.in_ok-n.ensures))

pub returns : goal.returns
returns c = read_all c.loop-b.invariant c.loop-b-test.false
