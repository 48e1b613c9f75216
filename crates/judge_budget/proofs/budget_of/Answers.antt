-- `judge_budget::budget_of` meets its contract.
-- Assumes nothing.
use Rattle.std.proofs.Common.{sym, ap, ◌∙◌, eqb}
use lib.Pointwise.{pointwise}
use Rattle.judge_budget.proofs.Reading.{is_all_lem, by_word, by_digits}
use Rattle.judge_budget.proofs.budget_of.Goals as goal

pub returns-then-eq : goal.returns-then-eq
returns-then-eq c = by_word _ (sym (c.if-eq.ensures ∙ ap (pointwise eqb c.args.text.now) c.as_slice.ensures ∙ is_all_lem c.args.text.now))

pub returns : goal.returns
returns c = c.decimal_of.ensures ∙ by_digits _ (sym (c.if-eq.ensures ∙ ap (pointwise eqb c.args.text.now) c.as_slice.ensures ∙ is_all_lem c.args.text.now))
