-- `certify_vain::left_out` meets its contract.
-- Assumes nothing.
use mathlib.Core.Path.{sym, subst, ◌∙◌}
use lib.Dec.{T}
use Rattle.certify_vain.proofs.Passing.{left_out}
use Rattle.certify_vain.proofs.left_out.Goals as goal

pub returns-then-has : goal.returns-then-has
returns-then-has c = left_out _ _ _ (subst T (sym (sym c.has.ensures ∙ c.if-has.true)) tt) c.without.ensures
