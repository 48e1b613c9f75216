-- `search_arrivals::at_end` meets its contract.
-- Assumes nothing.
use mathlib.Core.Path.{◌≡◌, sym, ◌∙◌}
use mathlib.Core.Bool.{Bool, true, false}
use Prim.Native.Nat.{ℕ}
use Rattle.search_arrivals.specs.Visits.{Going, Found, Aim, Question, Outcomes, Over, Ending, at_end}
use Rattle.search_arrivals.proofs.at_end.Goals as goal

module _ (a : Aim) (d rest : ℕ) (c h : Bool) where
  answered : a ≡ Question → c ≡ true → h ≡ true → Over (Found rest d) ≡ at_end a d rest c h
  answered e f g = rw (e, f, g)

  unanswered : a ≡ Question → c ≡ true → h ≡ false → Over (Going rest) ≡ at_end a d rest c h
  unanswered e f g = rw (e, f, g)

  to_be_noted : (wide : Bool) → a ≡ Outcomes wide → c ≡ true → Ending wide rest ≡ at_end a d rest c h
  to_be_noted wide e f = rw (e, f)

  incomplete : c ≡ false → Over (Going rest) ≡ at_end a d rest c h
  incomplete f = rw f

pub returns-then-question_holds : goal.returns-then-question_holds
returns-then-question_holds c = answered _ _ _ _ _ c.in-Question.is (sym c.complete.ensures ∙ c.if-complete.true) (sym c.question_holds.ensures ∙ c.if-question_holds.true)

pub returns-in-Outcomes : goal.returns-in-Outcomes
returns-in-Outcomes c = to_be_noted _ _ _ _ _ _ c.in-Outcomes.is (sym c.complete.ensures ∙ c.if-complete.true)

pub returns-else-question_holds : goal.returns-else-question_holds
returns-else-question_holds c = unanswered _ _ _ _ _ c.in-Question.is (sym c.complete.ensures ∙ c.if-complete.true) (sym c.question_holds.ensures ∙ c.if-question_holds.false)

pub returns-else-complete : goal.returns-else-complete
returns-else-complete c = incomplete _ _ _ _ _ (sym c.complete.ensures ∙ c.if-complete.false)
