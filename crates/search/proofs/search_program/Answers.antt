-- `search::search_program` meets its contract.
-- Assumes nothing.
-- the question is asked, so no outcome is noted
use mathlib.Core.Path.{◌≡◌, refl}
use mathlib.Core.Bool.{Bool}
use borrow.Author.Tests.{eqb-false}
use lib.ListN.{length}
use Rattle.search_arrivals.specs.declared.Aim.TheVariants.{Question, Outcomes}
use Rattle.search_visits.proofs.Start.{ready_fresh, cleared_holds, cleared_again, going_left, found_left}
use Rattle.search.proofs.Told.{told_forbidden, told_allowed, told_unfinished}
use Rattle.search.proofs.search_program.Goals as goal

no_outcomes : {wide : Bool} → Question ≡ Outcomes wide → ⊥
no_outcomes e = eqb-false 0 1 refl cc

pub visit-ran-requires : goal.visit-ran-requires
visit-ran-requires c =
    (rw c.fresh.ensures (ready_fresh _ _ _ c.requires.0 (λ e. c.requires.1) (λ wide e. absurd (no_outcomes e))), cleared_holds _ _ _ (length c.args.table.now) _ c.clear.ensures)

pub overflow_sub-result : goal.overflow_sub-result
overflow_sub-result c = going_left _ _ _ _ _ c.visit-ran.ensures.0 _ c.in-Going.is

pub overflow_sub-result-in-Found : goal.overflow_sub-result-in-Found
overflow_sub-result-in-Found c = found_left _ _ _ _ _ c.visit-ran.ensures.0 _ _ c.in-Found.is

pub returns-in-Going : goal.returns-in-Going
returns-in-Going c = (
  told_forbidden _ _ c.visit-ran.result _ _ _ c.visit-ran.new.sheet (rw c.fresh.ensures at c.visit-ran.ensures.0) _ c.in-Going.is,
  cleared_again c.clear-2.ensures c.visit-ran.auto.table c.clear.auto.table,
)

pub returns-in-Found : goal.returns-in-Found
returns-in-Found c = (
  told_allowed _ _ c.visit-ran.result _ _ _ c.visit-ran.new.sheet (rw c.fresh.ensures at c.visit-ran.ensures.0) _ _ c.in-Found.is,
  cleared_again c.clear-2.ensures c.visit-ran.auto.table c.clear.auto.table,
)

pub returns-in-Out : goal.returns-in-Out
returns-in-Out c = (
  told_unfinished _ _ c.visit-ran.result _ _ _ c.visit-ran.new.sheet (rw c.fresh.ensures at c.visit-ran.ensures.0) c.in-Out.is,
  cleared_again c.clear-2.ensures c.visit-ran.auto.table c.clear.auto.table,
)
