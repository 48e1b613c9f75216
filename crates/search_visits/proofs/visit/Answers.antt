-- `search_visits::visit` meets its contract.
-- Assumes nothing.
use mathlib.Core.Path.{refl, ◌∙◌}
use Rattle.search_outcomes.proofs.Laws.{formed_placed}
use Rattle.search_arrivals.proofs.Known.{is_over, is_ending, is_open, stays_true}
use Rattle.search_visits.proofs.Lent.{ending_noted}
use Rattle.search_visits.proofs.visit.Goals as goal

pub arrive-requires : goal.arrive-requires
arrive-requires c = c.requires.0.well

pub note-requires : goal.note-requires
note-requires c =
    (formed_placed _ _ c.requires.0.well, c.requires.0.orderly _ (is_ending _ _ _ _ _ _ _ _ (c.arrive.ensures _ c.requires.1) _ _ c.in-Ending.is _ refl _ refl).0)

pub walk-requires : goal.walk-requires
walk-requires c = (c.requires.0, is_open _ _ _ _ _ _ _ _ (c.arrive.ensures _ c.requires.1) _ _ c.in-Open.is, c.requires.1)

pub returns-in-Over : goal.returns-in-Over
returns-in-Over c = (is_over _ _ _ _ _ _ _ _ (c.arrive.ensures _ c.requires.1) _ _ c.in-Over.is refl _ refl, c.requires.1)

pub returns-in-Ending : goal.returns-in-Ending
returns-in-Ending c =
    let told = (is_ending _ _ _ _ _ _ _ _ (c.arrive.ensures _ c.requires.1) _ _ c.in-Ending.is _ refl _ (c.note.ensures ∙ ending_noted _ _ c.requires.0.well _ _ _)).1 in
    (told, stays_true _ _ _ _ _ _ told refl c.requires.1)
