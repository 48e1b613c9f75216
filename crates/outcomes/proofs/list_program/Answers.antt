-- `outcomes::list_program` meets its contract.
-- Assumes nothing.
use mathlib.Core.Path.{◌≡◌}
use native.Mathlib.Omega.{arith}
use lib.ListN.{length, replicate}
use Rattle.machine.specs.State.{fresh}
use Rattle.search_outcomes.specs.Table.{fresh_sheet}
use Rattle.search_outcomes.proofs.Rows.{width_least}
use Rattle.search_arrivals.specs.declared.Aim.TheVariants.{Outcomes}
use Rattle.search_arrivals.specs.Visits.{visiting, Reports}
use Rattle.outcomes.specs.Answers.{emptied}
use Rattle.outcomes.proofs.Told.{rows_within, ready_to_list, reported, rows_still_within, finished_all, too_many, not_finished}
use Rattle.search_visits.proofs.Start.{cleared_holds, cleared_again, going_left}
use Rattle.outcomes.proofs.list_program.Goals as goal

pub nonzero_div-room : goal.nonzero_div-room
nonzero_div-room c = rw c.row_width-w.ensures (let l = width_least c.args.wide in omega arith)

pub overflow_mul-w : goal.overflow_mul-w
overflow_mul-w c = let l = rows_within c.args.wide c.args.table.now _ c.row_width-w.ensures in omega arith

pub clear_front-requires : goal.clear_front-requires
clear_front-requires c = rows_within c.args.wide c.args.table.now _ c.row_width-w.ensures

pub visit-ran-requires : goal.visit-ran-requires
visit-ran-requires c = (
  rw c.fresh.ensures (ready_to_list _ _ _ _ c.requires),
  cleared_holds _ _ _ (length c.args.machines.now) _ c.clear.ensures,
)

pub overflow_sub-result : goal.overflow_sub-result
overflow_sub-result c =
    let told : Reports 0 (visiting c.args.p (Outcomes c.args.wide) fresh c.args.budget (emptied c.args.wide c.args.table.now, fresh_sheet c.args.budget)) c.visit-ran.result (c.visit-ran.new.area, c.visit-ran.new.sheet) =
    reported _ _ _ c.args.table.now c.fresh.ensures c.row_width-w.ensures c.clear_front.ensures c.visit-ran.ensures.0 in
    going_left _ _ _ _ _ told _ c.in-Going.is

pub returns-then-met-room : goal.returns-then-met-room
returns-then-met-room c =
    let told : Reports 0 (visiting c.args.p (Outcomes c.args.wide) fresh c.args.budget (emptied c.args.wide c.args.table.now, fresh_sheet c.args.budget)) c.visit-ran.result (c.visit-ran.new.area, c.visit-ran.new.sheet) =
    reported _ _ _ c.args.table.now c.fresh.ensures c.row_width-w.ensures c.clear_front.ensures c.visit-ran.ensures.0 in
    let machines_cleared : c.clear-2.new.table ≡ replicate (length c.args.machines.now) 0 = cleared_again c.clear-2.ensures c.visit-ran.auto.table c.clear.auto.table in
    finished_all _ _ _ _ _ _ told _ _ machines_cleared _ c.in-Going.is (rw c.row_width-w.ensures at c.if-met-room.true)

pub overflow_mul-w-in-Going : goal.overflow_mul-w-in-Going
overflow_mul-w-in-Going c = let l = rows_within c.args.wide c.args.table.now _ c.row_width-w.ensures in omega arith

pub clear_front-requires-in-Going : goal.clear_front-requires-in-Going
clear_front-requires-in-Going c =
    let told : Reports 0 (visiting c.args.p (Outcomes c.args.wide) fresh c.args.budget (emptied c.args.wide c.args.table.now, fresh_sheet c.args.budget)) c.visit-ran.result (c.visit-ran.new.area, c.visit-ran.new.sheet) =
    reported _ _ _ c.args.table.now c.fresh.ensures c.row_width-w.ensures c.clear_front.ensures c.visit-ran.ensures.0 in
    rows_still_within _ _ _ c.args.table.now _ _ told _ c.row_width-w.ensures

pub overflow_sub-budget : goal.overflow_sub-budget
overflow_sub-budget c =
    let told : Reports 0 (visiting c.args.p (Outcomes c.args.wide) fresh c.args.budget (emptied c.args.wide c.args.table.now, fresh_sheet c.args.budget)) c.visit-ran.result (c.visit-ran.new.area, c.visit-ran.new.sheet) =
    reported _ _ _ c.args.table.now c.fresh.ensures c.row_width-w.ensures c.clear_front.ensures c.visit-ran.ensures.0 in
    going_left _ _ _ _ _ told _ c.in-Going.is

pub returns-in-Going : goal.returns-in-Going
returns-in-Going c =
    let told : Reports 0 (visiting c.args.p (Outcomes c.args.wide) fresh c.args.budget (emptied c.args.wide c.args.table.now, fresh_sheet c.args.budget)) c.visit-ran.result (c.visit-ran.new.area, c.visit-ran.new.sheet) =
    reported _ _ _ c.args.table.now c.fresh.ensures c.row_width-w.ensures c.clear_front.ensures c.visit-ran.ensures.0 in
    let machines_cleared : c.clear-2.new.table ≡ replicate (length c.args.machines.now) 0 = cleared_again c.clear-2.ensures c.visit-ran.auto.table c.clear.auto.table in
    too_many _ _ _ _ _ _ told _ _ machines_cleared _ c.row_width-w.ensures _ c.clear_front-in-Going.ensures _ c.in-Going.is (rw c.row_width-w.ensures at c.if-met-room.false) _ c.nothing_listed.ensures

pub overflow_mul-w-2 : goal.overflow_mul-w-2
overflow_mul-w-2 c = let l = rows_within c.args.wide c.args.table.now _ c.row_width-w.ensures in omega arith

pub clear_front-requires-2 : goal.clear_front-requires-2
clear_front-requires-2 c =
    let told : Reports 0 (visiting c.args.p (Outcomes c.args.wide) fresh c.args.budget (emptied c.args.wide c.args.table.now, fresh_sheet c.args.budget)) c.visit-ran.result (c.visit-ran.new.area, c.visit-ran.new.sheet) =
    reported _ _ _ c.args.table.now c.fresh.ensures c.row_width-w.ensures c.clear_front.ensures c.visit-ran.ensures.0 in
    rows_still_within _ _ _ c.args.table.now _ _ told _ c.row_width-w.ensures

pub returns : goal.returns
returns c =
    let told : Reports 0 (visiting c.args.p (Outcomes c.args.wide) fresh c.args.budget (emptied c.args.wide c.args.table.now, fresh_sheet c.args.budget)) c.visit-ran.result (c.visit-ran.new.area, c.visit-ran.new.sheet) =
    reported _ _ _ c.args.table.now c.fresh.ensures c.row_width-w.ensures c.clear_front.ensures c.visit-ran.ensures.0 in
    let machines_cleared : c.clear-2.new.table ≡ replicate (length c.args.machines.now) 0 = cleared_again c.clear-2.ensures c.visit-ran.auto.table c.clear.auto.table in
    not_finished _ _ _ _ _ _ told _ _ machines_cleared _ c.row_width-w.ensures _ c.clear_front-2.ensures c.in_default.not-Going _ c.nothing_listed-2.ensures
