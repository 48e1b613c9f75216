-- `search_outcomes::enter` meets its contract: the place of the outcome among the rows decides.
-- Assumes nothing.
use mathlib.Core.Path.{refl, sym}
use native.Mathlib.Omega.{arith}
use Rattle.search_outcomes.proofs.Rows.{width_least}
use Rattle.search_outcomes.proofs.Cases.{noted_full}
use Rattle.search_outcomes.proofs.Noting.{Found, found, orderly_rising, found_before, found_old, found_room, found_key, found_few, same_there, other_there, found_there, found_over, found_in}
use Rattle.search_outcomes.proofs.enter.Goals as goal
use Rattle.search_outcomes.proofs.enter.Goals.{then-k-n+else-is_same, else-k-n, then-rest-budget, else-rest-budget}

pub nonzero_div-room : goal.nonzero_div-room
nonzero_div-room c = rw c.row_width-w.ensures (let l = width_least c.args.wide in omega arith)

pub returns-then-room-met : goal.returns-then-room-met
returns-then-room-met c = sym (noted_full c.args.wide (c.args.area.now, c.args.sheet.now) c.args.key.now c.args.rest (rw c.row_width-w.ensures at c.if-room-met.true))

pub smaller_rows-k-requires : goal.smaller_rows-k-requires
smaller_rows-k-requires c =
    rw c.row_width-w.ensures
    (orderly_rising c.args.wide (c.args.area.now, c.args.sheet.now) c.requires.1 (rw c.row_width-w.ensures at c.if-room-met.false), c.requires.0)

pub overflow_mul-w : goal.overflow_mul-w
overflow_mul-w c =
    let known : Found c.args.wide c.args.key.now (c.args.area.now, c.args.sheet.now) c.smaller_rows-k.result =
    found _ _ _ _ _ _ c.row_width-w.ensures refl c.requires.0 c.if-room-met.false c.smaller_rows-k.ensures in
    rw c.row_width-w.ensures (let a = found_before known in let b = found_old known in omega arith)

pub is_same-requires : goal.is_same-requires
is_same-requires c =
    let known : Found c.args.wide c.args.key.now (c.args.area.now, c.args.sheet.now) c.smaller_rows-k.result =
    found _ _ _ _ _ _ c.row_width-w.ensures refl c.requires.0 c.if-room-met.false c.smaller_rows-k.ensures in
    rw c.row_width-w.ensures (found_key known c.if-k-n.true, c.requires.0)

pub returns-then-is_same : goal.returns-then-is_same
returns-then-is_same c =
    let known : Found c.args.wide c.args.key.now (c.args.area.now, c.args.sheet.now) c.smaller_rows-k.result =
    found _ _ _ _ _ _ c.row_width-w.ensures refl c.requires.0 c.if-room-met.false c.smaller_rows-k.ensures in
    found_there known _ c.if-k-n.true (same_there _ c.row_width-w.ensures refl c.is_same.ensures c.if-is_same.true)

pub overflow_add-sheet : goal.overflow_add-sheet
overflow_add-sheet c =
    let known : Found c.args.wide c.args.key.now (c.args.area.now, c.args.sheet.now) c.smaller_rows-k.result =
    found _ _ _ _ _ _ c.row_width-w.ensures refl c.requires.0 c.if-room-met.false c.smaller_rows-k.ensures in
    let l = found_few known in omega arith

pub returns-then-n-room : goal.returns-then-n-room
returns-then-n-room c =
    let known : Found c.args.wide c.args.key.now (c.args.area.now, c.args.sheet.now) c.smaller_rows-k.result =
    found _ _ _ _ _ _ c.row_width-w.ensures refl c.requires.0 c.if-room-met.false c.smaller_rows-k.ensures in
    found_over known _
    (elim c.if-k-n.branch [
      | then-k-n+else-is_same w ↦ λ h. other_there _ c.row_width-w.ensures refl w.is_same.ensures w.if-is_same.false
      | else-k-n w ↦ λ h. absurd (omega arith)
    ])
    (rw c.row_width-w.ensures at c.if-n-room.true)

pub overflow_mul-w-2 : goal.overflow_mul-w-2
overflow_mul-w-2 c =
    let known : Found c.args.wide c.args.key.now (c.args.area.now, c.args.sheet.now) c.smaller_rows-k.result =
    found _ _ _ _ _ _ c.row_width-w.ensures refl c.requires.0 c.if-room-met.false c.smaller_rows-k.ensures in
    rw c.row_width-w.ensures (let a = found_before known in let b = found_old known in omega arith)

pub overflow_mul-w-3 : goal.overflow_mul-w-3
overflow_mul-w-3 c =
    let known : Found c.args.wide c.args.key.now (c.args.area.now, c.args.sheet.now) c.smaller_rows-k.result =
    found _ _ _ _ _ _ c.row_width-w.ensures refl c.requires.0 c.if-room-met.false c.smaller_rows-k.ensures in
    rw c.row_width-w.ensures (let b = found_old known in omega arith)

pub move_up-requires : goal.move_up-requires
move_up-requires c =
    let known : Found c.args.wide c.args.key.now (c.args.area.now, c.args.sheet.now) c.smaller_rows-k.result =
    found _ _ _ _ _ _ c.row_width-w.ensures refl c.requires.0 c.if-room-met.false c.smaller_rows-k.ensures in
    rw c.row_width-w.ensures (found_before known, found_room known (rw c.row_width-w.ensures at c.if-n-room.false))

pub overflow_mul-w-4 : goal.overflow_mul-w-4
overflow_mul-w-4 c =
    let known : Found c.args.wide c.args.key.now (c.args.area.now, c.args.sheet.now) c.smaller_rows-k.result =
    found _ _ _ _ _ _ c.row_width-w.ensures refl c.requires.0 c.if-room-met.false c.smaller_rows-k.ensures in
    rw c.row_width-w.ensures (let a = found_before known in let b = found_old known in omega arith)

pub put_row-requires : goal.put_row-requires
put_row-requires c =
    let known : Found c.args.wide c.args.key.now (c.args.area.now, c.args.sheet.now) c.smaller_rows-k.result =
    found _ _ _ _ _ _ c.row_width-w.ensures refl c.requires.0 c.if-room-met.false c.smaller_rows-k.ensures in
    rw c.row_width-w.ensures
    (let a = found_before known in let b = found_room known (rw c.row_width-w.ensures at c.if-n-room.false) in let k = c.move_up.auto.area in omega arith, c.requires.0)

pub returns : goal.returns
returns c =
    let known : Found c.args.wide c.args.key.now (c.args.area.now, c.args.sheet.now) c.smaller_rows-k.result =
    found _ _ _ _ _ _ c.row_width-w.ensures refl c.requires.0 c.if-room-met.false c.smaller_rows-k.ensures in
    let s = c.args in
    found_in known s.rest
    (elim c.if-k-n.branch [
      | then-k-n+else-is_same w ↦ λ h. other_there _ c.row_width-w.ensures refl w.is_same.ensures w.if-is_same.false
      | else-k-n w ↦ λ h. absurd (omega arith)
    ])
    (rw c.row_width-w.ensures at c.if-n-room.false)
    c.if-rest-budget.place
    (elim c.if-rest-budget.branch [ then-rest-budget w ↦ omega arith | else-rest-budget w ↦ omega arith ])
    _
    _
    (rw c.row_width-w.ensures at c.move_up.ensures)
    (rw c.row_width-w.ensures at c.put_row.ensures)
