-- `encode_bytes::put_each` meets its contract: the loop writes entry after entry.
-- Assumes nothing.
use mathlib.Core.Path.{refl, sym, ap, ◌∙◌}
use native.Mathlib.Nat.{mul-zero}
use native.Mathlib.Omega.{arith}
use lib.ListN.{length}
use Rattle.std.proofs.Common.{rules}
use Rattle.std.proofs.lemmas.List.{get_or_default}
use Rattle.encode_bytes.specs.Places.{put}
use Rattle.encode_bytes.proofs.Putting.{entry_put, none_put, all_put, next_place, within_place}
use Rattle.encode_bytes.proofs.put_each.Goals as goal

pub loop-x-init : goal.loop-x-init
loop-x-init g c = record { place = omega (arith, mul-zero g.F.Encode.WIDTH); rest = λ d. none_put _ g.row.N _ _ }

pub put-requires : goal.put-requires
put-requires g c =
    let p = c.loop-x.invariant.place in
    let a = c.loop-x.auto.area in
    omega (arith, within_place g.F.Encode.WIDTH g.row.N c.loop-x.x-index c.loop-x-test.true)

pub overflow_add-to : goal.overflow_add-to
overflow_add-to g c =
    let p = c.loop-x.invariant.place in
    let w = c.WIDTH-to.ensures in
    let a = c.loop-x.auto.area in
    let h = within_place g.F.Encode.WIDTH g.row.N c.loop-x.x-index c.loop-x-test.true in
    search (rules, arith)

pub loop-x-preserved : goal.loop-x-preserved
loop-x-preserved g c =
    let p = c.loop-x.invariant.place in
    let w = c.WIDTH-to.ensures in
    record {
      place = omega (arith, next_place g.F.Encode.WIDTH c.loop-x.x-index);
      rest =
          λ d. let same = get_or_default c.args.xs.now c.loop-x.x-index c.x-item.result d (omega (arith, c.type_inv.xs, c.loop-x-test.true)) in
          entry_put _ g.row.N c.loop-x.area c.loop-x-test.true (c.put.ensures.written ∙ ap (λ x. put c.loop-x.to (g.F.Encode.bytes x) c.loop-x.area) same) refl
          (omega (arith, c.put.ensures.wide, ap (λ x. length (g.F.Encode.bytes x)) same))
          (omega (arith, within_place g.F.Encode.WIDTH g.row.N c.loop-x.x-index c.loop-x-test.true))
          (c.loop-x.invariant.rest d);
    }

pub returns : goal.returns
returns g c = λ d. sym (all_put _ g.row.N _ _ c.loop-x-test.false) ∙ c.loop-x.invariant.rest d
