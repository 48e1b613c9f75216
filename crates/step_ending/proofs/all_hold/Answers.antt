-- `step_ending::all_hold` meets its contract: the loop has come to condition k, and those before it hold.
-- Assumes nothing.
use mathlib.Core.Path.{◌≡◌, refl}
use native.Mathlib.Omega.{arith}
use lib.ListN.{length}
use Rattle.program.proofs.Arrays.{length_mapped, get_d_any}
use Rattle.step_ending.proofs.Asking.{holding_none, holding_more, holding_all, holding_fails}
use Rattle.step_ending.proofs.all_hold.Goals as goal

pub loop-k-init : goal.loop-k-init
loop-k-init c = holding_none

pub overflow_cast-i : goal.overflow_cast-i
overflow_cast-i c = let l = c.requires.thread_there _ c.loop-k-test.true in omega arith

pub offset_bounds-x-i : goal.offset_bounds-x-i
offset_bounds-x-i c = let l = c.requires.thread_there _ c.loop-k-test.true in omega arith

pub bounds-x-i : goal.bounds-x-i
bounds-x-i c = c.requires.thread_there _ c.loop-k-test.true

pub holds-requires : goal.holds-requires
holds-requires c = c.requires.room

pub loop-k-preserved : goal.loop-k-preserved
loop-k-preserved c =
    let x = c.args.x in
    let threads : length x.threads ≡ 4 = search length_mapped depth 7 in
    let l = c.requires.thread_there _ c.loop-k-test.true in
    holding_more c.loop-k.invariant c.loop-k-test.true _ (c.holds.ensures x refl (get_d_any _ _ x.threads _ (omega arith))) c.if-holds.true

pub returns-else-holds : goal.returns-else-holds
returns-else-holds c =
    let x = c.args.x in
    let threads : length x.threads ≡ 4 = search length_mapped depth 7 in
    let l = c.requires.thread_there _ c.loop-k-test.true in
    holding_fails c.args.question x _ _ c.loop-k-test.true _ (c.holds.ensures x refl (get_d_any _ _ x.threads _ (omega arith))) c.if-holds.false

pub returns : goal.returns
returns c = holding_all c.loop-k.invariant c.loop-k-test.false
