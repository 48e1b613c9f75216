-- `certify_ahead::fewer_stores` meets its contract.
-- Assumes nothing.
use mathlib.Core.Path.{◌≡◌, ◌∙◌}
use Prim.Native.Nat.{◌<◌}
use native.Mathlib.Omega.{arith}
use lib.ListN.{length}
use Rattle.program.proofs.Arrays.{length_mapped, get_d_any}
use Rattle.certify_ahead.proofs.Stores.{counted_more, counted_all}
use Rattle.certify_ahead.proofs.fewer_stores.Goals as goal

pub loop-at-preserved : goal.loop-at-preserved
loop-at-preserved c =
    let d = c.args.c in let size : length d.instructions ≡ 16 = search length_mapped depth 7 in let l = c.loop-at-test.true in let h = c.requires in let in_code : c.loop-at.at < length d.instructions = omega arith in counted_more _ _ _ _ _ _ c.loop-at.invariant l (get_d_any _ _ d.instructions c.loop-at.at in_code) (c.from-found.ensures ∙ c.one_store.ensures)

pub returns : goal.returns
returns c = rw (counted_all _ _ _ _ c.loop-at.invariant c.loop-at-test.false)
