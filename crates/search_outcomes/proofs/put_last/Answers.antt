-- `search_outcomes::put_last` meets its contract: the loop writes one message after the other.
-- Assumes nothing.
use mathlib.Core.Path.{refl}
use native.Mathlib.Omega.{arith}
use Prim.Native.Nat.{◌<◌}
use lib.ListN.{length-take}
use lib.Seq.{get_or-take}
use Rattle.machine.specs.State.{no_message}
use Rattle.search_outcomes.proofs.LastValues.{lasting_none, lasting_more}
use Rattle.search_outcomes.proofs.put_last.Goals as goal

pub loop-w-init : goal.loop-w-init
loop-w-init c = lasting_none c.requires.0

pub loop-w-preserved : goal.loop-w-preserved
loop-w-preserved c =
    let m = c.args.m in
    let t : c.loop-w.w-index < m.count = omega (arith, c.loop-w-test.true, length-take m.count m.messages) in
    rw (get_or-take m.count m.messages c.loop-w.w-index no_message t) (lasting_more c.requires.0 c.loop-w.invariant t _ refl (c.requires.1.low _ t))
