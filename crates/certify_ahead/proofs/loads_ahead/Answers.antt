-- `certify_ahead::loads_ahead` meets its contract.
-- Assumes nothing.
use mathlib.Core.Path.{◌≡◌}
use Prim.Native.Nat.{◌<◌}
use native.Mathlib.Omega.{arith}
use lib.ListN.{length}
use Rattle.program.proofs.Arrays.{length_mapped, get_d_any}
use Rattle.certify_ahead.proofs.Loads.{none_more, none_all}
use Rattle.certify_ahead.proofs.loads_ahead.Goals as goal

pub loop-k-preserved : goal.loop-k-preserved
loop-k-preserved c =
    let d = c.args.c in let size : length d.instructions ≡ 16 = search length_mapped depth 7 in let l = c.loop-k-test.true in let h = c.requires in let v = c.loop-k in let in_code : v.k < length d.instructions = omega arith in none_more d _ v.k _ v.invariant (get_d_any _ _ d.instructions v.k in_code) c.if-i-eq1.false

pub returns : goal.returns
returns c = λ e. none_all _ _ _ c.loop-k.invariant c.loop-k-test.false
