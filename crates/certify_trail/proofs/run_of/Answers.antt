-- `certify_trail::run_of` meets its contract: the loop takes one step after the other, the first one from the end of the bytes.
-- Assumes nothing.
use mathlib.Core.Path.{◌≡◌, sym, subst}
use mathlib.Core.List.{[]}
use native.Mathlib.Omega.{arith}
use lib.ListN.{replicate}
use Rattle.certify_runs.specs.Values.{entries}
use Rattle.certify_trail.proofs.Read.{Reading, reading_none, reading_more}
use Rattle.certify_trail.proofs.run_of.Goals as goal

pub loop-n-init : goal.loop-n-init
unfolding entries
loop-n-init c =
    let e = c.default-steps.ensures in
    let blank : replicate 16 c.default-steps.result ≡ entries 16 [] = λ i. replicate 16 (record { kind = e.0 i; time = e.1 i }) in
    subst (Reading _ _ 0) (sym blank) (reading_none (omega arith) (λ l t r. let f = t.count in omega arith))

pub loop-n-preserved : goal.loop-n-preserved
loop-n-preserved c = reading_more c.loop-n.invariant c.loop-n-test.true c.byte_of-step.ensures (omega arith)
