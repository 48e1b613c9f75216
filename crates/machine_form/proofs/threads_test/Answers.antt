-- `machine_form::threads_test` meets its contract: all entries are all places.
-- Assumes nothing.
use mathlib.Core.Bool.{cond}
use Prim.Native.Nat.{ℕ}
use lib.Dec.{ltb}
use Rattle.std.proofs.Common.{rules, tests}
use Rattle.std.proofs.lemmas.Iterator.{YieldsList-from_slice}
use Rattle.std.proofs.lemmas.Iterator.Consumers.{YieldsList-from_enumerate}
use Rattle.program.specs.Program.{code_of}
use Rattle.program.proofs.Arrays.{length_mapped}
use Rattle.program_form.proofs.Loops.{places_pass}
use Rattle.machine.specs.declared.Thread.{Thread}
use Rattle.machine.specs.State.{fresh_thread}
use Rattle.machine.specs.WellFormed.{thread_test, unused_thread}
use Rattle.machine_form.proofs.threads_test.Goals as goal

pub returns : goal.returns
returns c =
    let p = c.args.p in
    let x = c.args.x in
    let f = λ (i : ℕ) (s : Thread). cond (ltb i p.threads) (thread_test (code_of p i) i x.memory s) (unused_thread s) in
    places_pass _ _ c.all.result f fresh_thread x.threads c.all.ensures.ran (YieldsList-from_enumerate (YieldsList-from_slice _ cc) cc)
    (λ x b q k. search (rules, tests))
    (search length_mapped depth 7)
