-- `program_form::question_test` meets its contract: all entries are all places.
-- Assumes nothing.
use mathlib.Core.Bool.{cond}
use Prim.Native.Nat.{ℕ}
use lib.Dec.{ltb}
use Rattle.std.proofs.Common.{rules, tests}
use Rattle.std.proofs.lemmas.Iterator.{YieldsList-from_slice}
use Rattle.std.proofs.lemmas.Iterator.Consumers.{YieldsList-from_enumerate}
use Rattle.program.specs.declared.Condition.{Condition}
use Rattle.program.specs.Program.{no_condition}
use Rattle.program.specs.WellFormed.{condition_test, unused_condition}
use Rattle.program.proofs.Arrays.{length_mapped}
use Rattle.program_form.proofs.Loops.{places_pass}
use Rattle.program_form.proofs.question_test.Goals as goal

pub returns : goal.returns
returns c =
    let p = c.args.p in
    let f = λ (k : ℕ) (q : Condition). cond (ltb k p.conditions) (condition_test p.threads q) (unused_condition q) in
    places_pass _ _ c.all.result f no_condition p.question c.all.ensures.ran (YieldsList-from_enumerate (YieldsList-from_slice _ cc) cc)
    (λ x b q k. search (rules, tests))
    (search length_mapped depth 7)
