-- `program_form::codes_test` meets its contract: all entries are all places.
-- Assumes nothing.
use mathlib.Core.Bool.{true, cond, ◌&&◌}
use Prim.Native.Nat.{ℕ}
use lib.Dec.{ltb, eqb}
use Rattle.std.proofs.Common.{rules, tests}
use Rattle.std.proofs.lemmas.Iterator.{YieldsList-from_slice}
use Rattle.std.proofs.lemmas.Iterator.Consumers.{YieldsList-from_enumerate}
use Rattle.program.specs.declared.Code.{Code}
use Rattle.program.specs.Program.{no_code, code_of}
use Rattle.program.specs.WellFormed.{code_test}
use Rattle.program.proofs.Arrays.{length_mapped}
use Rattle.program_form.proofs.Loops.{places_pass}
use Rattle.program_form.proofs.codes_test.Goals as goal

pub returns : goal.returns
unfolding code_of
returns c =
    let p = c.args.p in
    let f = λ (k : ℕ) (x : Code). code_test x && cond (ltb k p.threads) true (eqb x.count 0) in
    places_pass _ _ c.all.result f no_code p.codes c.all.ensures.ran (YieldsList-from_enumerate (YieldsList-from_slice _ cc) cc)
    (λ x b q k. search (rules, tests))
    (search length_mapped depth 7)
