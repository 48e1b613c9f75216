-- `program_form::code_test` meets its contract: all entries are all places.
-- Assumes nothing.
use mathlib.Core.Path.{◌≡◌}
use mathlib.Core.Bool.{cond}
use Prim.Native.Nat.{ℕ}
use lib.Dec.{ltb}
use lib.ListN.{length}
use Rattle.std.proofs.Common.{rules, tests}
use Rattle.std.proofs.lemmas.Iterator.{YieldsList-from_slice}
use Rattle.std.proofs.lemmas.Iterator.Consumers.{YieldsList-from_enumerate}
use Rattle.program.specs.declared.Instruction.{Instruction}
use Rattle.program.specs.Program.{no_instruction}
use Rattle.program.specs.WellFormed.{instruction_test, unused_instruction, code_test}
use Rattle.program.proofs.Arrays.{length_mapped}
use Rattle.program.proofs.Loops.{full}
use Rattle.program_form.proofs.Loops.{places_pass}
use Rattle.program_form.proofs.code_test.Goals as goal

pub returns : goal.returns
unfolding code_test
returns c =
    let x = c.args.c in
    let h : length x.instructions ≡ 16 = search length_mapped depth 7 in
    let f = λ (k : ℕ) (i : Instruction). cond (ltb k x.count) (instruction_test x.count k i) (unused_instruction i) in
    let b = places_pass _ _ c.all.result f no_instruction x.instructions c.all.ensures.ran (YieldsList-from_enumerate (YieldsList-from_slice _ cc) cc)
    (λ x b q k. search (rules, tests))
    h in
    rw b (full _ _ _ _ h)
