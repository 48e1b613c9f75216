-- `program_form::code_stores` meets its contract: the stores among the instructions that are used.
-- Assumes nothing.
use mathlib.Core.Path.{◌∙◌}
use lib.Dec.{eqb}
use lib.ListN.{take}
use Rattle.std.proofs.Common.{rules, tests}
use Rattle.std.proofs.lemmas.List.Sums.{length-filter}
use Rattle.std.proofs.lemmas.Iterator.{YieldsList-from_slice, YieldsList-from_take}
use Rattle.std.proofs.lemmas.Iterator.Consumers.{YieldsList-from_filter, count_from_yields_List}
use Rattle.program.specs.declared.Instruction.{Instruction}
use Rattle.program_form.proofs.Loops.{stores_counted}
use Rattle.program_form.proofs.code_stores.Goals as goal

pub returns : goal.returns
returns c =
    let x = c.args.c in
    let store = λ (i : Instruction). eqb i.op 2 in
    let n = count_from_yields_List _ c.count.result c.count.ensures.ran
    (YieldsList-from_filter _ store (YieldsList-from_take x.count (YieldsList-from_slice x.instructions (cc)) (cc)) (cc) (λ x b q k. search (rules, tests)))
    in
    n ∙ length-filter store (take x.count x.instructions) ∙ stores_counted x
