-- `machine_form::registers_test` meets its contract: all entries are all places.
-- Assumes nothing.
use Rattle.std.proofs.Common.{rules, tests, leb}
use Rattle.std.proofs.lemmas.Iterator.{YieldsList-from_slice}
use Rattle.program.proofs.Arrays.{length_mapped}
use Rattle.program_form.proofs.Loops.{entries_pass}
use Rattle.machine.specs.declared.Register.{Register}
use Rattle.machine.specs.State.{fresh_register}
use Rattle.machine_form.proofs.registers_test.Goals as goal

pub returns : goal.returns
returns c =
    let t = λ (w : Register). leb w.view c.args.n in
    entries_pass _ _ c.all.result t fresh_register c.args.s.registers c.all.ensures.ran (YieldsList-from_slice _ cc)
    (λ x b q k. search (rules, tests))
    (search length_mapped depth 7)
