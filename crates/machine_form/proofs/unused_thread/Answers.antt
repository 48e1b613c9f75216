-- `machine_form::unused_thread` meets its contract: its six parts.
-- Assumes nothing.
use mathlib.Core.Path.{◌≡◌, ◌∙◌}
use mathlib.Core.Bool.{and_assoc, and-true}
use lib.ListN.{length}
use borrow.Author.Tests.{eq-eqb}
use Rattle.program.specs.Tests.{all_of}
use Rattle.program.proofs.Arrays.{length_mapped}
use Rattle.machine.specs.WellFormed.{unused_thread}
use Rattle.machine_form.proofs.Loops.{coherence_zero, forward_zero}
use Rattle.machine_form.proofs.unused_thread.Goals as goal

pub returns : goal.returns
unfolding unused_thread all_of
returns c =
    let registers_full : length c.args.s.registers ≡ 8 = search length_mapped depth 7 in
    let coherence_full : length c.args.s.coherence ≡ 16 = search length_mapped depth 7 in
    let forward_full : length c.args.s.forward ≡ 16 = search length_mapped depth 7 in
    let f = c.forward_test.ensures ∙ forward_zero c.args.s in
    let v = c.coherence_test.ensures ∙ coherence_zero c.args.s in
    rw (
      c.views_test.ensures,
      f,
      v,
      c.unused_registers.ensures,
      eq-eqb _ 8 registers_full,
      eq-eqb _ 16 coherence_full,
      eq-eqb _ 16 forward_full,
    )
    (simp (and_assoc, and-true))
