-- `machine_form::thread_test` meets its contract: its seven parts.
-- Assumes nothing.
use mathlib.Core.Path.{◌≡◌}
use mathlib.Core.Bool.{and_assoc, and-true}
use lib.ListN.{length}
use borrow.Author.Tests.{eq-eqb}
use Rattle.program.specs.Tests.{all_of}
use Rattle.program.proofs.Arrays.{length_mapped}
use Rattle.machine.specs.WellFormed.{thread_test}
use Rattle.machine_form.proofs.thread_test.Goals as goal

pub returns : goal.returns
unfolding thread_test all_of
returns c =
    let registers_full : length c.args.s.registers ≡ 8 = search length_mapped depth 7 in
    let coherence_full : length c.args.s.coherence ≡ 16 = search length_mapped depth 7 in
    let forward_full : length c.args.s.forward ≡ 16 = search length_mapped depth 7 in
    rw (
      c.own_test.ensures,
      c.promises_test.ensures,
      c.views_test.ensures,
      c.forward_test.ensures,
      c.coherence_test.ensures,
      c.registers_test.ensures,
      eq-eqb _ 8 registers_full,
      eq-eqb _ 16 coherence_full,
      eq-eqb _ 16 forward_full,
    )
    (simp (and_assoc, and-true))
