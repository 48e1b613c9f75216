-- `machine_form::machine_formed` meets its contract: a memory that fails decides; one that passes has at most 16 messages.
-- Assumes nothing.
use mathlib.Core.Path.{◌≡◌, sym, ◌∙◌}
use mathlib.Core.Bool.{true}
use lib.ListN.{length}
use Rattle.program.specs.Tests.{all_of}
use Rattle.program.proofs.Arrays.{length_mapped}
use Rattle.program.proofs.Loops.{full}
use Rattle.machine.specs.WellFormed.{machine_test}
use Rattle.machine_form.proofs.Loops.{memory_room}
use Rattle.machine_form.proofs.machine_formed.Goals as goal

pub threads_test-requires : goal.threads_test-requires
threads_test-requires c = memory_room _ _ (sym c.memory_test.ensures ∙ c.if-memory_test.true)

pub returns-then-memory_test : goal.returns-then-memory_test
unfolding machine_test
returns-then-memory_test c =
    let threads_full : length c.args.x.threads ≡ 4 = search length_mapped depth 7 in
    let passes = sym c.memory_test.ensures ∙ c.if-memory_test.true in
    rw (c.threads_test.ensures, passes) (full true _ _ 4 threads_full)

pub returns-else-memory_test : goal.returns-else-memory_test
unfolding machine_test all_of
returns-else-memory_test c = let fails = sym c.memory_test.ensures ∙ c.if-memory_test.false in rw (c.memory_test.ensures, fails)
