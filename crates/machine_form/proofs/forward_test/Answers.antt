-- `machine_form::forward_test` meets its contract: all entries are all places.
-- Assumes nothing.
use Rattle.std.proofs.Common.{rules, tests, ◌&&◌, leb}
use Rattle.std.proofs.lemmas.Iterator.{YieldsList-from_slice}
use Rattle.program.proofs.Arrays.{length_mapped}
use Rattle.program_form.proofs.Loops.{entries_pass}
use Rattle.machine.specs.declared.Forward.{Forward}
use Rattle.machine.specs.State.{fresh_forward}
use Rattle.machine_form.proofs.forward_test.Goals as goal

pub returns : goal.returns
returns c =
    let t = λ (w : Forward). leb w.time c.args.n && leb w.view c.args.n in
    entries_pass _ _ c.all.result t fresh_forward c.args.s.forward c.all.ensures.ran (YieldsList-from_slice _ cc)
    (λ x b q k. search (rules, tests))
    (search length_mapped depth 7)
