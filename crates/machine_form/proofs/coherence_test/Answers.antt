-- `machine_form::coherence_test` meets its contract: all entries are all places.
-- Assumes nothing.
use Rattle.std.proofs.Common.{rules, tests, ℕ, leb}
use Rattle.std.proofs.lemmas.Iterator.{YieldsList-from_slice}
use Rattle.program_form.proofs.Loops.{entries_pass}
use Rattle.machine_form.proofs.coherence_test.Goals as goal

pub returns : goal.returns
returns c =
    let t = λ (w : ℕ). leb w c.args.n in
    entries_pass _ _ c.all.result t 0 c.args.s.coherence c.all.ensures.ran (YieldsList-from_slice _ cc)
    (λ x b q k. search (rules, tests))
    (search rules)
