-- `step_ending::complete` meets its contract.
-- Assumes nothing.
use Rattle.step_ending.proofs.Asking.{thread_done, all_four}
use Rattle.step.specs.Outcome.{complete}
use Rattle.certify_runs.proofs.Ready.{program_facts}
use Rattle.machine.specs.State.{thread_of}
use Rattle.program.proofs.Arrays.{length_mapped, get_d_any}
use Rattle.program.specs.Program.{code_of}
use lib.ListN.{length}
use lib.Dec.{eqb}
use native.Mathlib.Omega.{arith}
use mathlib.Core.Bool.{◌&&◌}
use mathlib.Core.Path.{◌≡◌, ◌∙◌}
use Rattle.step_ending.proofs.complete.Goals as goal

pub returns : goal.returns
unfolding complete code_of
returns c =
    let a = c.args in
    let p = a.p in
    let x = a.x in
    let codes : length p.codes ≡ 4 = search length_mapped depth 7 in
    let threads : length x.threads ≡ 4 = search length_mapped depth 7 in
    all_four (λ i. eqb (thread_of x i).position (code_of p i).count && eqb (thread_of x i).promises 0) p.threads (program_facts _ _ c.requires).few_threads
    (c.thread_done.ensures ∙ thread_done p x 0 _ _ (get_d_any _ _ x.threads 0 (omega arith)) (get_d_any _ _ p.codes 0 (omega arith)))
    (c.thread_done-2.ensures ∙ thread_done p x 1 _ _ (get_d_any _ _ x.threads 1 (omega arith)) (get_d_any _ _ p.codes 1 (omega arith)))
    (c.thread_done-3.ensures ∙ thread_done p x 2 _ _ (get_d_any _ _ x.threads 2 (omega arith)) (get_d_any _ _ p.codes 2 (omega arith)))
    (c.thread_done-4.ensures ∙ thread_done p x 3 _ _ (get_d_any _ _ x.threads 3 (omega arith)) (get_d_any _ _ p.codes 3 (omega arith)))
