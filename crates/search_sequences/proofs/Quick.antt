-- A quick way to compute an answer: over the steps worth trying, by the rules alone. It gives the answer.
-- Assumes nothing.
use mathlib.Core.Path.{◌≡◌, sym, ap, ◌∙◌}
use mathlib.Core.Bool.{◌&&◌}
use mathlib.Core.Option.{Option}
use Prim.Native.Nat.{ℕ}
use lib.Dec.{T}
use Rattle.program.specs.declared.Program.{Program}
use Rattle.program.specs.Counts.{size}
use Rattle.program.specs.WellFormed.{program_test}
use Rattle.program.proofs.Tests.{and_both}
use Rattle.program.specs.declared.Refusal.TheVariants.{NotWellFormed}
use Rattle.machine.specs.declared.Machine.{Machine}
use Rattle.machine.specs.State.{fresh}
use Rattle.machine.specs.WellFormed.{machine_test}
use Rattle.theory_sequences.specs.Answer.{Answer}
use Rattle.theory_sequences.specs.Scan.{told, asking}
use Rattle.theory_sequences.proofs.Fewer.{hunt}
use Rattle.theory_sequences.proofs.Alike.{stepped_by, hunt_alike}
use Rattle.step.specs.Step.{Step, rule_step, step, taken}
use Rattle.step.specs.Outcome.{asked}
use Rattle.step.proofs.OwnPromise.{check_yes}
use Rattle.step.proofs.Kept.{fresh_formed, kept}
use Rattle.search_sequences.specs.OfProgram.{stepping, answer_to}
use Rattle.search_sequences.proofs.Machine.{taken_accepted}
use Rattle.search_sequences.proofs.Few.{few, answer_few}

abbrev pub rule_next : Program → Machine → Step → Option Machine
rule_next p x k = taken (rule_step p x k)

unfoldable pub quick : Program → ℕ → Answer Step
quick p b = told b (hunt (stepped_by (stepping p) (rule_next p)) {N = Unit {0}} (asking (λ x. asked p x)) (few p) (size p) fresh b tt)

by_rules : (p : Program) → T (program_test p) → (x : Machine) (k : Step) → T (machine_test p x) → taken (step p x k) ≡ rule_next p x k
unfolding step
by_rules p h x k m = ap taken (check_yes (program_test p && machine_test p x) NotWellFormed (rule_step p x k) (and_both (program_test p) (machine_test p x) h m))

-- THE QUICK ANSWER IS THE ANSWER
pub quick_is : (p : Program) → T (program_test p) → (b : ℕ) → quick p b ≡ answer_to p b
unfolding quick
quick_is p h b =
    ap (told b)
    (sym (hunt_alike (stepping p) (rule_next p) (λ x. T (machine_test p x)) (λ x k m. by_rules p h x k m)
    (λ x y k m e. kept p x y k (taken_accepted (step p x k) y e)) (asking (λ x. asked p x)) (few p) (size p) fresh (fresh_formed p h) b tt))
    ∙ answer_few p b
