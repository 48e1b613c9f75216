-- A step's answer read backwards.
-- Assumes nothing.
use mathlib.Core.Path.{◌≡◌, refl, sym, ap, subst, ◌∙◌}
use mathlib.Core.Logic.{◌⊎◌}
use mathlib.Core.Bool.{true}
use Prim.Native.Nat.{ℕ, ◌<◌}
use lib.ListN.{set}
use borrow.Author.Tests.{lt-ltb, eqb-false}
use Rattle.std.specs.Prelude.{Result, Ok, Err}
use Rattle.program.specs.WellFormed.{program_test}
use Rattle.program.proofs.Tests.{and_both, is_true}
use Rattle.program.specs.declared.Refusal.{Refusal}
use Rattle.machine.specs.WellFormed.{machine_test}
use Rattle.machine.specs.Inner.{Formed}
use Rattle.certify_runs.specs.Below.{Code, Program, Memory, Thread, Machine}
use Rattle.step.specs.Step.{Step, Decision, rejected, accepted, rule_step, step}
use Rattle.step.specs.Answers.{stepped}
use Rattle.step.specs.Inner.{memory_after, Remembers, decision, Here, Moves}
use Rattle.step.proofs.Stepping.{step_formed, room_taken}
use Rattle.step.proofs.Kept.{kept}

stepped_taken : (r : Result Machine Refusal) (y : Machine) (o : Decision) → r ≡ stepped o → r ≡ Ok y → o ≡ accepted y
stepped_taken r y (rejected n) e h = absurd (eqb-false 0 1 refl cc)
stepped_taken r y (accepted z) e h = let q : z ≡ y = cc in ap accepted q

stepped_refused : (r : Result Machine Refusal) (n : Refusal) (o : Decision) → r ≡ stepped o → r ≡ Err n → o ≡ rejected n
stepped_refused r n (rejected k) e h = let q : k ≡ n = cc in ap rejected q
stepped_refused r n (accepted z) e h = absurd (eqb-false 0 1 refl cc)

-- on a well-formed program and machine the rules decide
by_rule : (p : Program) (x : Machine) → Formed p x → (k : Step) → step p x k ≡ rule_step p x k
by_rule p x o k = step_formed p x k true (sym (is_true _ (and_both (program_test p) (machine_test p x) o.program_formed o.machine_formed))) refl

module _ (p : Program) (x : Machine) (o : Formed p x) (k : Step) (r : Result Machine Refusal) (e : r ≡ stepped (rule_step p x k)) where
  pub rule_taken : {y : Machine} → r ≡ Ok y → step p x k ≡ accepted y
  rule_taken {y} h = by_rule p x o k ∙ stepped_taken r y (rule_step p x k) e h

  pub rule_refused : {n : Refusal} → r ≡ Err n → step p x k ≡ rejected n
  rule_refused {n} h = by_rule p x o k ∙ stepped_refused r n (rule_step p x k) e h

  -- the machine after a step that is taken is well formed again
  pub taken_formed : {y : Machine} → r ≡ Ok y → Formed p y
  taken_formed {y} h = record { program_formed = o.program_formed; machine_formed = kept p x y k (rule_taken h) }

-- the step of one thread, in a machine that has it
module _ (p : Program) (x : Machine) (o : Formed p x) (k : Step) (h : k.thread < p.threads) {c : Code} {m : Memory} {s : Thread} (g : Here c m s p x k.thread) (r : Result Thread Refusal) (e : Moves c m s k r) where
  by_thread : step p x k ≡ decision x k.thread (memory_after m k k.kind) r
  unfolding rule_step
  by_thread = by_rule p x o k ∙ rw (lt-ltb k.thread p.threads h) (e p x g)

  pub thread_taken : {u : Thread} → r ≡ Ok u → (n : Memory) → Remembers m k n → (y : Machine) → y ≡ record { memory = n; threads = set x.threads k.thread u } → step p x k ≡ accepted y
  thread_taken t n w y z = by_thread ∙ rw (t, z, w (subst (λ (j : Memory). (k.kind ≡ 0) ⊎ (j.count < 16)) g.memory (room_taken p x k _ r (e p x g) t)))

  pub thread_refused : {n : Refusal} → r ≡ Err n → step p x k ≡ rejected n
  thread_refused t = by_thread ∙ rw t
