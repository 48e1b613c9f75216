-- Certification asked of a program, a machine and a thread by value: what each test says of the definition.
-- Assumes nothing.
use mathlib.Core.Path.{◌≡◌, refl, sym, ap, subst, ◌∙◌}
use mathlib.Core.Bool.{Bool, true, false, cond, ◌&&◌}
use mathlib.Core.List.{List}
use mathlib.Core.Option.{none, some}
use Prim.Native.Nat.{ℕ, ◌-◌, ◌≤◌, ◌<◌}
use native.Mathlib.Omega.{arith}
use lib.Dec.{T, eqb, ltb, eqb→eq}
use lib.ListN.{length}
use borrow.Author.Tests.{lt-ltb, le-ltb, eqb-false}
use Rattle.std.specs.Prelude.{Option, Some, None, Result, Ok, Err}
use Rattle.program.specs.Program.{code_of}
use Rattle.program.specs.WellFormed.{program_test}
use Rattle.program.specs.declared.Refusal.{Refusal}
use Rattle.program.specs.declared.Refusal.TheVariants.{NotWellFormed, NoThread}
use Rattle.machine.specs.State.{thread_of}
use Rattle.machine.specs.WellFormed.{machine_test}
use Rattle.certify_runs.specs.Below.{Code, Program, Memory, Thread, Machine}
use Rattle.certify_runs.specs.declared.Run.{Run}
use Rattle.certify_runs.specs.declared.RunStep.{RunStep}
use Rattle.certify_runs.specs.Certify.{Steps, first_run, certified}
use Rattle.certify_runs.specs.First.{First}
use Rattle.certify_runs.specs.Values.{run_of}
use Rattle.certify_runs.proofs.First.{certifies_run, run_short, first_is, first_none}
use Rattle.certify_runs.proofs.Iff.{certified_iff}
use Rattle.certify_trail.specs.Trail.{Trail}
use Rattle.certify_sought.specs.declared.Sought.{Sought}
use Rattle.certify_sought.specs.Numbers.{certifying, Twice}
use Rattle.certify_sought.specs.Aim.{Meets}
use Rattle.certify_tried.specs.declared.Reached.{Reached}
use Rattle.certify.specs.Answers.{shown, certify}
use Rattle.certify.specs.Search.{Found}
use Rattle.certify.specs.Shows.{Shows}
use Rattle.certify.proofs.Reaching.{found_twice, found_certified}

-- ---- the run that is shown
module _ (c : Code) (i : ℕ) (m : Memory) (s : Thread) (short : c.count ≤ 16) (q : Sought) (asked : q ≡ certifying) (r : Reached) (f : Found q.from q.met (λ y k. Meets c i m y q.hole k) s r) where
  is_certified : eqb r.met.least 0 ≡ certified c i m s
  is_certified = found_certified c i m s r.met (subst (λ (o : Sought). Twice o.from o.met (Meets c i m s o.hole) r.met) asked (found_twice q.from q.met (λ y k. Meets c i m y q.hole k) s r f))

  pub show_none : (r.met.least ≡ 0 → ⊥) → None ≡ shown (first_run c i m s)
  show_none n =
      ap shown (sym ((first_none c i m s).1 (λ l run. n (eqb→eq r.met.least 0 (subst T (sym is_certified) ((certified_iff c i m s).1 (certifies_run run)))))))

  pub show_run : Shows c i m s q r → r.met.least ≡ 0 → (run : Run) → ((l : List RunStep) → Trail r.cares.of l → length l ≤ 16 → run ≡ run_of l) → Some run ≡ shown (first_run c i m s)
  show_run shows z run is =
      let h = shows asked z in
      let few = run_short h.1.0.certifies in
      ap Some (is h.0 h.1.1 (omega arith)) ∙ ap shown (sym ((first_is c i m s h.0).1 h.1.0))

-- ---- the answers
module _ (p : Program) (x : Machine) (i : ℕ) (f : Bool) (e : f ≡ (program_test p && machine_test p x)) where
  pub certify_20 : f ≡ false → Err NotWellFormed ≡ certify p x i
  unfolding certify
  certify_20 h = rw (sym e ∙ h)

  module _ (h : f ≡ true) where
    pub certify_21 : p.threads ≤ i → Err NoThread ≡ certify p x i
    unfolding certify
    certify_21 l = rw (sym e ∙ h, le-ltb i p.threads l)

    pub certify_shown : i < p.threads → Ok (shown (first_run (code_of p i) i x.memory (thread_of x i))) ≡ certify p x i
    unfolding certify
    certify_shown l = rw (sym e ∙ h, lt-ltb i p.threads l)

-- ---- what yes means
module _ (c : Code) (i : ℕ) (m : Memory) (s : Thread) where
  -- the run that is shown is the first certifying one, and no longer than what is left of the thread
  abbrev pub Meant : Run → Type 0
  Meant run = (l : List RunStep) × ((run ≡ run_of l) × (First c i m s l × (length l ≤ c.count - s.position)))

  -- whatever the tests of the program, the machine and the thread's number say
  meant : (f g : Bool) (o : Steps) → first_run c i m s ≡ o → (run : Run) → Ok (Some run) ≡ cond f (cond g (Ok (shown o)) (Err NoThread)) (Err NotWellFormed) → Meant run
  meant true true (some l) e run y = let d = (first_is c i m s l).0 e in (l, (cc, (d, run_short d.certifies)))
  meant true true none e run y = absurd (eqb-false 0 1 refl cc)
  meant true false o e run y = absurd (eqb-false 0 1 refl cc)
  meant false g o e run y = absurd (eqb-false 0 1 refl cc)

-- A RUN THAT IS SHOWN, whoever shows it, is the first certifying one
pub certify_means : (p : Program) (x : Machine) (i : ℕ) (r : Result (Option Run) Refusal) → r ≡ certify p x i → (run : Run) → r ≡ Ok (Some run) → Meant (code_of p i) i x.memory (thread_of x i) run
unfolding certify
certify_means p x i r e run y =
    meant (code_of p i) i x.memory (thread_of x i) (program_test p && machine_test p x) (ltb i p.threads) (first_run (code_of p i) i x.memory (thread_of x i)) refl run (sym y ∙ e)

-- ---- answers that meet the contract coincide
pub certify_coincide : (p : Program) (x : Machine) (i : ℕ) (r r' : Result (Option Run) Refusal) → r ≡ certify p x i → r' ≡ certify p x i → r ≡ r'
certify_coincide p x i r r' e e' = e ∙ sym e'
