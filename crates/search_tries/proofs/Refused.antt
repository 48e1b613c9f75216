-- Steps that need no try, because they are refused: at a time at which the instruction cannot execute, of a promise that has no room or is not reached.
-- Assumes nothing.
use mathlib.Core.Path.{◌≡◌, refl, subst}
use mathlib.Core.Bool.{◌&&◌}
use mathlib.Core.Option.{none, some}
use Prim.Native.Nat.{ℕ, ◌+◌, ◌*◌, ◌≤◌, ◌<◌}
use native.Mathlib.Omega.{arith}
use lib.Count.{ones}
use lib.Dec.{T, ltb, eqb, ltb→lt}
use borrow.Author.Tests.{le-ltb}
use Rattle.program.specs.declared.Program.{Program}
use Rattle.program.specs.declared.Instr.{Instr}
use Rattle.program.specs.Program.{instr_at, code_of}
use Rattle.program.specs.Counts.{stores_from}
use Rattle.program.specs.WellFormed.{program_test}
use Rattle.machine.specs.declared.Machine.{Machine}
use Rattle.machine.specs.declared.Thread.{Thread}
use Rattle.machine.specs.State.{thread_of}
use Rattle.machine.specs.Rules.{Executed, refused, next, execute}
use Rattle.machine.specs.WellFormed.{machine_test}
use Rattle.machine.proofs.Formed.{MachineOk}
use Rattle.program.proofs.Formed.{ProgramOk}
use Rattle.program.specs.declared.Refusal.TheVariants.{NotWellFormed, NoThread, StepKind, NotCertified}
use Rattle.certify_runs.specs.Certify.{certified}
use Rattle.certify_runs.proofs.Fit.{promises_fit}
use Rattle.certify_runs.specs.Inner.{Sound}
use Rattle.search_promises.specs.Explored.{Fillable}
use Rattle.search_promises.proofs.Law.{explored_law}
use Rattle.step.specs.Step.{Step, Decision, rejected, accepted, settle, settle_rule, execute_instr, kind_step, rule_step, execute_step, step, taken}
use Rattle.step.specs.Order.{execution, promise}
use Rattle.step.proofs.Backwards.{check_passed, not_accepted, promised_memory, promised_thread, Did, executed, promised, did}
use Rattle.step.proofs.Bound.{well_formed, one_promise}

-- what is not accepted is not taken
pub not_taken : (o : Decision) → ((y : Machine) → o ≡ accepted y → ⊥) → taken o ≡ none
not_taken (rejected n) h = refl
not_taken (accepted y) h = absurd (h y refl)

-- a thread of a well-formed machine is one of which explorations tell
pub sound_here : (p : Program) (x : Machine) → MachineOk p x → (i : ℕ) → i < p.threads → Sound x.memory (thread_of x i)
sound_here p x mo i h =
    let o = mo.states i h in
    record { places = mo.memory_ok.places; locations = o.locations; forwards = o.forward_times; promises_in = o.promises_in }

module _ (p : Program) (x : Machine) where
  -- an accepted step passed the test of the thread
  pub by_kind : (k : Step) (y : Machine) → step p x k ≡ accepted y → (k.thread < p.threads) × (kind_step p x k k.kind ≡ accepted y)
  unfolding step rule_step
  by_kind k y e =
      let q = check_passed (ltb k.thread p.threads) NoThread _ y (check_passed (program_test p && machine_test p x) NotWellFormed _ y e).1 in
      (ltb→lt k.thread p.threads q.0, q.1)

  too_many : (n : ℕ) → ProgramOk p → MachineOk p x → {k : Step} {y : Machine} → Did p x k y → k.kind ≡ 1 → n ≡ k.thread
      → stores_from (code_of p n) (thread_of x n).position ≤ ones (thread_of x n).promises → ⊥
  too_many n po mo (executed c s h g e q) z w full = omega arith
  too_many n po mo (promised {i} {l} {v} h low byte room q) z w full =
      let f = promises_fit (code_of p i) i (promised_memory x i l v) (promised_thread x i l v) q in
      let o = one_promise p x po mo i l v h in
      let full' : stores_from (code_of p i) (thread_of x i).position ≤ ones (thread_of x i).promises =
      subst (λ (j : ℕ). stores_from (code_of p j) (thread_of x j).position ≤ ones (thread_of x j).promises) w full in
      omega arith

  too_full : {k : Step} {y : Machine} → Did p x k y → k.kind ≡ 1 → 16 ≤ x.memory.count → ⊥
  too_full (executed c s h g e q) z full = omega arith
  too_full (promised {i} {l} {v} h low byte room q) z full = omega arith

  -- an accepted promise is reached
  reached_did : MachineOk p x → {k : Step} {y : Machine} → Did p x k y → k.kind ≡ 1 → Fillable (code_of p k.thread) x.memory (thread_of x k.thread) (256 * k.a + k.b)
  reached_did mo (executed c s h g e q) z = absurd (omega arith)
  reached_did mo (promised {i} {l} {v} h low byte room q) z =
      explored_law (code_of p i) i l v x.memory (thread_of x i) (sound_here p x mo i h) byte room q

  module _ (i : ℕ) where
    -- ---- times
    by_instruction : (t : ℕ) (y : Machine) → step p x (execution i t) ≡ accepted y → execute_instr p x i t (instr_at (code_of p i) (thread_of x i).position) ≡ accepted y
    unfolding kind_step execute_step
    by_instruction t y e = (check_passed (eqb 0 0) StepKind _ y (by_kind (execution i t) y e).1).1

    -- a thread at its end executes nothing
    pub no_instruction_lem : (t : ℕ) → (code_of p i).count ≤ (thread_of x i).position → taken (step p x (execution i t)) ≡ none
    unfolding instr_at
    no_instruction_lem t h =
        not_taken (step p x (execution i t))
        (λ y e. not_accepted (rw (le-ltb (thread_of x i).position (code_of p i).count h) at (by_instruction t y e)))

    -- a thread that has settled is certified
    has_settled : (y : Machine) (s : Thread) → settle p x i x.memory s ≡ accepted y → T (certified (code_of p i) i x.memory s)
    unfolding settle
    has_settled y s f = (check_passed (certified (code_of p i) i x.memory s) NotCertified _ y f).0

    -- at a time after which the thread is not certified
    pub not_certified : (c : Instr) → instr_at (code_of p i) (thread_of x i).position ≡ some c → (t : ℕ)
        → ((s : Thread) → execute c x.memory t (thread_of x i) ≡ next s → T (certified (code_of p i) i x.memory s) → ⊥) → taken (step p x (execution i t)) ≡ none
    not_certified c is_next t never =
        not_taken (step p x (execution i t)) (λ y e. go y (execute c x.memory t (thread_of x i)) refl (rw is_next at (by_instruction t y e)))
      where
        go : (y : Machine) (o : Executed) → execute c x.memory t (thread_of x i) ≡ o → settle_rule p x i o ≡ accepted y → ⊥
        go y (refused n) d f = not_accepted f
        go y (next s) d f = never s d (has_settled y s f)

    -- at a time at which the instruction cannot execute
    pub no_such_time : (c : Instr) → instr_at (code_of p i) (thread_of x i).position ≡ some c → (t : ℕ)
        → ((s : Thread) → execute c x.memory t (thread_of x i) ≡ next s → ⊥) → taken (step p x (execution i t)) ≡ none
    no_such_time c is_next t never = not_certified c is_next t (λ s e q. never s e)

    -- ---- promises
    -- each store that is left has its promise
    pub no_store_left : (l v : ℕ) → stores_from (code_of p i) (thread_of x i).position ≤ ones (thread_of x i).promises → taken (step p x (promise i l v)) ≡ none
    no_store_left l v full =
        not_taken (step p x (promise i l v))
        (λ y e. let w = well_formed p x y (promise i l v) e in too_many i w.0 w.1 (did p x y (promise i l v) e).2 refl refl full)

    -- 16 messages stand
    pub no_room : (l v : ℕ) → 16 ≤ x.memory.count → taken (step p x (promise i l v)) ≡ none
    no_room l v full = not_taken (step p x (promise i l v)) (λ y e. too_full (did p x y (promise i l v) e).2 refl full)

    -- a promise that no exploration reaches
    pub not_reached : (l v : ℕ) → (Fillable (code_of p i) x.memory (thread_of x i) (256 * l + v) → ⊥) → taken (step p x (promise i l v)) ≡ none
    not_reached l v never = not_taken (step p x (promise i l v)) (λ y e. never (reached_did (well_formed p x y (promise i l v) e).1 (did p x y (promise i l v) e).2 refl))
