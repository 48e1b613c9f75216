-- From the fresh machine, a load of one of the thread's own outstanding promises that passes 26 and 27 is refused by 29.
-- Assumes nothing.
use mathlib.Core.Path.{◌≡◌, refl, sym, ap, ◌∙◌, subst}
use mathlib.Core.Logic.{⊎_elim}
use mathlib.Core.Bool.{Bool, true, false, cond, ◌&&◌}
use mathlib.Core.Option.{some}
use Prim.Native.Nat.{ℕ, max, ◌≤◌, ◌<◌}
use native.Mathlib.Omega.{arith}
use lib.Dec.{T, eqb, ltb, eqb→eq, lt→ltb}
use lib.ListN.{length, get_or}
use Rattle.theory_views.specs.Views.{view_at, raise_at}
use Rattle.theory_views.proofs.Entries.{set_all, replicate_all}
use Rattle.theory_views.proofs.Merging.{raise_reaches}
use Rattle.program.specs.Program.{instr_at, code_of}
use Rattle.program.specs.WellFormed.{program_test}
use Rattle.program.proofs.Tests.{and_both}
use Rattle.program.proofs.Formed.{program_ok}
use Rattle.program.specs.declared.Refusal.{Refusal}
use Rattle.program.specs.declared.Refusal.TheVariants.{NotWellFormed, NoThread, NoMessage, NewerMessage, NotCertified}
use Rattle.machine.specs.State.{fresh_forward, fresh_thread, thread_of, has}
use Rattle.machine.specs.Rules.{Executed, next, test, view_of₂, readable, none_newer, read_view, load_done, load_at, execute}
use Rattle.machine.specs.WellFormed.{machine_test}
use Rattle.machine.proofs.Sets.{has_none, has_removed, has_added}
use Rattle.machine.proofs.Effects.{load_location, load_pre_view, load_post_view, Effect, computed, loaded, stored, branched, fenced, readable_time, read_there}
use Rattle.machine.proofs.Formed.{MachineOk, machine_iff}
use Rattle.certify_runs.specs.Certify.{certified}
use Rattle.certify_runs.proofs.Dead.{Dead, dead_run}
use Rattle.certify_runs.specs.Below.{Program, Operand, LoadMode, Instr, Load, Memory, Forward, Thread, Machine}
use Rattle.step.specs.Step.{Step, Decision, rejected, accepted, check, settle, settle_rule, execute_instr, execute_step, kind_step, rule_step, step}
use Rattle.step.specs.Order.{execution}
use Rattle.step.specs.Reached.{Reached, start, on}
use Rattle.step.proofs.Backwards.{moved, promised_thread, Did, executed, promised, did}
use Rattle.step.proofs.Bound.{well_formed, fresh_thread_lem}

-- ---- a forward time is never that of an outstanding promise
abbrev NotOut : ℕ → Forward → Type 0
NotOut p w = T (has p w.time) → ⊥

abbrev Quiet : Thread → Type 0
Quiet s = (k : ℕ) → NotOut s.promises (get_or s.forward k fresh_forward)

fresh_quiet : Quiet fresh_thread
unfolding fresh_thread
fresh_quiet = replicate_all (NotOut 0) 16 fresh_forward (λ h. has_none 0 0 refl h)

exec_quiet : {m : Memory} {t : ℕ} {s : Thread} {x : Instr} {s' : Thread} → Quiet s → Effect m t s x s' → Quiet s'
exec_quiet h (computed e) = h
exec_quiet h (loaded r n) = h
exec_quiet {m} {t} {s} h (stored p a b) =
    set_all (NotOut _) fresh_forward _ s.forward _ (λ k w. h k (has_removed s.promises t _ p.out w).0) (λ w. (has_removed s.promises t t p.out w).1 refl)
exec_quiet h (branched e) = h
exec_quiet h (fenced e) = h

module _ (p : Program) (x : Machine) (mo : MachineOk p x) (q : (i : ℕ) → Quiet (thread_of x i)) where
  promise_quiet : (i l v : ℕ) → i < p.threads → Quiet (promised_thread x i l v)
  promise_quiet i l v h k w =
      let o = mo.states i h in
      let f = o.forward_times k in
      let s = thread_of x i in
      ⊎_elim (λ e. omega arith) (λ d. q i k d) (has_added s.promises x.memory.count (get_or s.forward k fresh_forward).time o.promises_in w)

  did_quiet : {k : Step} {x' : Machine} → Did p x k x' → (j : ℕ) → Quiet (thread_of x' j)
  did_quiet (executed {i} c s h g e y) = set_all Quiet fresh_thread s x.threads i q (exec_quiet (q i) e)
  did_quiet (promised {i} {l} {v} h low byte room y) = set_all Quiet fresh_thread (promised_thread x i l v) x.threads i q (promise_quiet i l v h)

quiet : (p : Program) {x : Machine} → Reached p x → (i : ℕ) → Quiet (thread_of x i)
quiet p start = λ i. subst Quiet (sym (fresh_thread_lem i)) fresh_quiet
quiet p (on {x = x} k y r e) = let f = well_formed p x y k e in did_quiet p x f.1 (quiet p r) (did p x y k e).2

-- ---- the load
at_least : (t u v : ℕ) → (u ≡ t → ⊥) → t ≤ cond (eqb t u) v t
at_least t u v n = go (eqb t u) refl
  where
    go : (c : Bool) → eqb t u ≡ c → t ≤ cond c v t
    go true e = absurd (n (sym (eqb→eq t u (subst T (sym e) tt))))
    go false e = omega arith

pub check_no : (b : Bool) (n : Refusal) (o : Decision) → (T b → ⊥) → check b n o ≡ rejected n
check_no true n o h = absurd (h tt)
check_no false n o h = refl

pub check_yes : (b : Bool) (n : Refusal) (o : Decision) → T b → check b n o ≡ o
check_yes true n o h = refl
check_yes false n o h = absurd h

test_yes : (b : Bool) (n : Refusal) (o : Executed) → T b → test b n o ≡ o
test_yes true n o h = refl
test_yes false n o h = absurd h

-- after the load the coherence view has come up to the promise, which is then out of reach
module _ (m : Memory) (s : Thread) (sixteen : length s.coherence ≡ 16) (q : Quiet s) (k : LoadMode) (r : ℕ) (t l va pre : ℕ) where
  load_dead : l < 16 → 0 < t → T (has s.promises t) → T (readable m l t) → Dead t m (load_done k r m t l va (max pre (read_view s l t)) s)
  load_dead low x h rd =
      let post = max pre (read_view s l t) in
      let f = get_or s.forward l fresh_forward in
      let n = at_least t f.time f.view (λ e. q l (subst (λ (u : ℕ). T (has s.promises u)) (sym e) h)) in
      let up = raise_reaches s.coherence l post (omega arith) in
      let hi : t ≤ view_at (raise_at s.coherence l post) l = omega arith in
      record { in_memory = readable_time m l t rd; out = h; high = subst (λ (j : ℕ). t ≤ view_at (raise_at s.coherence l post) j) (sym (read_there m l t x rd)) hi }

-- OWN PROMISE: on a machine that is reached from the fresh one, a load of an own outstanding promise that passes 26 and 27 is refused by 29
module _ (p : Program) {x : Machine} (r : Reached p x) (formed : T (program_test p) × T (machine_test p x)) (i t : ℕ) (k : LoadMode) (reg : ℕ) (a b : Operand) where
  pub own_promise : i < p.threads → instr_at (code_of p i) (thread_of x i).position ≡ some (Load k reg a b) → 0 < t → T (has (thread_of x i).promises t)
      → T (readable x.memory (load_location (thread_of x i) a b) t)
      → T (none_newer x.memory (load_location (thread_of x i) a b) t (max (load_pre_view k (thread_of x i) a b) (view_at (thread_of x i).coherence (load_location (thread_of x i) a b))))
      → step p x (execution i t) ≡ rejected NotCertified
  unfolding step rule_step kind_step execute_step settle execute load_at
  own_promise h g late out p26 p27 =
      let s = thread_of x i in
      let m = x.memory in
      let l = load_location s a b in
      let s' = load_done k reg m t l (view_of₂ s a b) (load_post_view k s a b t) s in
      let po = program_ok p formed.0 in
      let mo = (machine_iff p po.few_threads x).0 formed.1 in
      let d = load_dead m s (mo.states i h).locations (quiet p r i) k reg t l (view_of₂ s a b) (load_pre_view k s a b) (omega arith) late out p26 in
      check_yes (program_test p && machine_test p x) NotWellFormed _ (and_both (program_test p) (machine_test p x) formed.0 formed.1)
      ∙ check_yes (ltb i p.threads) NoThread (execute_instr p x i t (instr_at (code_of p i) s.position)) (lt→ltb i p.threads h)
      ∙ ap (execute_instr p x i t) g
      ∙ ap (settle_rule p x i) (test_yes (readable m l t) NoMessage _ p26 ∙ test_yes (none_newer m l t (max (load_pre_view k s a b) (view_at s.coherence l))) NewerMessage (next s') p27)
      ∙ check_no (certified (code_of p i) i m s') NotCertified (accepted (moved x i m s')) (dead_run (code_of p i) i t m s' d)
