-- From the fresh machine no step is refused with 28: a thread that would be too late for one of its promises is not certified.
-- Assumes nothing.
use mathlib.Core.Path.{◌≡◌, refl, sym, ap, subst, ◌∙◌}
use mathlib.Core.Logic.{◌⊎◌, inl, inr, ⊎_elim}
use mathlib.Core.Bool.{Bool, true, false, ◌&&◌}
use mathlib.Core.Option.{Option, none, some, some-injective}
use Prim.Native.Nat.{ℕ, zero, suc, max, ◌+◌, ◌^◌, ◌≤◌, ◌<◌}
use native.Mathlib.Decide.{ℕ_discrete}
use native.Mathlib.Omega.{arith}
use lib.Dec.{T, eqb, leb, ltb, eqb→eq, ltb→lt}
use lib.ListN.{length}
use borrow.Author.Tests.{ltb-false, eqb-false}
use Rattle.theory_views.specs.Views.{view_at, raise_at}
use Rattle.theory_views.proofs.Merging.{raise_reaches}
use Rattle.program.specs.Program.{instr_at, code_of}
use Rattle.program.specs.WellFormed.{program_test}
use Rattle.program.proofs.Tests.{and_left, and_right}
use Rattle.program.proofs.Formed.{ProgramOk, program_ok}
use Rattle.program.specs.declared.Refusal.{Refusal}
use Rattle.program.specs.declared.Refusal.TheVariants.{NotWellFormed, NoThread, StepKind, NoLocation, MemoryFull, NoMessage, NewerMessage, ViewNotBelow}
use Rattle.machine.specs.State.{fresh_thread, fresh, thread_of, message_at, append, has}
use Rattle.machine.specs.Rules.{Executed, refused, next, test, value_of, view_of, store_pre, address, readable, none_newer, promised, load_at, store_at, execute, add_promise}
use Rattle.machine.specs.WellFormed.{machine_test}
use Rattle.machine.proofs.Sets.{has_positive, has_none, has_time, has_without, with_without}
use Rattle.machine.proofs.Memories.{message_stays}
use Rattle.machine.proofs.Effects.{load_location, load_pre_view, store_location, Effect, computed, loaded, stored, branched, fenced, effect}
use Rattle.machine.proofs.Formed.{MachineOk, machine_iff}
use Rattle.certify_runs.specs.Certify.{certified}
use Rattle.certify_runs.specs.Runs.{Run, Certifying, done, by, own}
use Rattle.certify_runs.proofs.Iff.{certified_iff}
use Rattle.certify_runs.proofs.Fit.{value_promised, Owned, owned, own_effect}
use Rattle.certify_runs.proofs.Dead.{Dead, dead_ends}
use Rattle.certify_runs.specs.Below.{Code, Program, Instr, Compute, Load, Store, Branch, Fence, Message, Memory, Thread, Machine}
use Rattle.step.specs.Step.{Step, rejected, settle_rule, execute_instr, execute_step, promise_step, kind_step, rule_step, step}
use Rattle.step.specs.Reached.{Reached, start, on}
use Rattle.step.proofs.Backwards.{moved, promised_memory, promised_thread, Did, executed, did}
use Rattle.step.proofs.Backwards as backwards
use Rattle.step.proofs.Bound.{moved_same, moved_other, in_array, well_formed, fresh_thread_lem}
use Rattle.step.proofs.Kept.{kept}
use Rattle.step.proofs.Room.{refused_later, not_settled}

-- ---- too late: the instruction is a store to the location of the outstanding promise at t, whose message is y, and one of its views is not below t
abbrev Late : Message → ℕ → Thread → Instr → Type 0
Late y t s (Compute k r a b) = ⊥
Late y t s (Load k r a b) = ⊥
Late y t s (Store k a d) = T (has s.promises t) × (y.location ≡ store_location s a) × ((t ≤ store_pre k (view_of s a) (view_of s d) s.views) ⊎ (t ≤ view_at s.coherence (store_location s a)))
Late y t s (Branch n a b) = ⊥
Late y t s (Fence k) = ⊥

late_out : (c : Instr) (y : Message) (t : ℕ) (s : Thread) → Late y t s c → T (has s.promises t)
late_out (Compute k r a b) y t s q = absurd q
late_out (Load k r a b) y t s q = absurd q
late_out (Store k a d) y t s q = q.0
late_out (Branch n a b) y t s q = absurd q
late_out (Fence k) y t s q = absurd q

-- after the store, at whatever time, the coherence view has come up to the promise, which is then out of reach
module _ {t : ℕ} {m : Memory} {s : Thread} (low : t ≤ m.count) (sixteen : length s.coherence ≡ 16) where
  late_by : {u : ℕ} {x : Instr} {s' : Thread} → Late (message_at m t) t s x → Effect m u s x s' → Dead t m s'
  late_by q (computed e) = absurd q
  late_by q (loaded r n) = absurd q
  late_by {u} q (stored {a = a} p pre coh) =
      let above : t < u = ⊎_elim (λ h. omega arith) (λ h. omega arith) q.2 in
      let up = raise_reaches s.coherence (store_location s a) u (omega arith) in
      let hi : t ≤ view_at (raise_at s.coherence (store_location s a) u) (store_location s a) = omega arith in
      record {
        in_memory = low;
        out = has_without s.promises u t p.out (λ e. omega arith) q.0;
        high = subst (λ (l : ℕ). t ≤ view_at (raise_at s.coherence (store_location s a) u) l) (sym q.1) hi;
      }
  late_by q (branched e) = absurd q
  late_by q (fenced e) = absurd q

  late_own : {i : ℕ} {w : Message} {x : Instr} {s' : Thread} → Late (message_at m t) t s x → Owned i m w s x s' → Dead t (append m w) s'
  late_own {w} q (owned {a = a} e) =
      let s₁ = add_promise (append m w) s in
      let n = m.count + 1 in
      let up = raise_reaches s.coherence (store_location s₁ a) n (omega arith) in
      let hi : t ≤ view_at (raise_at s.coherence (store_location s₁ a) n) (store_location s₁ a) = omega arith in
      let place = ap (λ (y : Message). y.location) (message_stays m w t (has_positive s.promises t q.0) low) ∙ q.1 ∙ sym (ap address (value_promised (append m w) s a)) in
      record {
        in_memory = omega arith;
        out = subst (λ (p : ℕ). T (has p t)) (sym (with_without s.promises n)) q.0;
        high = subst (λ (l : ℕ). t ≤ view_at (raise_at s.coherence (store_location s₁ a) n) l) (sym place) hi;
      }

-- so no run starts before it
late_ends : {Room : Memory → Type 0} {c : Code} {i t : ℕ} {m : Memory} {s : Thread} (x : Instr) → instr_at c s.position ≡ some x → t ≤ m.count → length s.coherence ≡ 16
    → Late (message_at m t) t s x → Run Room c i m s → ⊥
late_ends {t = t} {m = m} {s = s} x f low sixteen q (done e) = has_none s.promises t e (late_out x (message_at m t) t s q)
late_ends {t = t} {m = m} {s = s} x f low sixteen q (by y u s' g tl e r) =
    dead_ends (late_by low sixteen (subst (Late (message_at m t) t s) (some-injective _ _ (sym f ∙ g)) q) (effect y m u s s' e)) r
late_ends {i = i} {t = t} {m = m} {s = s} x f low sixteen q (own y w s' g gw room e r) =
    dead_ends
    (late_own low sixteen (subst (Late (message_at m t) t s) (some-injective _ _ (sym f ∙ g)) q) (own_effect i m w s gw (effect y (append m w) (append m w).count (add_promise (append m w) s) s' e)))
    r

-- ---- each promise stood in a memory on which the thread, as it is, was certified
abbrev Backed : Code → ℕ → Memory → Thread → Type 0
Backed c i m s = (t : ℕ) → T (has s.promises t) → (w : Memory) × (t ≤ w.count) × (message_at w t ≡ message_at m t) × Certifying c i w s

backed_now : (c : Code) (i : ℕ) (m : Memory) (s : Thread) → s.promises < 2 ^ m.count → T (certified c i m s) → Backed c i m s
backed_now c i m s small q t h = (m, has_time s.promises m.count t small h, refl, (certified_iff c i m s).0 q)

backed_on : (c : Code) (i : ℕ) (m : Memory) (y : Message) (s : Thread) → s.promises < 2 ^ m.count → Backed c i m s → Backed c i (append m y) s
backed_on c i m y s small b t h =
    let w = b t h in
    (w.0, w.1, w.2 ∙ sym (message_stays m y t (has_positive s.promises t h) (has_time s.promises m.count t small h)), w.3)

abbrev AllBacked : Program → Machine → Type 0
AllBacked p x = (i : ℕ) → i < p.threads → Backed (code_of p i) i x.memory (thread_of x i)

none_out : (c : Code) (i : ℕ) (m : Memory) → Backed c i m fresh_thread
unfolding fresh_thread
none_out c i m t h = absurd (has_none 0 t refl h)

fresh_backed : (p : Program) → AllBacked p fresh
fresh_backed p i l = subst (Backed (code_of p i) i fresh.memory) (sym (fresh_thread_lem i)) (none_out (code_of p i) i fresh.memory)

module _ (p : Program) (x : Machine) (po : ProgramOk p) (mo : MachineOk p x) (b : AllBacked p x) where
  -- thread i moves, the others stay
  backed_moved : (i : ℕ) (m : Memory) (s : Thread) → i < p.threads → Backed (code_of p i) i m s
      → ((j : ℕ) → j < p.threads → Backed (code_of p j) j m (thread_of x j)) → AllBacked p (moved x i m s)
  backed_moved i m s h now others j l = go (ℕ_discrete j i)
    where
      go : Dec (j ≡ i) → Backed (code_of p j) j m (thread_of (moved x i m s) j)
      go (yes e) =
          subst (λ (n : ℕ). Backed (code_of p n) n m (thread_of (moved x i m s) n)) (sym e)
          (subst (Backed (code_of p i) i m) (sym (moved_same x i m s (in_array p x po mo i h))) now)
      go (no e) = subst (Backed (code_of p j) j m) (sym (moved_other x i j m s e)) (others j l)

  small_after : (i : ℕ) (m : Memory) (s : Thread) → i < p.threads → MachineOk p (moved x i m s) → s.promises < 2 ^ m.count
  small_after i m s h mo' = subst (λ (y : Thread). y.promises < 2 ^ m.count) (moved_same x i m s (in_array p x po mo i h)) (mo'.states i h).promises_in

  backed_did : {k : Step} {x' : Machine} → Did p x k x' → MachineOk p x' → AllBacked p x'
  backed_did (executed {i} c s h g e q) mo' = backed_moved i x.memory s h (backed_now (code_of p i) i x.memory s (small_after i x.memory s h mo') q) b
  backed_did (backwards.promised {i} {l} {v} h low byte room q) mo' =
      let m = promised_memory x i l v in
      let s = promised_thread x i l v in
      backed_moved i m s h (backed_now (code_of p i) i m s (small_after i m s h mo') q)
      (λ j r. backed_on (code_of p j) j x.memory _ (thread_of x j) (mo.states j r).promises_in (b j r))

backed : (p : Program) {x : Machine} → Reached p x → AllBacked p x
backed p start = fresh_backed p
backed p (on {x = x} k y r e) =
    let f = well_formed p x y k e in
    backed_did p x f.0 f.1 (backed p r) (did p x y k e).2 ((machine_iff p f.0.few_threads y).0 (kept p x y k e))

-- ---- refusal 28, read backwards
rule_later : (b : Bool) (n : Refusal) (o : Executed) → test b n o ≡ refused ViewNotBelow → (n ≡ ViewNotBelow → ⊥) → T b × (o ≡ refused ViewNotBelow)
rule_later true n o e d = (tt, e)
rule_later false n o e d = absurd (d (cc))

not_done : {s : Thread} {n : Refusal} → next s ≡ refused n → ⊥
not_done {s} {n} e = eqb-false 0 1 refl cc

not_below : (pre coh t : ℕ) (s : Thread) → test (ltb pre t && ltb coh t) ViewNotBelow (next s) ≡ refused ViewNotBelow → (t ≤ pre) ⊎ (t ≤ coh)
not_below pre coh t s h = go (ltb pre t) refl (ltb coh t) refl h
  where
    go : (a : Bool) → ltb pre t ≡ a → (b : Bool) → ltb coh t ≡ b → test (a && b) ViewNotBelow (next s) ≡ refused ViewNotBelow → (t ≤ pre) ⊎ (t ≤ coh)
    go true e true f h = absurd (not_done h)
    go true e false f h = inr (ltb-false coh t f)
    go false e b f h = inl (ltb-false pre t e)

late : (c : Instr) (m : Memory) (t : ℕ) (s : Thread) → execute c m t s ≡ refused ViewNotBelow → Late (message_at m t) t s c
unfolding execute load_at store_at promised
late (Compute k r a b) m t s e = absurd (not_done (rule_later (eqb t 0) NoMessage _ e (λ d. eqb-false 0 1 refl cc)).1)
late (Load k r a b) m t s e =
    let l = load_location s a b in
    let q = (rule_later (readable m l t) NoMessage _ e (λ d. eqb-false 0 1 refl cc)).1 in
    absurd (not_done (rule_later (none_newer m l t (max (load_pre_view k s a b) (view_at s.coherence l))) NewerMessage _ q (λ d. eqb-false 0 1 refl cc)).1)
late (Store k a d) m t s e =
    let l = store_location s a in
    let q = rule_later (promised m t l (value_of s d) s) NoMessage _ e (λ d. eqb-false 0 1 refl cc) in
    let h = q.0 in
    let out : T (has s.promises t) = search (and_left, and_right) in
    let place : T (eqb (message_at m t).location l) = search (and_left, and_right) in
    (out, eqb→eq _ _ place, not_below (store_pre k (view_of s a) (view_of s d) s.views) (view_at s.coherence l) t _ q.1)
late (Branch n a b) m t s e = absurd (not_done (rule_later (eqb t 0) NoMessage _ e (λ d. eqb-false 0 1 refl cc)).1)
late (Fence k) m t s e = absurd (not_done (rule_later (eqb t 0) NoMessage _ e (λ d. eqb-false 0 1 refl cc)).1)

-- the step was an execution, and its rule refused it
record Refused28 (p : Program) (x : Machine) (k : Step) : Type 0 where
  formed : T (program_test p) × T (machine_test p x)
  in_program : k.thread < p.threads
  instr : Instr
  at : instr_at (code_of p k.thread) (thread_of x k.thread).position ≡ some instr
  by_rule : execute instr x.memory k.a (thread_of x k.thread) ≡ refused ViewNotBelow

module _ (p : Program) (x : Machine) (k : Step) (formed : T (program_test p) × T (machine_test p x)) (h : k.thread < p.threads) where
  refused_rule : (c : Instr) (o : Executed) → instr_at (code_of p k.thread) (thread_of x k.thread).position ≡ some c
      → execute c x.memory k.a (thread_of x k.thread) ≡ o → settle_rule p x k.thread o ≡ rejected ViewNotBelow → Refused28 p x k
  refused_rule c (refused n) g f e = let z : n ≡ ViewNotBelow = cc in record { formed = formed; in_program = h; instr = c; at = g; by_rule = f ∙ ap refused z }
  refused_rule c (next s) g f e = absurd (not_settled p x k.thread x.memory s ViewNotBelow (λ d. eqb-false 0 1 refl cc) e)

  refused_instr : (o : Option Instr) → instr_at (code_of p k.thread) (thread_of x k.thread).position ≡ o → execute_instr p x k.thread k.a o ≡ rejected ViewNotBelow
      → Refused28 p x k
  refused_instr none g e = absurd (eqb-false 0 1 refl cc)
  refused_instr (some c) g e = refused_rule c (execute c x.memory k.a (thread_of x k.thread)) g refl e

  refused_kind : (n : ℕ) → kind_step p x k n ≡ rejected ViewNotBelow → Refused28 p x k
  unfolding kind_step execute_step promise_step
  refused_kind zero e =
      refused_instr (instr_at (code_of p k.thread) (thread_of x k.thread).position) refl (refused_later (eqb k.b 0) StepKind ViewNotBelow _ e (λ d. eqb-false 0 1 refl cc)).1
  refused_kind (suc n) e =
      let i = k.thread in
      let a = refused_later (eqb n 0 && leb k.b 255) StepKind ViewNotBelow _ e (λ d. eqb-false 0 1 refl cc) in
      let b = refused_later (leb k.a 15) NoLocation ViewNotBelow _ a.1 (λ d. eqb-false 0 1 refl cc) in
      let c = refused_later (ltb x.memory.count 16) MemoryFull ViewNotBelow _ b.1 (λ d. eqb-false 0 1 refl cc) in
      absurd (not_settled p x i (promised_memory x i k.a k.b) (promised_thread x i k.a k.b) ViewNotBelow (λ d. eqb-false 0 1 refl cc) c.1)

refused_28 : (p : Program) (x : Machine) (k : Step) → step p x k ≡ rejected ViewNotBelow → Refused28 p x k
unfolding step rule_step
refused_28 p x k e =
    let a = refused_later (program_test p && machine_test p x) NotWellFormed ViewNotBelow _ e (λ d. eqb-false 0 1 refl cc) in
    let b = refused_later (ltb k.thread p.threads) NoThread ViewNotBelow _ a.1 (λ d. eqb-false 0 1 refl cc) in
    refused_kind p x k (and_left (program_test p) (machine_test p x) a.0, and_right (program_test p) (machine_test p x) a.0) (ltb→lt k.thread p.threads b.0) k.kind b.1

-- IN TIME: on a machine that is reached from the fresh one no step is refused with 28
pub in_time : (p : Program) {x : Machine} → Reached p x → (k : Step) → step p x k ≡ rejected ViewNotBelow → ⊥
in_time p {x} r k e =
    let f = refused_28 p x k e in
    let i = k.thread in
    let s = thread_of x i in
    let po = program_ok p f.formed.0 in
    let mo = (machine_iff p po.few_threads x).0 f.formed.1 in
    let q = late f.instr x.memory k.a s f.by_rule in
    let w = backed p r i f.in_program k.a (late_out f.instr (message_at x.memory k.a) k.a s q) in
    late_ends f.instr f.at w.1 (mo.states i f.in_program).locations (subst (λ (y : Message). Late y k.a s f.instr) (sym w.2) q) w.3
