-- The room: from the fresh machine 16 messages are enough, so the limit of 16 refuses no step that could be certified without it.
-- Assumes nothing.
use mathlib.Core.Path.{◌≡◌, refl, sym, ap, ◌∙◌, subst}
use mathlib.Core.Bool.{Bool, true, false, ◌&&◌}
use mathlib.Core.Option.{some}
use Prim.Native.Nat.{ℕ, suc, ◌+◌, ◌≤◌, ◌<◌}
use native.Mathlib.Decide.{ℕ_discrete}
use native.Mathlib.Omega.{arith}
use lib.ListN.{length-set}
use lib.Dec.{T, eqb, leb, ltb, ltb→lt, not_T, nltb→le}
use borrow.Author.Tests.{eqb-false}
use Rattle.program.specs.Tests.{sum_below}
use Rattle.program.specs.Program.{instr_at, code_of}
use Rattle.program.specs.Counts.{stores_from, stores}
use Rattle.program.specs.WellFormed.{program_test}
use Rattle.program.proofs.Tests.{and_left}
use Rattle.program.proofs.Counts.{sum_same, sum_one}
use Rattle.program.proofs.Formed.{ProgramOk, program_ok}
use Rattle.program.specs.declared.Refusal.{Refusal}
use Rattle.program.specs.declared.Refusal.TheVariants.{NotWellFormed, NoThread, StepKind, NoLocation, MemoryFull, NotCertified}
use Rattle.machine.specs.State.{fresh_thread, fresh, thread_of, append, with, with_promises}
use Rattle.machine.specs.Rules.{add_promise}
use Rattle.machine.specs.WellFormed.{machine_test}
use Rattle.machine.proofs.Sets.{ones_none}
use Rattle.machine.proofs.Effects.{Effect}
use Rattle.machine.proofs.Formed.{MachineOk, machine_iff}
use Rattle.certify_runs.specs.Certify.{certified}
use Rattle.certify_runs.specs.Runs.{Run, Unlimited, Roomier}
use Rattle.certify_runs.proofs.Iff.{certified_iff}
use Rattle.certify_runs.proofs.Fit.{fits, promises_fit}
use Rattle.certify_runs.proofs.Limit.{roomier_append, unlimited_is_certifying}
use Rattle.certify_runs.specs.Inner.{outstanding}
use Rattle.certify_runs.specs.Below.{Code, Program, Instr, Message, Memory, Thread, Machine}
use Rattle.step.specs.Step.{Step, Decision, rejected, check, settle, promise_step, kind_step, rule_step, step}
use Rattle.step.specs.Order.{promise}
use Rattle.step.specs.Reached.{Reached, start, on}
use Rattle.step.proofs.Backwards.{moved, promised_memory, promised_thread, Did, executed, promised, did}
use Rattle.step.proofs.Kept.{reached_formed}
use Rattle.step.proofs.Bound.{moved_same, moved_other, sum_moved, instruction_left, in_array, one_promise, well_formed, fresh_thread_lem}

-- the stores left to a thread, and its promises outstanding, as numbers of its code and state
abbrev stores_left : Code → Thread → ℕ
stores_left c s = stores_from c s.position

abbrev promises_out : Code → Thread → ℕ
promises_out c s = outstanding s

-- no thread has more promises than stores left; a message was a store, or is a promise
record Counted (p : Program) (x : Machine) : Type 0 where
  fit : (i : ℕ) → i < p.threads → promises_out (code_of p i) (thread_of x i) ≤ stores_left (code_of p i) (thread_of x i)
  messages : x.memory.count + sum_below (λ i. stores_left (code_of p i) (thread_of x i)) p.threads ≤ stores p + sum_below (λ i. promises_out (code_of p i) (thread_of x i)) p.threads

none_out : (c : Code) → promises_out c fresh_thread ≤ stores_left c fresh_thread
unfolding fresh_thread
none_out c = let z = ones_none in omega arith

at_start : (c : Code) → stores_left c fresh_thread ≡ stores_from c 0
unfolding fresh_thread
at_start c = refl

fresh_counted : (p : Program) → Counted p fresh
unfolding stores fresh
fresh_counted p =
    let e : sum_below (λ i. stores_left (code_of p i) (thread_of fresh i)) p.threads ≡ sum_below (λ i. stores_from (code_of p i) 0) p.threads =
    sum_same (λ i. stores_left (code_of p i) (thread_of fresh i)) (λ i. stores_from (code_of p i) 0) p.threads (λ i l. ap (stores_left (code_of p i)) (fresh_thread_lem i) ∙ at_start (code_of p i)) in
    record {
      fit = λ i h. subst (λ (s : Thread). promises_out (code_of p i) s ≤ stores_left (code_of p i) s) (sym (fresh_thread_lem i)) (none_out (code_of p i));
      messages = omega arith;
    }

-- ---- a step
module _ (p : Program) (x : Machine) (po : ProgramOk p) (mo : MachineOk p x) (w : Counted p x) where
  fit_moved : (i : ℕ) (m : Memory) (s : Thread) → i < p.threads → promises_out (code_of p i) s ≤ stores_left (code_of p i) s
      → (j : ℕ) → j < p.threads → promises_out (code_of p j) (thread_of (moved x i m s) j) ≤ stores_left (code_of p j) (thread_of (moved x i m s) j)
  fit_moved i m s h f j l = go (ℕ_discrete j i)
    where
      go : Dec (j ≡ i) → promises_out (code_of p j) (thread_of (moved x i m s) j) ≤ stores_left (code_of p j) (thread_of (moved x i m s) j)
      go (yes e) =
          subst (λ (n : ℕ). promises_out (code_of p n) (thread_of (moved x i m s) n) ≤ stores_left (code_of p n) (thread_of (moved x i m s) n)) (sym e)
          (subst (λ (y : Thread). promises_out (code_of p i) y ≤ stores_left (code_of p i) y) (sym (moved_same x i m s (in_array p x po mo i h))) f)
      go (no e) = subst (λ (y : Thread). promises_out (code_of p j) y ≤ stores_left (code_of p j) y) (sym (moved_other x i j m s e)) (w.fit j l)

  counted_did : {k : Step} {x' : Machine} → Did p x k x' → Counted p x'
  counted_did (executed {i} {t} c s h g e q) =
      let u = sum_moved stores_left p x i x.memory s h (in_array p x po mo i h) in
      let v = sum_moved promises_out p x i x.memory s h (in_array p x po mo i h) in
      let d = (instruction_left (code_of p i) c g e).1 in
      let f = promises_fit (code_of p i) i x.memory s q in
      let wm = w.messages in
      record { fit = fit_moved i x.memory s h f; messages = omega arith }
  counted_did (promised {i} {l} {v} h low byte room q) =
      let m = promised_memory x i l v in
      let s = promised_thread x i l v in
      let u = sum_moved stores_left p x i m s h (in_array p x po mo i h) in
      let y = sum_moved promises_out p x i m s h (in_array p x po mo i h) in
      let o = one_promise p x po mo i l v h in
      let f = promises_fit (code_of p i) i m s q in
      let wm = w.messages in
      record { fit = fit_moved i m s h f; messages = omega arith }

counted : (p : Program) {x : Machine} → Reached p x → Counted p x
counted p start = fresh_counted p
counted p (on {x = x} k y r e) =
    let f = well_formed p x y k e in
    counted_did p x f.0 f.1 (counted p r) (did p x y k e).2

-- ---- the limit is no limit
module _ (p : Program) (formed : T (program_test p)) {x : Machine} (r : Reached p x) (i : ℕ) (h : i < p.threads) where
  -- the messages, and the stores left to the thread that are not promised, are at most 16
  roomy : x.memory.count + stores_left (code_of p i) (thread_of x i) ≤ 16 + promises_out (code_of p i) (thread_of x i)
  roomy =
      let few = (program_ok p formed).few_stores in
      let w = counted p r in
      let wm = w.messages in
      let t = sum_one (λ j. promises_out (code_of p j) (thread_of x j)) (λ j. stores_left (code_of p j) (thread_of x j)) p.threads i h w.fit in
      omega arith

  machine_ok : MachineOk p x
  machine_ok = (machine_iff p (program_ok p formed).few_threads x).0 (reached_formed p formed r)

  -- where 16 messages stand, one promise more could not be kept: not on any memory, and not without a limit on it either
  pub no_room_needed : 16 ≤ x.memory.count → {Room : Memory → Type 0} (m : Memory) (s : Thread) → s.position ≡ (thread_of x i).position
      → outstanding s ≡ suc (outstanding (thread_of x i)) → Run Room (code_of p i) i m s → ⊥
  no_room_needed full m s e o k =
      let a = roomy in
      let f = fits k in
      let q = ap (stores_from (code_of p i)) e in
      omega arith

  -- NO LIMIT, executing: after an executed instruction the thread is certified if it is so without the limit, on a memory with room for all its stores left
  pub no_limit_execute : (c : Instr) (t : ℕ) (s : Thread) → instr_at (code_of p i) (thread_of x i).position ≡ some c → Effect x.memory t (thread_of x i) c s
      → (m : Memory) → Roomier m x.memory (stores_from (code_of p i) s.position) → Unlimited (code_of p i) i m s → T (certified (code_of p i) i x.memory s)
  no_limit_execute c t s g e m q u =
      let a = roomy in
      let b = (instruction_left (code_of p i) c g e).1 in
      (certified_iff (code_of p i) i x.memory s).1 (unlimited_is_certifying _ q (omega arith) machine_ok.memory_ok.places (omega arith) u)

  -- NO LIMIT, promising: a promise that could be certified without the limit, on a memory with room for all the thread's stores left (it is one of them), finds room, and is certified with it
  pub no_limit_promise : (l v : ℕ) (m : Memory) → Roomier m x.memory (stores_from (code_of p i) (thread_of x i).position)
      → let m' = append m (record { location = l; value = v; thread = i }) in Unlimited (code_of p i) i m' (add_promise m' (thread_of x i))
      → (x.memory.count < 16) × T (certified (code_of p i) i (promised_memory x i l v) (promised_thread x i l v))
  no_limit_promise l v m q u =
      let n = x.memory in
      let s = thread_of x i in
      let w : Message = record { location = l; value = v; thread = i } in
      let m' = append m w in
      let u' : Unlimited (code_of p i) i m' (promised_thread x i l v) = subst (λ (c : ℕ). Unlimited (code_of p i) i m' (with_promises (with s.promises (c + 1)) s)) q.same_count u in
      let a = roomy in
      let places = machine_ok.memory_ok.places in
      let o = one_promise p x (program_ok p formed) machine_ok i l v h in
      let f = fits u' in
      let room : n.count < 16 = omega arith in
      let q' = roomier_append w q (omega arith) (omega arith) in (
        room,
        (certified_iff (code_of p i) i (promised_memory x i l v) (promised_thread x i l v)).1
            (unlimited_is_certifying _ q' (omega arith) (length-set n.messages n.count w ∙ places) (omega arith) u'),
      )

-- ---- refusal 24
pub refused_later : (b : Bool) (n m : Refusal) (o : Decision) → check b n o ≡ rejected m → (n ≡ m → ⊥) → T b × (o ≡ rejected m)
refused_later true n m o e d = (tt, e)
refused_later false n m o e d = absurd (d (cc))

pub not_settled : (p : Program) (x : Machine) (i : ℕ) (m : Memory) (s : Thread) (n : Refusal) → (NotCertified ≡ n → ⊥) → settle p x i m s ≡ rejected n → ⊥
unfolding settle
not_settled p x i m s n d e = let q = (refused_later (certified (code_of p i) i m s) NotCertified n _ e d).1 in eqb-false 0 1 refl cc

full : (b : Bool) (o : Decision) → check b MemoryFull o ≡ rejected MemoryFull → (o ≡ rejected MemoryFull → ⊥) → T b → ⊥
full true o e n t = n e
full false o e n t = t

refused_24 : (p : Program) (x : Machine) (i l v : ℕ) → step p x (promise i l v) ≡ rejected MemoryFull → T (program_test p) × (i < p.threads) × (16 ≤ x.memory.count)
unfolding step rule_step kind_step promise_step
refused_24 p x i l v e =
    let a = refused_later (program_test p && machine_test p x) NotWellFormed MemoryFull _ e (λ d. eqb-false 0 1 refl cc) in
    let b = refused_later (ltb i p.threads) NoThread MemoryFull _ a.1 (λ d. eqb-false 0 1 refl cc) in
    let c = refused_later (eqb 0 0 && leb v 255) StepKind MemoryFull _ b.1 (λ d. eqb-false 0 1 refl cc) in
    let d = refused_later (leb l 15) NoLocation MemoryFull _ c.1 (λ q. eqb-false 0 1 refl cc) in
    let f = full (ltb x.memory.count 16) _ d.1 (not_settled p x i (promised_memory x i l v) (promised_thread x i l v) MemoryFull (λ q. eqb-false 0 1 refl cc)) in
    (and_left (program_test p) (machine_test p x) a.0, ltb→lt i p.threads b.0, nltb→le x.memory.count 16 (not_T (ltb x.memory.count 16) f))

-- ROOM: after steps from the fresh machine, a promise that 24 refuses could not be certified either, on any memory, with the limit of 16 messages or without
pub room : (p : Program) {x : Machine} → Reached p x → (i l v : ℕ) → step p x (promise i l v) ≡ rejected MemoryFull
    → {Room : Memory → Type 0} (m : Memory) (s : Thread) → s.position ≡ (thread_of x i).position → outstanding s ≡ suc (outstanding (thread_of x i)) → Run Room (code_of p i) i m s → ⊥
room p {x} r i l v e =
    let q = refused_24 p x i l v e in
    no_room_needed p q.0 r i q.1 q.2
