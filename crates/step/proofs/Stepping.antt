-- What the code of a step relies on, on plain values: what each test says of the definition.
-- Assumes nothing.
use mathlib.Core.Path.{◌≡◌, refl, sym, ap, ap₂, subst, ◌∙◌}
use mathlib.Core.Bool.{Bool, true, false, ◌&&◌}
use mathlib.Core.Logic.{◌⊎◌, inl, inr}
use mathlib.Core.Option.{some}
use Prim.Native.Nat.{ℕ, zero, suc, ◌+◌, ◌≤◌, ◌<◌}
use native.Mathlib.Omega.{arith}
use lib.Dec.{T, eqb, leb, ltb, eqb→eq, ltb→lt}
use lib.ListN.{set}
use borrow.Author.Tests.{lt-ltb, le-ltb, le-leb, lt-leb, eq-eqb, ne_eqb}
use Rattle.std.specs.Prelude.{Result, Ok, Err}
use Rattle.program.specs.Program.{instr_at, code_of}
use Rattle.program.specs.WellFormed.{program_test}
use Rattle.program.proofs.Tests.{is_true}
use Rattle.program.specs.declared.Refusal.{Refusal}
use Rattle.program.specs.declared.Refusal.TheVariants.{NotWellFormed, NoThread, StepKind, NoLocation, MemoryFull, AtEnd, NotCertified}
use Rattle.machine.specs.State.{thread_of, append, with, with_promises}
use Rattle.machine.specs.Rules.{execute, add_promise}
use Rattle.machine.specs.WellFormed.{machine_test}
use Rattle.machine.specs.Inner.{Formed, ruled, reach}
use Rattle.machine.proofs.Cases.{reach_within, ruled_done, ruled_refused}
use Rattle.machine.proofs.Effects.{effect}
use Rattle.certify_runs.specs.Certify.{certified}
use Rattle.certify_runs.specs.Runs.{done}
use Rattle.certify_runs.proofs.Iff.{certified_iff}
use Rattle.certify_runs.specs.Inner.{Ready}
use Rattle.certify_runs.proofs.Ready.{ready_here, ready_after}
use Rattle.certify_runs.specs.Below.{Code, Program, Instr, Message, Memory, Thread, Machine}
use Rattle.step.specs.Step.{Step, rejected, accepted, settle, settle_rule, execute_instr, execute_step, promise_step, kind_step, rule_step, step}
use Rattle.step.specs.Answers.{stepped}
use Rattle.step.specs.Inner.{promised_by, memory_after, Remembers, decision, Here, Settles, Executes, Promises, PromisesKept, Moves}
use Rattle.step.proofs.Backwards.{check_passed}

-- ---- what a thread that is ready gives
module _ (c : Code) (m : Memory) (s : Thread) (o : Ready c m s) where
  -- the next instruction is within the code, and the position stays a byte
  pub position_small : (n : ℕ) → n < c.count → n < 16
  position_small n l = let h = o.code_ok.short in omega arith

  pub reach_small : (y : Instr) (n : ℕ) → instr_at c n ≡ some y → n + reach y < 256
  reach_small y n g = let k = reach_within c o.code_ok n y g in let h = o.code_ok.short in omega arith

  -- after an executed instruction the thread is ready again
  pub ready_executed : (y : Instr) (t : ℕ) (r : Result Thread Refusal) → r ≡ ruled (execute y m t s) → {s' : Thread} → r ≡ Ok s' → Ready c m s'
  ready_executed y t r e {s'} d = ready_after o (effect y m t s s' (ruled_done (execute y m t s) r e d))

-- ---- certified or not
-- a thread without a promise is
without_promise : (c : Code) (i : ℕ) (m : Memory) (s : Thread) → eqb s.promises 0 ≡ true → certified c i m s ≡ true
without_promise c i m s h = is_true (certified c i m s) ((certified_iff c i m s).1 (done (eqb→eq s.promises 0 (subst T (sym h) tt))))

module _ (c : Code) (i : ℕ) (m : Memory) (s : Thread) (b : Bool) (d : b ≡ certified c i m s) where
  the_test : (p : Program) → code_of p i ≡ c → certified (code_of p i) i m s ≡ b
  the_test p e = ap (λ (y : Code). certified y i m s) e ∙ sym d

  pub settle_yes : b ≡ true → Settles c i m s (Ok s)
  unfolding settle
  settle_yes q p x e = rw (the_test p e ∙ q)

  pub settle_no : b ≡ false → Settles c i m s (Err NotCertified)
  unfolding settle
  settle_no q p x e = rw (the_test p e ∙ q)

pub settle_free : (c : Code) (i : ℕ) (m : Memory) (s : Thread) (b : Bool) → b ≡ eqb s.promises 0 → b ≡ true → Settles c i m s (Ok s)
settle_free c i m s b d h p x e = settle_yes c i m s true (sym (without_promise c i m s (sym d ∙ h))) refl p x e

-- ---- executing
module _ (c : Code) (i : ℕ) (m : Memory) (s : Thread) (t : ℕ) where
  pub execute_end : c.count ≤ s.position → Executes c i m s t (Err AtEnd)
  unfolding execute_step instr_at
  execute_end l p x h = rw (h.code, h.thread, le-ltb s.position c.count l)

  module _ (y : Instr) (g : instr_at c s.position ≡ some y) (r : Result Thread Refusal) (d : r ≡ ruled (execute y m t s)) where
    the_instr : (p : Program) (x : Machine) → Here c m s p x i → execute_step p x i t ≡ settle_rule p x i (execute y m t s)
    unfolding execute_step
    the_instr p x h =
        let is_next : instr_at (code_of p i) (thread_of x i).position ≡ some y = rw (h.code, h.thread) g in
        ap (execute_instr p x i t) is_next ∙ ap₂ (λ (n : Memory) (u : Thread). settle_rule p x i (execute y n t u)) h.memory h.thread

    pub execute_done : {s' : Thread} → r ≡ Ok s' → (a : Result Thread Refusal) → Settles c i m s' a → Executes c i m s t a
    execute_done {s'} z a q p x h =
        the_instr p x h ∙ ap (settle_rule p x i) (ruled_done (execute y m t s) r d z)
        ∙ ap (λ (n : Memory). settle p x i n s') h.memory ∙ q p x h.code

    pub execute_refused : {n : Refusal} → r ≡ Err n → Executes c i m s t (Err n)
    execute_refused z p x h = the_instr p x h ∙ ap (settle_rule p x i) (ruled_refused (execute y m t s) r d z)

-- ---- promising
module _ (c : Code) (i : ℕ) (m : Memory) (s : Thread) (l v : ℕ) where
  pub promise_23 : 15 < l → Promises c i m s l v (Err NoLocation)
  unfolding promise_step
  promise_23 k p x h = rw (lt-leb l 15 k)

  pub promise_24 : l ≤ 15 → 16 ≤ m.count → Promises c i m s l v (Err MemoryFull)
  unfolding promise_step
  promise_24 k j p x h = rw (le-leb l 15 k, h.memory, le-ltb m.count 16 j)

  pub promise_settles : (a : Result Thread Refusal) → l ≤ 15 → m.count < 16 → (w : Message) → w ≡ record { location = l; value = v; thread = i }
      → Settles c i (append m w) (add_promise (append m w) s) a → Promises c i m s l v a
  unfolding promise_step
  promise_settles a k j w e q p x h =
      let few : x.memory.count < 16 = rw h.memory j in
      rw (le-leb l 15 k, lt-ltb x.memory.count 16 few, ← e)
      (ap₂ (λ (n : Memory) (u : Thread). settle p x i (append n w) (add_promise (append n w) u)) h.memory h.thread ∙ q p x h.code)

-- a promise after which the thread is certified
pub promise_keeps : (i : ℕ) (m : Memory) (s : Thread) (l v : ℕ) → l < 16 → m.count < 16 → PromisesKept i m s l v (Ok (with_promises (with s.promises (m.count + 1)) s))
promise_keeps i m s l v k j c q =
    let w : Message = record { location = l; value = v; thread = i } in
    promise_settles c i m s l v (Ok (with_promises (with s.promises (m.count + 1)) s)) (omega arith) j w refl (settle_yes c i (append m w) (add_promise (append m w) s) true (sym (is_true _ q)) refl)

-- ---- a step of a thread, by its kind
module _ (c : Code) (m : Memory) (s : Thread) (k : Step) where
  pub kind_execute_22 : k.kind ≡ 0 → (k.b ≡ 0 → ⊥) → Moves c m s k (Err StepKind)
  unfolding kind_step
  kind_execute_22 e n p x h = ap (kind_step p x k) e ∙ rw (ne_eqb k.b 0 n)

  pub kind_execute : (a : Result Thread Refusal) → k.kind ≡ 0 → k.b ≡ 0 → Executes c k.thread m s k.a a → Moves c m s k a
  unfolding kind_step
  kind_execute a e n q p x h =
      subst (λ (j : ℕ). kind_step p x k j ≡ decision x k.thread (memory_after m k j) a) (sym e) (rw (eq-eqb k.b 0 n) (q p x h))

  pub kind_22 : (k.kind ≡ 0 → ⊥) → (k.kind ≡ 1 → ⊥) → Moves c m s k (Err StepKind)
  unfolding kind_step
  kind_22 e n p x h = go k.kind e n
    where
      go : (j : ℕ) → (j ≡ 0 → ⊥) → (j ≡ 1 → ⊥) → kind_step p x k j ≡ rejected StepKind
      go zero a b = absurd (a refl)
      go (suc j) a b = rw (ne_eqb j 0 (λ q. b (omega arith)))

  pub kind_promise : (a : Result Thread Refusal) → k.kind ≡ 1 → k.b < 256 → Promises c k.thread m s k.a k.b a → Moves c m s k a
  unfolding kind_step
  kind_promise a e n q p x h =
      subst (λ (j : ℕ). kind_step p x k j ≡ decision x k.thread (memory_after m k j) a) (sym e) (rw (le-leb k.b 255 (omega arith)) (q p x h))

-- ---- the memory after a step
module _ (m : Memory) (k : Step) where
  pub remembers_same : k.kind ≡ 0 → Remembers m k m
  remembers_same e h = ap (memory_after m k) (sym e)

  pub remembers_none : (k.kind ≡ 0 → ⊥) → 16 ≤ m.count → Remembers m k m
  remembers_none n l (inl e) = absurd (n e)
  remembers_none n l (inr f) = absurd (omega arith)

  pub remembers_one : (k.kind ≡ 0 → ⊥) → (r : Memory) → r ≡ append m (promised_by k) → Remembers m k r
  remembers_one n r z h = z ∙ go k.kind n
    where
      go : (j : ℕ) → (j ≡ 0 → ⊥) → append m (promised_by k) ≡ memory_after m k j
      go zero f = absurd (f refl)
      go (suc j) f = refl

-- a promise that is taken had room in the memory
has_room : (p : Program) (x : Machine) (k : Step) (n : ℕ) → n ≡ k.kind → (y : Machine) → kind_step p x k n ≡ accepted y → (k.kind ≡ 0) ⊎ (x.memory.count < 16)
unfolding kind_step promise_step
has_room p x k zero z y e = inl (sym z)
has_room p x k (suc n) z y e =
    let a = check_passed (eqb n 0 && leb k.b 255) StepKind _ y e in
    let b = check_passed (leb k.a 15) NoLocation _ y a.1 in
    inr (ltb→lt x.memory.count 16 (check_passed (ltb x.memory.count 16) MemoryFull _ y b.1).0)

pub room_taken : (p : Program) (x : Machine) (k : Step) (m : Memory) (r : Result Thread Refusal) → kind_step p x k k.kind ≡ decision x k.thread m r → {s : Thread} → r ≡ Ok s → (k.kind ≡ 0) ⊎ (x.memory.count < 16)
room_taken p x k m r e t = has_room p x k k.kind refl _ (e ∙ ap (decision x k.thread m) t)

-- ---- any step
module _ (p : Program) (x : Machine) (k : Step) where
  pub rule_21 : p.threads ≤ k.thread → rule_step p x k ≡ rejected NoThread
  unfolding rule_step
  rule_21 h = rw (le-ltb k.thread p.threads h)

  module _ (h : k.thread < p.threads) (r : Result Thread Refusal) (c : Code) (s : Thread) (d : c ≡ code_of p k.thread) (e : s ≡ thread_of x k.thread) (q : Moves c x.memory s k r) where
    here : Here c x.memory s p x k.thread
    here = record { code = sym d; memory = refl; thread = sym e }

    by_thread : rule_step p x k ≡ decision x k.thread (memory_after x.memory k k.kind) r
    unfolding rule_step
    by_thread = rw (lt-ltb k.thread p.threads h) (q p x here)

    pub rule_taken : {s' : Thread} → r ≡ Ok s' → (m : Memory) → Remembers x.memory k m → (y : Machine) → y ≡ record { memory = m; threads = set x.threads k.thread s' } → Ok y ≡ stepped (rule_step p x k)
    rule_taken t m w y z = rw (by_thread, t, z, w (room_taken p x k _ r (q p x here) t))

    pub rule_refused : {n : Refusal} → r ≡ Err n → Err n ≡ stepped (rule_step p x k)
    rule_refused t = rw (by_thread, t)

-- ---- the thread of a well-formed machine is ready
pub thread_ready : (p : Program) (x : Machine) → Formed p x → (i : ℕ) → i < p.threads → (c : Code) (s : Thread) → c ≡ code_of p i → s ≡ thread_of x i → Ready c x.memory s
thread_ready p x o i h c s d e = rw (d, e) (ready_here p x o i h)

-- ---- a step asked of any program and machine
module _ (p : Program) (x : Machine) (k : Step) (f : Bool) (e : f ≡ (program_test p && machine_test p x)) where
  pub step_20 : f ≡ false → step p x k ≡ rejected NotWellFormed
  unfolding step
  step_20 h = rw (sym e ∙ h)

  pub step_formed : f ≡ true → step p x k ≡ rule_step p x k
  unfolding step
  step_formed h = rw (sym e ∙ h)

-- ---- answers that meet the contract coincide
pub step_coincide : (p : Program) (x : Machine) (k : Step) (r r' : Result Machine Refusal) → r ≡ stepped (step p x k) → r' ≡ stepped (step p x k) → r ≡ r'
step_coincide p x k r r' d d' = d ∙ sym d'
