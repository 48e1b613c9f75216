-- An accepted step read backwards: which tests it passed, and what it did to the machine.
-- Assumes nothing.
use mathlib.Core.Path.{◌≡◌, refl, sym, subst}
use mathlib.Core.Bool.{Bool, true, false, ◌&&◌}
use mathlib.Core.Option.{Option, none, some}
use Prim.Native.Nat.{ℕ, zero, suc, ◌<◌}
use native.Mathlib.Omega.{arith}
use lib.Dec.{T, eqb, leb, ltb, eqb→eq, leb→le, ltb→lt}
use lib.ListN.{set}
use borrow.Author.Tests.{eqb-false}
use Rattle.program.specs.Program.{instr_at, code_of}
use Rattle.program.specs.WellFormed.{program_test}
use Rattle.program.proofs.Tests.{and_left, and_right}
use Rattle.program.specs.declared.Refusal.{Refusal}
use Rattle.program.specs.declared.Refusal.TheVariants.{NotWellFormed, NoThread, StepKind, NoLocation, MemoryFull, NotCertified}
use Rattle.machine.specs.State.{thread_of, append}
use Rattle.machine.specs.Rules.{Executed, refused, next, execute, add_promise}
use Rattle.machine.specs.WellFormed.{machine_test}
use Rattle.machine.proofs.Effects.{Effect, effect}
use Rattle.certify_runs.specs.Certify.{certified}
use Rattle.certify_runs.specs.Below.{Program, Instr, Memory, Thread, Machine}
use Rattle.step.specs.Step.{Step, Decision, rejected, accepted, check, settle, settle_rule, execute_instr, execute_step, promise_step, kind_step, rule_step, step}

-- the machine with thread i at s, on memory m
abbrev pub moved : Machine → ℕ → Memory → Thread → Machine
moved x i m s = record { memory = m; threads = set x.threads i s }

-- the memory after thread i promised location l and value v
abbrev pub promised_memory : Machine → ℕ → ℕ → ℕ → Memory
promised_memory x i l v = append x.memory (record { location = l; value = v; thread = i })

-- the thread after that promise
abbrev pub promised_thread : Machine → ℕ → ℕ → ℕ → Thread
promised_thread x i l v = add_promise (promised_memory x i l v) (thread_of x i)

-- what an accepted step did to the machine
pub data Did (p : Program) (x : Machine) : Step → Machine → Type 0 where
  executed : {i t : ℕ} (c : Instr) (s : Thread) → i < p.threads → instr_at (code_of p i) (thread_of x i).position ≡ some c
      → Effect x.memory t (thread_of x i) c s → T (certified (code_of p i) i x.memory s)
      → Did p x (record { kind = 0; thread = i; a = t; b = 0 }) (moved x i x.memory s)
  promised : {i l v : ℕ} → i < p.threads → l < 16 → v < 256 → x.memory.count < 16
      → T (certified (code_of p i) i (promised_memory x i l v) (promised_thread x i l v))
      → Did p x (record { kind = 1; thread = i; a = l; b = v }) (moved x i (promised_memory x i l v) (promised_thread x i l v))

pub check_passed : (b : Bool) (n : Refusal) (o : Decision) (x : Machine) → check b n o ≡ accepted x → T b × (o ≡ accepted x)
check_passed true n o x e = (tt, e)
check_passed false n o x e = absurd (eqb-false 0 1 refl cc)

pub not_accepted : {n : Refusal} {x : Machine} → rejected n ≡ accepted x → ⊥
not_accepted {n} {x} e = eqb-false 0 1 refl cc

accepted_same : {x y : Machine} → accepted x ≡ accepted y → x ≡ y
accepted_same {x} {y} e = cc

module _ (p : Program) (x x' : Machine) where
  settled : (i : ℕ) (m : Memory) (s : Thread) → settle p x i m s ≡ accepted x' → T (certified (code_of p i) i m s) × (moved x i m s ≡ x')
  unfolding settle
  settled i m s e = let q = check_passed (certified (code_of p i) i m s) NotCertified _ x' e in (q.0, accepted_same q.1)

  did_rule : (i t : ℕ) (c : Instr) (o : Executed) → i < p.threads → instr_at (code_of p i) (thread_of x i).position ≡ some c
      → execute c x.memory t (thread_of x i) ≡ o → settle_rule p x i o ≡ accepted x' → Did p x (record { kind = 0; thread = i; a = t; b = 0 }) x'
  did_rule i t c (refused n) h g f e = absurd (not_accepted e)
  did_rule i t c (next s) h g f e =
      let q = settled i x.memory s e in
      subst (Did p x (record { kind = 0; thread = i; a = t; b = 0 })) q.1 (executed c s h g (effect c x.memory t (thread_of x i) s f) q.0)

  did_instr : (i t : ℕ) (o : Option Instr) → i < p.threads → instr_at (code_of p i) (thread_of x i).position ≡ o → execute_instr p x i t o ≡ accepted x'
      → Did p x (record { kind = 0; thread = i; a = t; b = 0 }) x'
  did_instr i t none h g e = absurd (not_accepted e)
  did_instr i t (some c) h g e = did_rule i t c (execute c x.memory t (thread_of x i)) h g refl e

  did_promise : (i l v : ℕ) → i < p.threads → v < 256 → promise_step p x i l v ≡ accepted x' → Did p x (record { kind = 1; thread = i; a = l; b = v }) x'
  unfolding promise_step
  did_promise i l v h b e =
      let r = check_passed (leb l 15) NoLocation _ x' e in
      let q = check_passed (ltb x.memory.count 16) MemoryFull _ x' r.1 in
      let w = settled i (promised_memory x i l v) (promised_thread x i l v) q.1 in
      let low = leb→le l 15 r.0 in
      let l16 : l < 16 = omega arith in
      subst (Did p x (record { kind = 1; thread = i; a = l; b = v })) w.1 (promised h l16 b (ltb→lt x.memory.count 16 q.0) w.0)

  did_kind : (k : Step) (n : ℕ) → n ≡ k.kind → k.thread < p.threads → kind_step p x k n ≡ accepted x' → Did p x k x'
  unfolding kind_step execute_step
  did_kind k zero z h e =
      let q = check_passed (eqb k.b 0) StepKind _ x' e in
      let d = did_instr k.thread k.a (instr_at (code_of p k.thread) (thread_of x k.thread).position) h refl q.1 in
      let b0 = eqb→eq k.b 0 q.0 in
      subst (λ (y : Step). Did p x y x') (λ i. record { kind = z i; thread = k.thread; a = k.a; b = sym b0 i }) d
  did_kind k (suc n) z h e =
      let q = check_passed (eqb n 0 && leb k.b 255) StepKind _ x' e in
      let n0 = eqb→eq n 0 (and_left (eqb n 0) (leb k.b 255) q.0) in
      let byte = leb→le k.b 255 (and_right (eqb n 0) (leb k.b 255) q.0) in
      let b256 : k.b < 256 = omega arith in
      let one : 1 ≡ k.kind = omega arith in
      let d = did_promise k.thread k.a k.b h b256 q.1 in
      subst (λ (y : Step). Did p x y x') (λ i. record { kind = one i; thread = k.thread; a = k.a; b = k.b }) d

  -- THE STEP, BACKWARDS
  pub did : (k : Step) → step p x k ≡ accepted x' → T (program_test p) × T (machine_test p x) × Did p x k x'
  unfolding step rule_step
  did k e =
      let f = check_passed (program_test p && machine_test p x) NotWellFormed _ x' e in
      let q = check_passed (ltb k.thread p.threads) NoThread _ x' f.1 in (
        and_left (program_test p) (machine_test p x) f.0,
        and_right (program_test p) (machine_test p x) f.0,
        did_kind k k.kind refl (ltb→lt k.thread p.threads q.0) q.1,
      )
