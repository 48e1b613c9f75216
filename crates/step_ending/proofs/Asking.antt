-- What the code of the outcome question relies on: a location's last value looked for from the newest message on; conditions of a well-formed program.
-- Assumes nothing.
use mathlib.Core.Path.{◌≡◌, refl, sym, ap, ap₂, ◌∙◌, subst}
use mathlib.Core.Bool.{Bool, true, false, cond, ◌&&◌, ◌||◌}
use mathlib.Core.List.{List}
use Prim.Native.Nat.{ℕ, zero, suc, ◌+◌, ◌-◌, ◌≤◌, ◌<◌}
use native.Mathlib.Numerals.{add-one}
use native.Mathlib.Omega.{arith}
use lib.Dec.{T, eqb, ltb, eqb→eq, ltb→lt}
use lib.ListN.{get_or}
use borrow.Author.Tests.{eq-eqb, ne_eqb}
use Rattle.program.specs.Tests.{below}
use Rattle.program.specs.Program.{no_condition, code_of}
use Rattle.program.specs.WellFormed.{condition_test}
use Rattle.program.proofs.Tests.{all_at, below_at}
use Rattle.program.proofs.Shape.{program_iff}
use Rattle.machine.specs.State.{fresh_register, thread_of, message_at}
use Rattle.machine.specs.Inner.{Formed}
use Rattle.certify_runs.proofs.Ready.{machine_facts}
use Rattle.program.specs.declared.Code.{Code}
use Rattle.program.specs.declared.Condition.{Condition}
use Rattle.program.specs.declared.Program.{Program}
use Rattle.machine.specs.declared.Message.{Message}
use Rattle.machine.specs.declared.Memory.{Memory}
use Rattle.machine.specs.declared.Register.{Register}
use Rattle.machine.specs.declared.Thread.{Thread}
use Rattle.machine.specs.declared.Machine.{Machine}
use Rattle.step.specs.Outcome.{last_of, last_value, holds}
use Rattle.step_ending.specs.Conditions.{HoldsWith, all_hold, Askable}

and-true : (b : Bool) → (b && true) ≡ b
and-true true = refl
and-true false = refl

-- ---- a thread that is done, read by value
pub thread_done : (p : Program) (x : Machine) (i : ℕ) (s : Thread) (c : Code) → s ≡ thread_of x i → c ≡ code_of p i
    → (eqb s.position c.count && eqb s.promises 0) ≡ (eqb (thread_of x i).position (code_of p i).count && eqb (thread_of x i).promises 0)
thread_done p x i s c d e = ap₂ (λ (s : Thread) (c : Code). eqb s.position c.count && eqb s.promises 0) d e

-- four tests, each passed where there is no such thread
pub all_four : (f : ℕ → Bool) (n : ℕ) → n ≤ 4 → {a b c d : Bool} → a ≡ f 0 → b ≡ f 1 → c ≡ f 2 → d ≡ f 3
    → ((ltb n 4 || d) && ((ltb n 3 || c) && ((ltb n 2 || b) && (ltb n 1 || a)))) ≡ below f n
unfolding below
all_four f zero h e0 e1 e2 e3 = refl
all_four f (suc zero) h e0 e1 e2 e3 = rw e0 (sym (and-true (f 0)))
all_four f (suc (suc zero)) h e0 e1 e2 e3 = rw (e0, e1, and-true (f 0))
all_four f (suc (suc (suc zero))) h e0 e1 e2 e3 = rw (e0, e1, e2, and-true (f 0))
all_four f (suc (suc (suc (suc zero)))) h e0 e1 e2 e3 = rw (e0, e1, e2, e3, and-true (f 0))
all_four f (suc (suc (suc (suc (suc n))))) h e0 e1 e2 e3 = absurd (omega arith)

-- ---- the last value: no message after time t is at l
pub record Older (m : Memory) (l t : ℕ) : Type 0 where
  pub known : t ≤ m.count
  pub same : last_value m l ≡ last_of m l t

module _ {m : Memory} {l : ℕ} where
  pub older_all : Older m l m.count
  unfolding last_value
  older_all = record { known = omega arith; same = refl }

  pub older_hit : (t : ℕ) {w : Message} → Older m l t → 0 < t → w ≡ message_at m t → w.location ≡ l → w.value ≡ last_value m l
  unfolding last_of
  older_hit zero o h e q = absurd (omega arith)
  older_hit (suc n) {w} o h e q =
      let at : (message_at m (suc n)).location ≡ l = ap (λ (v : Message). v.location) (sym e) ∙ q in
      ap (λ (v : Message). v.value) e ∙ sym (o.same ∙ rw (eq-eqb (message_at m (suc n)).location l at))

  pub older_more : (t : ℕ) {w : Message} → Older m l t → 0 < t → w ≡ message_at m t → (w.location ≡ l → ⊥) → Older m l (t - 1)
  unfolding last_of
  older_more zero o h e q = absurd (omega arith)
  older_more (suc n) {w} o h e q =
      let n-is : suc n - 1 ≡ n = omega arith in
      rw n-is
      (record {
        known = let k = o.known in omega arith;
        same = o.same ∙ rw (ne_eqb (message_at m (suc n)).location l (λ z. q (ap (λ (v : Message). v.location) e ∙ z)));
      })

  pub older_none : (t : ℕ) → Older m l t → t ≤ 0 → 0 ≡ last_value m l
  unfolding last_of
  older_none zero o h = sym o.same
  older_none (suc n) o h = absurd (omega arith)

-- ---- a condition, by its kind
module _ (m : Memory) (s : Thread) (q : Condition) where
  pub holds_register : (r : Register) → q.kind ≡ 0 → r ≡ get_or s.registers q.index fresh_register → HoldsWith m s q (eqb r.value q.value)
  unfolding holds
  holds_register r k g x d e = rw (eq-eqb q.kind 0 k, g, e)

  pub holds_last : (v : ℕ) → (q.kind ≡ 0 → ⊥) → v ≡ last_value m q.index → HoldsWith m s q (eqb v q.value)
  unfolding holds
  holds_last v k g x d e = rw (ne_eqb q.kind 0 k, g, d)

-- ---- the conditions, one after the other: k of them hold
pub record Holding (question : List Condition) (x : Machine) (n k : ℕ) : Type 0 where
  pub within : k ≤ n
  pub so_far : all_hold question x k ≡ true

module _ {question : List Condition} {x : Machine} {n : ℕ} where
  pub holding_none : Holding question x n 0
  unfolding below
  holding_none = record { within = omega arith; so_far = refl }

  module _ {k : ℕ} (h : Holding question x n k) where
    pub holding_more : k < n → (b : Bool) → b ≡ holds x (get_or question k no_condition) → b ≡ true → Holding question x n (k + 1)
    unfolding below
    holding_more l b e z = record { within = omega arith; so_far = rw (add-one, sym e ∙ z, h.so_far) }

    pub holding_all : n ≤ k → true ≡ all_hold question x n
    holding_all l = let w = h.within in let e : k ≡ n = omega arith in sym h.so_far ∙ ap (all_hold question x) e

pub holding_fails : (question : List Condition) (x : Machine) (n k : ℕ) → k < n → (b : Bool) → b ≡ holds x (get_or question k no_condition) → b ≡ false → false ≡ all_hold question x n
holding_fails question x n k l b e z = go (all_hold question x n) refl
  where
    go : (all : Bool) → all_hold question x n ≡ all → false ≡ all
    go false w = refl
    go true w = absurd (subst T (sym e ∙ z) (below_at (λ j. holds x (get_or question j no_condition)) n (subst T (sym w) tt) k l))

-- ---- every condition of a well-formed program names one of the threads; where it asks for a location, thread 0
pub condition_thread : (p : Program) (x : Machine) → Formed p x → (k : ℕ) → k < p.conditions → (get_or p.question k no_condition).thread < 4
unfolding condition_test
condition_thread p x o k l =
    let q = get_or p.question k no_condition in
    let f = (program_iff p).0 o.program_formed in
    let few = f.few_threads in
    go q few (eqb q.kind 0) (all_at _ (f.conditions_ok k l) 1)
  where
    go : (q : Condition) → p.threads ≤ 4 → (b : Bool) → T (cond b (ltb q.thread p.threads) (eqb q.thread 0)) → q.thread < 4
    go q few true t = let h = ltb→lt q.thread p.threads t in omega arith
    go q few false t = let h = eqb→eq q.thread 0 t in omega arith

pub askable : (p : Program) (x : Machine) → Formed p x → Askable p.conditions p.question x
askable p x o = record { few = ((program_iff p).0 o.program_formed).few_conditions; room = (machine_facts p x o).memory_ok.room; thread_there = condition_thread p x o }
