-- What the code of the next step worth a try relies on, on plain values: numbers of steps, stores that are left, what a thread can try.
-- Assumes nothing.
use mathlib.Core.Path.{◌≡◌, refl, sym, ap, subst, ◌∙◌}
use mathlib.Core.Logic.{⊎_elim}
use mathlib.Core.Bool.{Bool, true, false, not}
use mathlib.Core.Option.{none, some}
use Prim.Native.Nat.{ℕ, zero, suc, ◌*◌, ◌+◌, ◌-◌, ◌/◌, ◌%◌, ◌≤◌, ◌<◌}
use native.Mathlib.Decide.{dec_lt}
use native.Mathlib.Omega.{arith}
use lib.Count.{ones}
use lib.Dec.{T, ltb}
use borrow.Author.Tests.{lt-ltb, le-ltb, ltb-true}
use Rattle.std.specs.Prelude.{Result}
use Rattle.program.specs.declared.Code.{Code}
use Rattle.program.specs.declared.Instr.{Instr}
use Rattle.program.specs.declared.Program.{Program}
use Rattle.program.specs.Program.{instr_at}
use Rattle.program.specs.Counts.{stores_from}
use Rattle.program.specs.declared.Refusal.{Refusal}
use Rattle.machine.specs.declared.Memory.{Memory}
use Rattle.machine.specs.declared.Thread.{Thread}
use Rattle.machine.specs.declared.Machine.{Machine}
use Rattle.machine.specs.State.{thread_of}
use Rattle.machine.specs.Rules.{next, execute}
use Rattle.machine.proofs.Cases.{was_true}
use Rattle.certify_ahead.proofs.Stores.{stores_end}
use Rattle.certify_sought.specs.declared.Met.{Met}
use Rattle.certify_sought.specs.Numbers.{LeastOrTwo}
use Rattle.certify_runs.specs.Inner.{Sound}
use Rattle.search_promises.specs.Explored.{Fillable}
use Rattle.search_promises.proofs.Kept.{reached_law}
use Rattle.step.specs.Step.{Step, step, taken}
use Rattle.step.specs.Order.{execution}
use Rattle.step.specs.Inner.{Here, PromisesKept, Moves}
use Rattle.step.proofs.Stepping.{kind_promise}
use Rattle.search_sequences.specs.Numbers.{key_promise}
use Rattle.search_tries.specs.Steps.{step_numbered, Numbered, NextStep}
use Rattle.rules_times.specs.Times.{AtZero, Later, After}
use Rattle.search_tries.specs.Worthwhile.{Attempts, Ahead, timely, Worth, NextTime, Promising, Foreseen, Keepable}
use Rattle.search_tries.proofs.Refused.{no_instruction_lem, no_such_time, no_store_left, no_room, not_reached}

-- ---- numbers of steps
pub at_time : (i k : ℕ) → k < 17 → execution i k ≡ step_numbered i k
unfolding step_numbered
at_time i k h = rw (lt-ltb k 17 h)

pub at_key : (i k : ℕ) → 17 ≤ k → key_promise i (k - 17) ≡ step_numbered i k
unfolding step_numbered
at_key i k h = rw (le-ltb k 17 h)

-- a step with a number that is not an execution is a promise
pub is_promise : (k : Step) → Numbered k → (k.kind ≡ 0 → ⊥) → k.kind ≡ 1
is_promise k n other = let low = n.1 in omega (arith, other)

-- ---- what a thread can try
module _ (c : Code) (m : Memory) (s : Thread) where
  no_promise : stores_from c s.position ≤ ones s.promises → (p : Program) (x : Machine) (i : ℕ) → Here c m s p x i → (n : ℕ) → taken (step p x (key_promise i n)) ≡ none
  no_promise full p x i h n = no_store_left p x i (n / 256) (n % 256) (rw (h.code, h.thread) full)

  -- all steps of a thread at its end are refused
  pub nothing_left : c.count ≤ s.position → NextStep step_numbered 4113 c m s 0 4113
  nothing_left e =
      let z = stores_end c s.position e in
      record {
        within = omega arith;
        after = λ l. l;
        refused = λ p x i g j a u. elim (dec_lt j 17) [
          | yes b ↦ ap (λ (y : Step). taken (step p x y)) (sym (at_time i j b)) ∙ no_instruction_lem p x i j (rw (g.code, g.thread) e)
          | no b ↦ ap (λ (y : Step). taken (step p x y)) (sym (at_key i j (omega arith))) ∙ no_promise (omega arith) p x i g (j - 17)
        ];
      }

  -- what the next instruction and the stores that are left give
  pub what_is_worth : (y : Instr) → instr_at c s.position ≡ some y → (z : Bool) → AtZero y z → (r : ℕ) → Later y m s r → (b : Bool)
      → b ≡ ltb (stores_from c s.position) (ones s.promises + 1) → Worth c m s (record { zero = z; later = r; promises = not b })
  what_is_worth y is_next z zero_only r later-only b e =
      record {
        times = λ p x i g k l. no_such_time p x i y (rw (g.code, g.thread) is_next) k (λ s' q. never k l s' (subst (λ (v : Thread). execute y m k v ≡ next s') g.thread (subst (λ (n : Memory). execute y n k (thread_of x i) ≡ next s') g.memory q)));
        promises = λ f. let few = ltb-true (stores_from c s.position) (ones s.promises + 1) (was_true e f) in no_promise (omega arith);
      }
    where
      never : (k : ℕ) → timely (record { zero = z; later = r; promises = not b }) k ≡ false → (s' : Thread) → execute y m k s ≡ next s' → ⊥
      never zero l s' q = zero_only l m s s' q
      never (suc k) l s' q = subst T l (later-only (suc k) s' (omega arith) q)

-- ---- the next of them
module _ {t : Attempts} where
  pub at_zero_now : t.zero ≡ true → NextTime t 0 0
  at_zero_now e = record { within = omega arith; after = λ l. omega arith; others = λ u l h. absurd (omega arith) }

  pub after_zero : t.zero ≡ false → (r : ℕ) → After t.later 0 r → NextTime t 0 r
  after_zero e r a = record { within = a.within; after = λ l. omega arith; others = λ u l h. go u h }
    where
      go : (u : ℕ) → u < r → timely t u ≡ false
      go zero h = e
      go (suc u) h = a.between (suc u) (omega arith) h

  pub after_time : (k r : ℕ) → (k ≡ 0 → ⊥) → After t.later (k - 1) r → NextTime t k r
  after_time k r n a = let l = a.later in record { within = a.within; after = λ _. omega (arith, n); others = λ u l h. go u l h }
    where
      go : (u : ℕ) → k ≤ u → u < r → timely t u ≡ false
      go zero l h = absurd (n (omega arith))
      go (suc u) l h = a.between (suc u) (omega (arith, n)) h

module _ (c : Code) (m : Memory) (s : Thread) where
  -- one number, and no other known
  pub one_ahead : (k : ℕ) → Promising c m s k → Foreseen c m s (record { next = k; then = 0 })
  one_ahead k h = record { next_kept = h; then_kept = λ l u. absurd (omega arith); then_next = λ n. absurd (n refl) }

  nothing_ahead : Foreseen c m s (record { next = 4113; then = 0 })
  nothing_ahead = one_ahead 4113 (λ l u. absurd (omega arith))

  -- the next promise is the next step
  next_key : (from n : ℕ) → NextStep key_promise 4096 c m s from n → NextStep step_numbered 4113 c m s (from + 17) (n + 17)
  next_key from n nx =
      record {
        within = let w = nx.within in omega arith;
        after = λ l. let a : from ≤ n = nx.after (omega arith) in omega arith;
        refused = λ p x i g k l u. ap (λ (y : Step). taken (step p x y)) (sym (at_key i k (omega arith))) ∙ nx.refused p x i g (k - 17) (omega arith) (omega arith);
      }

  -- none is worth a try
  pub none_promised : (t : Attempts) → Worth c m s t → (from : ℕ) → t.promises ≡ false → NextStep step_numbered 4113 c m s (from + 17) 4113 × Foreseen c m s (record { next = 4113; then = 0 })
  none_promised t w from e =
      (next_key from 4096 (record { within = omega arith; after = λ l. l; refused = λ p x i h k l u. w.promises e p x i h k }), nothing_ahead)

  -- none has room
  pub next_full : (from : ℕ) → 16 ≤ m.count → NextStep step_numbered 4113 c m s (from + 17) 4113 × Foreseen c m s (record { next = 4113; then = 0 })
  next_full from full =
      (next_key from 4096 (record { within = omega arith; after = λ l. l; refused = λ p x i h k a u. no_room p x i (k / 256) (k % 256) (rw h.memory full) }), nothing_ahead)

  -- what no exploration reaches is refused
  unreached : (k : ℕ) → (Fillable c m s k → ⊥) → (p : Program) (x : Machine) (i : ℕ) → Here c m s p x i → taken (step p x (key_promise i k)) ≡ none
  unreached k never p x i h =
      let same : 256 * (k / 256) + k % 256 ≡ k = omega arith in
      not_reached p x i (k / 256) (k % 256) (rw (h.code, h.memory, h.thread) (λ r. never (subst (Fillable c m s) same r)))

  -- from what an exploration answers
  module _ (from : ℕ) (r : Met) (known : LeastOrTwo from 4096 (Fillable c m s) r) where
    first_key : NextStep key_promise 4096 c m s from r.least
    first_key =
        record {
          within = known.within;
          after = λ h. elim (dec_lt r.least 4096) [ yes u ↦ (known.first u).0 | no u ↦ omega arith ];
          refused = λ p x i h k a u. unreached k (known.others k a u) p x i h;
        }

    second_key : (r.second ≡ 0 → ⊥) → NextStep key_promise 4096 c m s (r.least + 1) r.second
    second_key n =
        let two = known.two n in
        let w = two.within in
        record {
          within = w;
          after = λ h. ⊎_elim (λ l. omega arith) (λ e. let f = e.0 in absurd (omega arith)) two.ordered;
          refused = λ p x i h k a u.
              let low = (known.first (omega arith)).0 in
              unreached k (two.others k (omega arith) u (λ e. omega arith)) p x i h;
        }

    first_kept : m.count < 16 → Promising c m s (r.least + 17)
    first_kept few l u = (few, subst (Fillable c m s) (omega arith) (known.first (omega arith)).1)

    -- one promise
    pub one_explored : m.count < 16 → NextStep step_numbered 4113 c m s (from + 17) (r.least + 17) × Foreseen c m s (record { next = r.least + 17; then = 0 })
    one_explored few = (next_key from r.least first_key, one_ahead (r.least + 17) (first_kept few))

    -- two of them
    pub two_explored : m.count < 16 → (r.second ≡ 0 → ⊥)
        → NextStep step_numbered 4113 c m s (from + 17) (r.least + 17) × Foreseen c m s (record { next = r.least + 17; then = r.second + 17 })
    two_explored few n = (
      next_key from r.least first_key,
      record {
        next_kept = first_kept few;
        then_kept = λ l u. (few, subst (Fillable c m s) (omega arith) ((known.two n).then (omega arith)).1);
        then_next = λ _. subst (λ (k : ℕ). NextStep step_numbered 4113 c m s k (r.second + 17)) (omega arith) (next_key (r.least + 1) r.second (second_key n));
      },
    )

  pub past_times : (from : ℕ) (r : Ahead) → 17 ≤ from → NextStep step_numbered 4113 c m s (from - 17 + 17) r.next × Foreseen c m s r → NextStep step_numbered 4113 c m s from r.next × Foreseen c m s r
  past_times from r h nx = (subst (λ (k : ℕ). NextStep step_numbered 4113 c m s k r.next) (omega arith) nx.0, nx.1)

  -- a promise with such a number can be kept
  pub keepable : (i k : ℕ) → k < 4113 → Promising c m s k → (y : Step) → y ≡ step_numbered i k → Keepable c m s y
  keepable i k h q y e = subst (Keepable c m s) (sym e) (elim (dec_lt k 17) [
    | yes l ↦ subst (Keepable c m s) (at_time i k l) (λ z. absurd (omega arith))
    | no l ↦ subst (Keepable c m s) (at_key i k (omega arith))
        (λ z. let r = q (omega arith) h in
        let same : k - 17 ≡ 256 * ((k - 17) / 256) + (k - 17) % 256 = omega arith in
        (omega arith, r.0, subst (Fillable c m s) same r.1))
  ])

  -- and leaves the thread certified
  pub promise_kept : (k : Step) → k.kind ≡ 1 → Sound m s → Keepable c m s k → k.b < 256 → (r : Result Thread Refusal) → PromisesKept k.thread m s k.a k.b r → Moves c m s k r
  promise_kept k e ok q byte r h =
      let z = q e in
      kind_promise c m s k r e byte (h c (reached_law c k.thread k.a k.b m s ok byte z.1 z.2))

  -- what is known to come after the first
  pub foreseen : (k : Ahead) → Foreseen c m s k → (k.then ≡ 0 → ⊥) → NextStep step_numbered 4113 c m s (k.next + 1) k.then × Foreseen c m s (record { next = k.then; then = 0 })
  foreseen k f n = (f.then_next n, one_ahead k.then f.then_kept)

  module _ (t : Attempts) (w : Worth c m s t) (from k : ℕ) (h : from < 17) (nt : NextTime t from k) where
    -- at a time
    pub at_a_time : k < 17 → NextStep step_numbered 4113 c m s from k × Foreseen c m s (record { next = k; then = 0 })
    at_a_time l = (
      record {
        within = omega arith;
        after = λ _. nt.after (omega arith);
        refused = λ p x i g j a u. ap (λ (y : Step). taken (step p x y)) (sym (at_time i j (omega arith))) ∙ w.times p x i g j (nt.others j a u);
      },
      one_ahead k (λ a u. absurd (omega arith)),
    )

    -- no time is left, so on to the promises
    pub after_times : 17 ≤ k → (r : Ahead) → NextStep step_numbered 4113 c m s 17 r.next × Foreseen c m s r → NextStep step_numbered 4113 c m s from r.next × Foreseen c m s r
    after_times l r nx =
        let top = nx.0.after (omega arith) in (
          record {
            within = nx.0.within;
            after = λ _. omega arith;
            refused = λ p x i g j a u. elim (dec_lt j 17) [
              | yes b ↦ ap (λ (y : Step). taken (step p x y)) (sym (at_time i j b)) ∙ w.times p x i g j (nt.others j a (omega arith))
              | no b ↦ nx.0.refused p x i g j (omega arith) u
            ];
          },
          nx.1,
        )
