-- The question asked of an outcome: it holds of the bytes exactly where it holds of the machine.
-- Assumes nothing.
use mathlib.Core.Path.{◌≡◌, refl, sym, ap, ap₂, ◌∙◌}
use mathlib.Core.Bool.{Bool, true, false, cond, ◌&&◌, true≢false}
use mathlib.Core.List.{List, ◌++◌, map}
use Prim.Native.Nat.{ℕ, zero, suc, ◌+◌, ◌*◌, ◌≤◌, ◌<◌}
use native.Mathlib.Omega.{arith}
use lib.Dec.{T, eqb, ltb, leb, ltb→lt, leb→le}
use lib.ListN.{length, get_or, replicate, length-append, get_or-append}
use lib.Seq.{get_or-append-add}
use borrow.Author.Tests.{lt-ltb}
use Rattle.program.specs.declared.Program.{Program}
use Rattle.program.specs.declared.Condition.{Condition}
use Rattle.program.specs.Tests.{below}
use Rattle.program.specs.Program.{no_condition}
use Rattle.program.specs.WellFormed.{program_test, condition_test}
use Rattle.program.proofs.Tests.{all_at}
use Rattle.program.proofs.Shape.{program_iff}
use Rattle.machine.specs.declared.Machine.{Machine}
use Rattle.machine.specs.State.{fresh_register, thread_of}
use Rattle.step.specs.Order.{range, for_each}
use Rattle.step.specs.Outcome.{last_value, holds, question_holds, register_values, outcome, holds_in, satisfies}
use Rattle.search_outcomes.proofs.LastValues.{range_at}

-- ---- lists of one length, one after the other
module _ (f : ℕ → List ℕ) (w : ℕ) (each : (i : ℕ) → length (f i) ≡ w) where
  parts_length : (k n : ℕ) → length (for_each (range k n) f) ≡ w * n
  unfolding range for_each
  parts_length k zero = omega arith
  parts_length k (suc n) = length-append (f k) (for_each (range (suc k) n) f) ∙ (let a = each k in let b = parts_length (suc k) n in omega arith)

  -- place j of list i
  parts_at : (k n i j : ℕ) → i < n → j < w → get_or (for_each (range k n) f) (w * i + j) 0 ≡ get_or (f (k + i)) j 0
  unfolding range for_each
  parts_at k zero i j h l = absurd (omega arith)
  parts_at k (suc n) zero j h l =
      let a = each k in
      let e : w * 0 + j ≡ j = omega arith in
      let z : k ≡ k + 0 = omega arith in
      ap (λ (m : ℕ). get_or (f k ++ for_each (range (suc k) n) f) m 0) e
      ∙ get_or-append (f k) (for_each (range (suc k) n) f) 0 j (omega arith)
      ∙ ap (λ (m : ℕ). get_or (f m) j 0) z
  parts_at k (suc n) (suc i) j h l =
      let a = each k in
      let e : w * suc i + j ≡ length (f k) + (w * i + j) = omega arith in
      let z : suc k + i ≡ k + suc i = omega arith in
      ap (λ (m : ℕ). get_or (f k ++ for_each (range (suc k) n) f) m 0) e
      ∙ get_or-append-add (f k) (for_each (range (suc k) n) f) (w * i + j) 0
      ∙ parts_at (suc k) n i j (omega arith) l
      ∙ ap (λ (m : ℕ). get_or (f m) j 0) z

-- place i of the values of the numbers 0, 1, ..
value_at : (f : ℕ → ℕ) (n i : ℕ) → i < n → get_or (map f (range 0 n)) i 0 ≡ f i
value_at f n i h = let e : 0 + i ≡ i = omega arith in range_at f 0 n i 0 h ∙ ap f e

-- ---- the bytes of an outcome
module _ (p : Program) (x : Machine) where
  values_length : (i : ℕ) → length (register_values p x i) ≡ 8
  unfolding range
  values_length i = go (ltb i p.threads)
    where
      go : (b : Bool) → length (cond b (map (λ (r : ℕ). (get_or (thread_of x i).registers r fresh_register).value) (range 0 8)) (replicate 8 0)) ≡ 8
      go true = refl
      go false = refl

  values_at : (i r : ℕ) → i < p.threads → r < 8 → get_or (register_values p x i) r 0 ≡ (get_or (thread_of x i).registers r fresh_register).value
  values_at i r h l = go (ltb i p.threads) (lt-ltb i p.threads h)
    where
      go : (b : Bool) → b ≡ true → get_or (cond b (map (λ (r : ℕ). (get_or (thread_of x i).registers r fresh_register).value) (range 0 8)) (replicate 8 0)) r 0
          ≡ (get_or (thread_of x i).registers r fresh_register).value
      go true e = value_at (λ (r : ℕ). (get_or (thread_of x i).registers r fresh_register).value) 8 r l
      go false e = absurd (true≢false (sym e))

  -- the bytes of the registers, and those of the locations
  abbrev registers : List ℕ
  registers = for_each (range 0 4) (λ i. register_values p x i)

  abbrev locations : List ℕ
  locations = map (λ (l : ℕ). last_value x.memory l) (range 0 16)

  registers_length : length registers ≡ 32
  registers_length = parts_length (λ i. register_values p x i) 8 values_length 0 4

  -- register r of thread i is byte 8 i + r
  pub register_byte : (i r : ℕ) → i < p.threads → p.threads ≤ 4 → r < 8 → get_or (outcome p x) (8 * i + r) 0 ≡ (get_or (thread_of x i).registers r fresh_register).value
  unfolding outcome
  register_byte i r h few l =
      let n = registers_length in
      let e : 0 + i ≡ i = omega arith in
      get_or-append registers locations 0 (8 * i + r) (omega arith)
      ∙ parts_at (λ i. register_values p x i) 8 values_length 0 4 i r (omega arith) l
      ∙ ap (λ (k : ℕ). get_or (register_values p x k) r 0) e
      ∙ values_at i r h l

  -- location l is byte 32 + l
  pub location_byte : (l : ℕ) → l < 16 → get_or (outcome p x) (32 + l) 0 ≡ last_value x.memory l
  unfolding outcome
  location_byte l h =
      let n = registers_length in
      let e : 32 + l ≡ length registers + l = omega arith in
      ap (λ (k : ℕ). get_or (registers ++ locations) k 0) e ∙ get_or-append-add registers locations l 0 ∙ value_at (λ (l : ℕ). last_value x.memory l) 16 l h

-- ---- one condition, and all of them
-- a condition in range holds of the outcome exactly where it holds of the machine
condition_law : (p : Program) (x : Machine) (q : Condition) → p.threads ≤ 4 → T (condition_test p.threads q) → holds x q ≡ holds_in (outcome p x) q
unfolding condition_test holds holds_in
condition_law p x q few h = ap (λ (v : ℕ). eqb v q.value) (go (eqb q.kind 0) (all_at _ h 1) (all_at _ h 2))
  where
    go : (b : Bool) → T (cond b (ltb q.thread p.threads) (eqb q.thread 0)) → T (leb q.index (cond b 7 15))
        → cond b (get_or (thread_of x q.thread).registers q.index fresh_register).value (last_value x.memory q.index)
        ≡ get_or (outcome p x) (cond b (8 * q.thread + q.index) (32 + q.index)) 0
    go true t i =
        let low = leb→le q.index 7 i in
        sym (register_byte p x q.thread q.index (ltb→lt q.thread p.threads t) few (omega arith))
    go false t i =
        let low = leb→le q.index 15 i in
        sym (location_byte p x q.index (omega arith))

-- tests that agree below n
below_alike : (f g : ℕ → Bool) (n : ℕ) → ((k : ℕ) → k < n → f k ≡ g k) → below f n ≡ below g n
unfolding below
below_alike f g zero h = refl
below_alike f g (suc n) h = ap₂ ◌&&◌ (h n (omega arith)) (below_alike f g n (λ k l. h k (omega arith)))

-- THE QUESTION OF A MACHINE IS THAT OF ITS OUTCOME, for a well-formed program
pub satisfies_law : (p : Program) → T (program_test p) → (x : Machine) → question_holds p x ≡ satisfies p (outcome p x)
unfolding question_holds satisfies
satisfies_law p formed x =
    let s = (program_iff p).0 formed in
    below_alike (λ k. holds x (get_or p.question k no_condition)) (λ k. holds_in (outcome p x) (get_or p.question k no_condition)) p.conditions
    (λ k l. condition_law p x (get_or p.question k no_condition) s.few_threads (s.conditions_ok k l))
