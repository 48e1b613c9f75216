-- The steps worth trying: executions up to the newest time, and promises of candidates. The answer over them is the answer over all steps.
-- Assumes nothing.
use mathlib.Core.Path.{◌≡◌, refl, sym, ap, ap₂, subst, subst₂}
use mathlib.Core.Logic.{inl, inr, ⊎_elim}
use mathlib.Core.Bool.{Bool, true, false, ◌&&◌}
use mathlib.Core.List.{List, [], ◌∷◌, ◌++◌, map}
use Prim.Native.Nat.{ℕ, suc, min, ◌+◌, ◌*◌, ◌/◌, ◌%◌, ◌≤◌, ◌<◌}
use native.Mathlib.Omega.{arith}
use lib.Dec.{T, eqb, ltb, eqb→eq, ltb→lt, lt→ltb}
use Rattle.program.specs.declared.Program.{Program}
use Rattle.program.specs.Program.{code_of}
use Rattle.program.specs.Counts.{size}
use Rattle.program.proofs.Tests.{or_cases, and_left, and_right, and_both}
use Rattle.program.proofs.Formed.{ProgramOk}
use Rattle.machine.specs.declared.Machine.{Machine}
use Rattle.machine.specs.State.{fresh, thread_of}
use Rattle.machine.proofs.Effects.{effect_time}
use Rattle.machine.proofs.Formed.{MachineOk}
use Rattle.certify_runs.specs.Certify.{certified}
use Rattle.certify_runs.proofs.Candidates.{Write, is_in, candidates}
use Rattle.certify_runs.proofs.Law.{candidate_law}
use Rattle.theory_sequences.specs.Sequences.{Among, Ascending, branches}
use Rattle.theory_sequences.proofs.Ordered.{among_left, among_right, among_cases, among_map, among_unmap, ascending_append}
use Rattle.theory_sequences.specs.Scan.{told, asking}
use Rattle.theory_sequences.proofs.Fewer.{hunt, hunt_answer, rising_same}
use Rattle.step.specs.Step.{Step, accepted, step}
use Rattle.step.specs.Outcome.{asked}
use Rattle.step.specs.Order.{Less, range, for_each, execution, promise, every_step}
use Rattle.step.proofs.Backwards.{promised_memory, promised_thread, Did, executed, promised, did}
use Rattle.step.proofs.Bound.{well_formed}
use Rattle.search_sequences.specs.OfProgram.{stepping, sequences_of, answer_to}
use Rattle.search_sequences.specs.Numbers.{key_promise}
use Rattle.search_sequences.proofs.Steps.{range_low, range_has, each_has, each_from, each_ascending, map_ascending, execution_tried, promise_tried}
use Rattle.search_sequences.proofs.Keys.{insert_key, insert_from, insert_has, insert_keeps, insert_ascending, keys_ascending}
use Rattle.search_sequences.proofs.Machine.{taken_accepted, lawful}

-- ---- the numbers of writes
-- a location and a byte
abbrev promisable : Write → Bool
promisable w = ltb w.location 16 && ltb w.value 256

-- the numbers of those that can be promised, ascending
unfoldable pub keys_of : List Write → List ℕ
keys_of [] = []
keys_of (w ∷ ws) = elim (promisable w) [ true ↦ insert_key (w.location * 256 + w.value) (keys_of ws) | false ↦ keys_of ws ]

keys_rise : (ws : List Write) → Ascending ◌<◌ (keys_of ws)
unfolding keys_of
keys_rise [] = tt
keys_rise (w ∷ ws) = go (promisable w) (keys_rise ws)
  where
    go : (c : Bool) → Ascending ◌<◌ (keys_of ws) → Ascending ◌<◌ (elim c [ true ↦ insert_key (w.location * 256 + w.value) (keys_of ws) | false ↦ keys_of ws ])
    go true rec = insert_ascending (w.location * 256 + w.value) (keys_of ws) rec
    go false rec = rec

keys_small : (ws : List Write) (k : ℕ) → Among k (keys_of ws) → k < 4096
unfolding keys_of
keys_small [] k h = absurd h
keys_small (w ∷ ws) k h = go (promisable w) refl (λ i. keys_small ws k i) h
  where
    go : (c : Bool) → promisable w ≡ c → (Among k (keys_of ws) → k < 4096) → Among k (elim c [ true ↦ insert_key (w.location * 256 + w.value) (keys_of ws) | false ↦ keys_of ws ]) → k < 4096
    go true e rec i =
        let t : T (promisable w) = subst T (sym e) tt in
        let a = ltb→lt w.location 16 (and_left (ltb w.location 16) (ltb w.value 256) t) in
        let b = ltb→lt w.value 256 (and_right (ltb w.location 16) (ltb w.value 256) t) in
        ⊎_elim (λ q. omega arith) (λ j. rec j) (insert_from (w.location * 256 + w.value) k (keys_of ws) i)
    go false e rec i = rec i

keys_have : (ws : List Write) (l v : ℕ) → l < 16 → v < 256 → T (is_in ws l v) → Among (l * 256 + v) (keys_of ws)
unfolding keys_of
keys_have [] l v hl hv h = absurd h
keys_have (w ∷ ws) l v hl hv h =
    ⊎_elim (λ y. here (promisable w) refl (eqb→eq w.location l (and_left (eqb w.location l) (eqb w.value v) y)) (eqb→eq w.value v (and_right (eqb w.location l) (eqb w.value v) y)))
    (λ y. there (promisable w) (keys_have ws l v hl hv y)) (or_cases (eqb w.location l && eqb w.value v) (is_in ws l v) h)
  where
    here : (c : Bool) → promisable w ≡ c → w.location ≡ l → w.value ≡ v → Among (l * 256 + v) (elim c [ true ↦ insert_key (w.location * 256 + w.value) (keys_of ws) | false ↦ keys_of ws ])
    here true e a b = subst (λ (n : ℕ). Among n (insert_key (w.location * 256 + w.value) (keys_of ws))) (ap₂ (λ (x y : ℕ). x * 256 + y) a b) (insert_has (w.location * 256 + w.value) (keys_of ws))
    here false e a b = absurd (subst T e (and_both (ltb w.location 16) (ltb w.value 256) (lt→ltb w.location 16 (omega arith)) (lt→ltb w.value 256 (omega arith))))

    there : (c : Bool) → Among (l * 256 + v) (keys_of ws) → Among (l * 256 + v) (elim c [ true ↦ insert_key (w.location * 256 + w.value) (keys_of ws) | false ↦ keys_of ws ])
    there true i = insert_keeps (w.location * 256 + w.value) (l * 256 + v) (keys_of ws) i
    there false i = i

-- ---- the steps
abbrev keys : Program → Machine → ℕ → List ℕ
keys p x i = keys_of (candidates (code_of p i) x.memory (thread_of x i))

abbrev times : Machine → ℕ
times x = min 17 (suc x.memory.count)

unfoldable pub few_of : Program → Machine → ℕ → List Step
few_of p x i = map (execution i) (range 0 (times x)) ++ map (key_promise i) (keys p x i)

-- THE STEPS WORTH TRYING
unfoldable pub few : Program → Machine → List Step
few p x = for_each (range 0 (min 4 p.threads)) (few_of p x)

module _ (p : Program) (x : Machine) where
  -- a step of thread i: an execution, or a promise of a candidate
  data Kind (i : ℕ) (k : Step) : Type 0 where
    executes : (t : ℕ) → t < times x → k ≡ execution i t → Kind i k
    promises : (n : ℕ) → n < 4096 → k ≡ key_promise i n → Kind i k

  kind_of : (i : ℕ) (k : Step) → Among k (few_of p x i) → Kind i k
  unfolding few_of
  kind_of i k h =
      ⊎_elim
      (λ j.
      let r = among_unmap (execution i) k (range 0 (times x)) j in
      let r0 = r.0 in
      let b = (range_low 0 (times x) r.0 r.2).1 in
      let l : r0 < times x = omega arith in
      executes r0 l r.1)
      (λ j. let r = among_unmap (key_promise i) k (keys p x i) j in promises r.0 (keys_small (candidates (code_of p i) x.memory (thread_of x i)) r.0 r.2) r.1)
      (among_cases k (map (execution i) (range 0 (times x))) (map (key_promise i) (keys p x i)) h)

  kind_thread : (i : ℕ) (k : Step) → Kind i k → k.thread ≡ i
  kind_thread i k (executes t l e) = ap (λ (y : Step). y.thread) e
  kind_thread i k (promises n l e) = ap (λ (y : Step). y.thread) e

  thread_rises : (i : ℕ) → Ascending Less (few_of p x i)
  unfolding few_of
  thread_rises i =
      ascending_append Less (map (execution i) (range 0 (times x))) (map (key_promise i) (keys p x i))
      (map_ascending Less (execution i) (λ a c h. inr (refl, inr (refl, inl h))) 0 (times x))
      (keys_ascending i (keys p x i) (keys_rise (candidates (code_of p i) x.memory (thread_of x i))))
      (λ a b j k.
      let r = among_unmap (execution i) a (range 0 (times x)) j in
      let s = among_unmap (key_promise i) b (keys p x i) k in
      rw (r.1, s.1) (inr (refl, inl (omega arith))))

  few_rises : Ascending Less (few p x)
  unfolding few
  few_rises =
      each_ascending (few_of p x) Less thread_rises
      (λ a c j k h m n. let e = kind_thread a j (kind_of a j m) in let f = kind_thread c k (kind_of c k n) in inl (omega arith)) 0 (min 4 p.threads)

  kind_tried : (i : ℕ) (k : Step) → i < 4 → Kind i k → Among k every_step
  kind_tried i k h (executes t l e) = subst (λ (y : Step). Among y every_step) (sym e) (execution_tried i t h (omega arith))
  kind_tried i k h (promises n l e) = subst (λ (y : Step). Among y every_step) (sym e) (promise_tried i (n / 256) (n % 256) h (omega arith) (omega arith))

  few_tried : (k : Step) → Among k (few p x) → Among k every_step
  unfolding few
  few_tried k h =
      let r = each_from (few_of p x) k (range 0 (min 4 p.threads)) h in
      let b = (range_low 0 (min 4 p.threads) r.0 r.1).1 in
      kind_tried r.0 k (omega arith) (kind_of r.0 k r.2)

  in_few : (i : ℕ) (k : Step) → i < p.threads → p.threads ≤ 4 → Among k (few_of p x i) → Among k (few p x)
  unfolding few
  in_few i k h l a = each_has (few_of p x) i k (range 0 (min 4 p.threads)) (range_has 0 (min 4 p.threads) i (omega arith) (omega arith)) a

  pub is_candidate : MachineOk p x → (i l v : ℕ) → i < p.threads → x.memory.count < 16
      → T (certified (code_of p i) i (promised_memory x i l v) (promised_thread x i l v)) → T (is_in (candidates (code_of p i) x.memory (thread_of x i)) l v)
  is_candidate mo i l v h room q =
      let o = mo.states i h in
      candidate_law (code_of p i) i l v x.memory (thread_of x i)
      (record { places = mo.memory_ok.places; locations = o.locations; forwards = o.forward_times; promises_in = o.promises_in }) room q

  few_did : ProgramOk p → MachineOk p x → {k : Step} {y : Machine} → Did p x k y → Among k (few p x)
  unfolding few_of
  few_did po mo (executed {i} {t} c s h g e q) =
      let a = effect_time e in
      let b = mo.memory_ok.room in
      in_few i (execution i t) h po.few_threads
      (among_left (execution i t) (map (execution i) (range 0 (times x))) (map (key_promise i) (keys p x i))
      (among_map (execution i) t (range 0 (times x)) (range_has 0 (times x) t (omega arith) (omega arith))))
  few_did po mo (promised {i} {l} {v} h low byte room q) =
      let c = is_candidate mo i l v h room q in
      let a : (l * 256 + v) / 256 ≡ l = omega arith in
      let b : (l * 256 + v) % 256 ≡ v = omega arith in
      in_few i (promise i l v) h po.few_threads
      (among_right (promise i l v) (map (execution i) (range 0 (times x))) (map (key_promise i) (keys p x i))
      (subst₂ (λ (m n : ℕ). Among (promise i m n) (map (key_promise i) (keys p x i))) a b
      (among_map (key_promise i) (l * 256 + v) (keys p x i) (keys_have (candidates (code_of p i) x.memory (thread_of x i)) l v low byte c))))

-- every accepted step is worth trying
pub few_has : (p : Program) (x : Machine) (k : Step) (y : Machine) → step p x k ≡ accepted y → Among k (few p x)
few_has p x k y e = let w = well_formed p x y k e in few_did p x w.0 w.1 (did p x y k e).2

few_same : (p : Program) (x : Machine) (f : Machine → List (List Step)) → branches (stepping p) f x (few p x) ≡ branches (stepping p) f x every_step
few_same p = rising_same (stepping p) (lawful p) (few p) (few_rises p) (few_tried p) (λ x k y e. few_has p x k y (taken_accepted (step p x k) y e))

-- THE ANSWER OVER CANDIDATES IS THE ANSWER
pub answer_few : (p : Program) (b : ℕ) → told b (hunt (stepping p) {N = Unit {0}} (asking (λ x. asked p x)) (few p) (size p) fresh b tt) ≡ answer_to p b
unfolding answer_to sequences_of
answer_few p b = hunt_answer (stepping p) (few p) (few_same p) (size p) fresh b tt
