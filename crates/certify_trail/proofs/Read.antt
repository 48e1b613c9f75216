-- A trail that is read: the step at a place of the run, and the loop that takes one step after the other.
-- Assumes nothing.
use mathlib.Core.Path.{◌≡◌, refl, sym, ap, ap₂, ◌∙◌}
use mathlib.Core.List.{List, [], ◌∷◌}
use Prim.Native.Nat.{ℕ, zero, suc, ◌+◌, ◌-◌, ◌*◌, ◌/◌, ◌%◌, ◌≤◌, ◌<◌}
use native.Mathlib.Omega.{arith}
use native.Mathlib.Numerals.{add-one}
use lib.ListN.{length, get_or, take, set}
use lib.Seq.{take_all}
use Rattle.certify_runs.specs.declared.RunStep.{RunStep}
use Rattle.certify_runs.specs.Values.{no_step, entries, run_of}
use Rattle.certify_trail.specs.Trail.{Backwards, Trail}
use Rattle.certify_trail.proofs.Written.{byte_at}

-- ---- one step
-- the step that a byte is
abbrev step_of : ℕ → RunStep
step_of b = record { kind = b / 32; time = b % 32 }

-- a step's kind and time are those of its byte
step_of_lem : (a : RunStep) {b : ℕ} → b ≡ 32 * a.kind + a.time → a.time < 32 → step_of b ≡ a
step_of_lem a {b} e h =
    let k : b / 32 ≡ a.kind = omega arith in
    let t : b % 32 ≡ a.time = omega arith in
    λ x. record { kind = k x; time = t x }

-- the step at place n is as far from the end as those behind it are many
step_at_lem : (words : List ℕ) (l : List RunStep) (n : ℕ) → Backwards words l → n < length l → step_of (byte_at words (length l - n - 1)) ≡ get_or l n no_step
step_at_lem words [] n s h = absurd (omega arith)
step_at_lem words (a ∷ l) zero s h =
    let i : suc (length l) - 0 - 1 ≡ length l = omega arith in
    step_of_lem a (ap (byte_at words) i ∙ s.0) s.1.0
step_at_lem words (a ∷ l) (suc n) s h =
    let i : suc (length l) - suc n - 1 ≡ length l - n - 1 = omega arith in
    ap (λ (m : ℕ). step_of (byte_at words m)) i ∙ step_at_lem words l n s.1.1 (omega arith)

-- one more of m entries
entries_more : (m n : ℕ) (l : List RunStep) → n < m → n < length l → set (entries m (take n l)) n (get_or l n no_step) ≡ entries m (take (suc n) l)
unfolding entries
entries_more zero n l h g = absurd (omega arith)
entries_more (suc m) n [] h g = absurd (omega arith)
entries_more (suc m) zero (a ∷ l) h g = refl
entries_more (suc m) (suc n) (a ∷ l) h g = ap (λ (k : List RunStep). a ∷ k) (entries_more m n l (omega arith) (omega arith))

-- ---- the loop: of `count` steps n are taken
pub record Reading (words : List ℕ) (count n : ℕ) (steps : List RunStep) : Type 0 where
  pub few : count ≤ 16
  pub within : n ≤ count
  pub counted : (l : List RunStep) → Trail words l → length l ≤ 16 → count ≡ length l
  pub taken : (l : List RunStep) → Trail words l → length l ≤ 16 → steps ≡ entries 16 (take n l)

module _ {words : List ℕ} {count : ℕ} where
  -- none is taken
  pub reading_none : count ≤ 16 → ((l : List RunStep) → Trail words l → length l ≤ 16 → count ≡ length l) → Reading words count 0 (entries 16 [])
  reading_none h e = record { few = h; within = omega arith; counted = e; taken = λ l t r. refl }

  -- one more is
  pub reading_more : {n m step : ℕ} {steps : List RunStep} → Reading words count n steps → n < count → step ≡ byte_at words m → m ≡ count - n - 1
      → Reading words count (n + 1) (set steps n (step_of step))
  reading_more {n} {m} {step} {steps} p h s d =
      let f = p.few in
      record {
        few = f;
        within = omega arith;
        counted = p.counted;
        taken =
            λ l t r.
            let e = p.counted l t r in
            ap₂ (λ (k : List RunStep) (b : ℕ). set k n (step_of b)) (p.taken l t r) (s ∙ ap (byte_at words) (d ∙ ap (λ (k : ℕ). k - n - 1) e))
            ∙ ap (set (entries 16 (take n l)) n) (step_at_lem words l n t.steps (omega arith))
            ∙ entries_more 16 n l (omega arith) (omega arith)
            ∙ ap (λ (k : ℕ). entries 16 (take k l)) (sym (add-one n));
      }

  -- all are
  pub reading_all : {n : ℕ} {steps : List RunStep} → Reading words count n steps → count ≤ n
      → (l : List RunStep) → Trail words l → length l ≤ 16 → record { steps = steps; count = count } ≡ run_of l
  reading_all {n} p h l t r =
      let e = p.counted l t r in
      let s = p.taken l t r ∙ ap (entries 16) (take_all n l (omega arith)) in
      λ i. record { steps = s i; count = e i }
