-- A trail that is written: what stays where another byte changes, one step more, and steps at time 0.
-- Assumes nothing.
use mathlib.Core.Path.{◌≡◌, refl, sym, ap, subst, ◌∙◌}
use mathlib.Core.List.{List, [], ◌∷◌}
use Prim.Native.Nat.{ℕ, suc, ◌+◌, ◌*◌, ◌/◌, ◌%◌, ◌≤◌, ◌<◌}
use native.Mathlib.Decide.{dec_lt}
use native.Mathlib.Omega.{arith}
use lib.ListN.{length, get_or, set, length-set}
use lib.Seq.{get_or-set_same, get_or-set_other}
use Rattle.certify_runs.specs.declared.RunStep.{RunStep}
use Rattle.certify_runs.specs.Certify.{executed}
use Rattle.certify_trail.specs.Trail.{byte_of, Backwards, Trail, passing}
use Rattle.certify_trail.proofs.Bytes.{Put}

-- ---- one step more
-- byte m of the words
abbrev pub byte_at : List ℕ → ℕ → ℕ
byte_at words m = byte_of (get_or words (m / 4) 0) (m % 4)

-- words whose bytes are the same up to the steps' end hold the same steps
kept : (a b : List ℕ) (l : List RunStep) → ((m : ℕ) → m < length l → byte_at b m ≡ byte_at a m) → Backwards a l → Backwards b l
kept a b [] same s = tt
kept a b (x ∷ l) same s = (same (length l) (omega arith) ∙ s.0, (s.1.0, kept a b l (λ m h. same m (omega arith)) s.1.1))

module _ (words : List ℕ) (n b r m : ℕ) (h : length words ≡ 8) (few : n < 16) (put : Put (get_or words (n / 4) 0) (n % 4) b r) where
  -- byte n is replaced, and how many they are is m
  abbrev changed : List ℕ
  changed = set (set words (n / 4) r) 4 m

  -- the words but the one that says how many
  beside_count : (k : ℕ) → k < 4 → get_or changed k 0 ≡ get_or (set words (n / 4) r) k 0
  beside_count k p = get_or-set_other (set words (n / 4) r) 4 k m 0 (λ i. omega arith)

  -- byte n
  byte_there : byte_at changed n ≡ b
  byte_there = ap (λ (w : ℕ). byte_of w (n % 4)) (beside_count (n / 4) (omega arith) ∙ get_or-set_same words (n / 4) r 0 (omega arith)) ∙ put.0

  -- those below it
  byte_below : (k : ℕ) → k < n → byte_at changed k ≡ byte_at words k
  byte_below k l =
      elim (dec_lt (k / 4) (n / 4)) [
        | yes q ↦ ap (λ (w : ℕ). byte_of w (k % 4)) (beside_count (k / 4) (omega arith) ∙ get_or-set_other words (n / 4) (k / 4) r 0 (λ i. omega arith))
        | no q ↦
            let e : k / 4 ≡ n / 4 = omega arith in
            ap (λ (w : ℕ). byte_of w (k % 4)) (beside_count (k / 4) (omega arith) ∙ ap (λ (i : ℕ). get_or (set words (n / 4) r) i 0) e ∙ get_or-set_same words (n / 4) r 0 (omega arith))
            ∙ put.1 (k % 4) (omega arith)
            ∙ ap (λ (i : ℕ). byte_of (get_or words i 0) (k % 4)) (sym e)
      ]

  -- the step of that byte before those of n bytes, where the words say n
  pub preceding : n ≡ get_or words 4 0 % 16 → m ≡ n + 1 → {kind time : ℕ} → b ≡ 32 * kind + time → time < 32
      → (l : List RunStep) → Trail words l → length l < 16 → Trail changed (record { kind = kind; time = time } ∷ l)
  preceding e d i g l t room =
      let c = t.count in
      let z : length l ≡ n = omega arith in
      let q = length-set words (n / 4) r in
      record {
        count = get_or-set_same (set words (n / 4) r) 4 m 0 (omega arith) ∙ omega arith;
        steps = (ap (byte_at changed) z ∙ byte_there ∙ i, (g, kept words changed l (λ k p. byte_below k (omega arith)) t.steps));
      }

-- ---- steps at time 0
-- some of the steps are written, and `left` are to be
pub record Passed (words : List ℕ) (count left : ℕ) (l : List RunStep) : Type 0 where
  pub written : List RunStep
  pub trail_of : Trail words written
  pub rest : passing left written ≡ passing count l
  pub room : length written + left ≤ 16

-- none is
pub passed_none : {words : List ℕ} {count : ℕ} {l : List RunStep} → Trail words l → length l + count ≤ 16 → Passed words count count l
passed_none {l = l} t r = record { written = l; trail_of = t; rest = refl; room = r }

-- one more is
pub passed_more : {words words' : List ℕ} {count left left' : ℕ} {l : List RunStep} → suc left' ≡ left → ((k : List RunStep) → Trail words k → length k < 16 → Trail words' (executed 0 ∷ k))
    → Passed words count left l → Passed words' count left' l
unfolding passing
passed_more e more p =
    let q = p.room in
    let k = p.written in
    record { written = executed 0 ∷ k; trail_of = more k p.trail_of (omega arith); rest = ap (λ (n : ℕ). passing n k) e ∙ p.rest; room = omega arith }

-- all are
pub passed_all : {words : List ℕ} {count left : ℕ} {l : List RunStep} → left ≤ 0 → Passed words count left l → Trail words (passing count l)
unfolding passing
passed_all {words} {left = left} h p =
    let k = p.written in
    let e : 0 ≡ left = omega arith in
    subst (Trail words) (ap (λ (n : ℕ). passing n k) e ∙ p.rest) p.trail_of
