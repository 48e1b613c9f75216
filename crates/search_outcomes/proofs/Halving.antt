-- How many rows are smaller than a key, found by halves of those in question.
-- Assumes nothing.
use mathlib.Core.Path.{◌≡◌, refl, sym, ap, ◌∙◌}
use mathlib.Core.Bool.{Bool, true, false, true≢false}
use mathlib.Core.List.{List}
use Prim.Native.Nat.{ℕ, ◌+◌, ◌*◌, ◌≤◌, ◌<◌}
use native.Mathlib.Decide.{dec_lt}
use native.Mathlib.Nat.{mul-suc, mul-le-mul_left}
use native.Mathlib.Omega.{arith}
use lib.ListN.{length}
use Rattle.step.specs.Outcome.{smaller}
use Rattle.search_outcomes.specs.Inner.{key_at, Rising, Smaller}
use Rattle.search_outcomes.proofs.Order.{smaller_asym, smaller_cut}

-- ---- a row is within the bytes of all
pub row_within : (w n i : ℕ) → i < n → w * i + w ≤ w * n
row_within w n i h = let e = mul-suc w i in let l = mul-le-mul_left w h in omega arith

pub key_within : {w n : ℕ} {area : List ℕ} → Rising w n area → (i : ℕ) → i < n → w * i + 48 ≤ length area
key_within {w} {n} r i h = let l = row_within w n i h in let a = r.whole in let b = r.room in omega arith

-- ---- the order of rows and key
smaller_trans : (x y z : List ℕ) → smaller x y ≡ true → smaller y z ≡ true → smaller x z ≡ true
smaller_trans x y z h k = smaller_cut z x y h (smaller_asym y z k)

not_smaller : (x y z : List ℕ) → smaller x y ≡ true → smaller x z ≡ false → smaller y z ≡ false
not_smaller x y z h k = go (smaller y z) refl
  where
    go : (t : Bool) → smaller y z ≡ t → t ≡ false
    go true e = absurd (true≢false (sym (smaller_trans x y z h e) ∙ k))
    go false e = refl

-- ---- the rows before `low` are smaller than the key, and none from `high` on
pub record Halving (w n : ℕ) (area key : List ℕ) (low high : ℕ) : Type 0 where
  pub ordered : low ≤ high
  pub within : high ≤ n
  pub before : (j : ℕ) → j < low → smaller (key_at (w * j) area) key ≡ true
  pub behind : (j : ℕ) → high ≤ j → j < n → smaller (key_at (w * j) area) key ≡ false

module _ {w n : ℕ} {area key : List ℕ} where
  pub halving_none : Halving w n area key 0 n
  halving_none = record { ordered = omega arith; within = omega arith; before = λ j h. absurd (omega arith); behind = λ j h l. absurd (omega arith) }

  module _ {low high : ℕ} (c : Halving w n area key low high) where
    module _ (rising : Rising w n area) (mid : ℕ) (l : low ≤ mid) (h : mid < high) (r : Bool) (e : r ≡ smaller (key_at (w * mid) area) key) where
      pub halving_low : r ≡ true → Halving w n area key (mid + 1) high
      halving_low t =
          let k = c.within in
          record {
            ordered = omega arith;
            within = k;
            before =
                λ j i.
                elim (dec_lt j mid) [
                  | yes b ↦ smaller_trans (key_at (w * j) area) (key_at (w * mid) area) key (rising.ascending j mid b (omega arith)) (sym e ∙ t)
                  | no b ↦ let q : j ≡ mid = omega arith in ap (λ (i : ℕ). smaller (key_at (w * i) area) key) q ∙ sym e ∙ t
                ];
            behind = c.behind;
          }

      pub halving_high : r ≡ false → Halving w n area key low mid
      halving_high t =
          let k = c.within in
          record {
            ordered = l;
            within = omega arith;
            before = c.before;
            behind =
                λ j i m.
                elim (dec_lt mid j) [
                  | yes b ↦ not_smaller (key_at (w * mid) area) (key_at (w * j) area) key (rising.ascending mid j b m) (sym e ∙ t)
                  | no b ↦ let q : j ≡ mid = omega arith in ap (λ (i : ℕ). smaller (key_at (w * i) area) key) q ∙ sym e ∙ t
                ];
          }

    pub halving_all : high ≤ low → Smaller w n area key low
    halving_all l = let o = c.ordered in let k = c.within in record { within = omega arith; before = c.before; behind = λ j i m. c.behind j (omega arith) m }
