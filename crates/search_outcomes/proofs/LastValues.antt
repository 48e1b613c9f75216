-- The last values of all locations, written message by message.
-- Assumes nothing.
use mathlib.Core.Path.{◌≡◌, refl, sym, ap, ◌∙◌}
use mathlib.Core.List.{List, map}
use Prim.Native.Nat.{ℕ, zero, suc, ◌+◌, ◌-◌, ◌≤◌, ◌<◌}
use native.Mathlib.Decide.{dec_lt}
use native.Mathlib.Omega.{arith}
use lib.ListN.{length, get_or, set, replicate, length-set}
use lib.Seq.{get_or-set_same, get_or-set_other, ext_get_or}
use borrow.Author.Tests.{eq-eqb, ne_eqb}
use Rattle.machine.specs.declared.Message.{Message}
use Rattle.machine.specs.declared.Memory.{Memory}
use Rattle.machine.specs.State.{no_message}
use Rattle.step.specs.Order.{range}
use Rattle.step.specs.Outcome.{last_of}
use Rattle.encode_bytes.specs.Places.{put}
use Rattle.search_outcomes.specs.Inner.{lasts_of}
use Rattle.search_outcomes.proofs.Writing.{put_over}

-- ---- values over a range of numbers
module _ {A : Type 0} (f : ℕ → A) where
  pub range_length : (k n : ℕ) → length (map f (range k n)) ≡ n
  unfolding range
  range_length k zero = refl
  range_length k (suc n) = ap suc (range_length (suc k) n)

  pub range_at : (k n i : ℕ) (d : A) → i < n → get_or (map f (range k n)) i d ≡ f (k + i)
  unfolding range
  range_at k zero i d h = absurd (omega arith)
  range_at k (suc n) zero d h = let e : k ≡ k + 0 = omega arith in ap f e
  range_at k (suc n) (suc i) d h = let e : suc k + i ≡ k + suc i = omega arith in range_at (suc k) n i d (omega arith) ∙ ap f e

-- ---- all locations after some messages
pub lasts_length : (m : Memory) (n : ℕ) → length (lasts_of m n) ≡ 16
unfolding lasts_of
lasts_length m n = range_length (λ (l : ℕ). last_of m l n) 0 16

lasts_at : (m : Memory) (n l : ℕ) → l < 16 → get_or (lasts_of m n) l 0 ≡ last_of m l n
unfolding lasts_of
lasts_at m n l h = let e : 0 + l ≡ l = omega arith in range_at (λ (l : ℕ). last_of m l n) 0 16 l 0 h ∙ ap (λ (k : ℕ). last_of m k n) e

-- one message more
module _ (m : Memory) (n : ℕ) (w : Message) (e : w ≡ get_or m.messages n no_message) where
  last_hit : (l : ℕ) → w.location ≡ l → last_of m l (suc n) ≡ w.value
  unfolding last_of
  last_hit l h = let k : suc n - 1 ≡ n = omega arith in rw (k, ← e, eq-eqb w.location l h)

  last_other : (l : ℕ) → (w.location ≡ l → ⊥) → last_of m l (suc n) ≡ last_of m l n
  unfolding last_of
  last_other l h = let k : suc n - 1 ≡ n = omega arith in rw (k, ← e, ne_eqb w.location l h)

  lasts_more : w.location < 16 → set (lasts_of m n) w.location w.value ≡ lasts_of m (suc n)
  lasts_more low =
      let p : List ℕ = lasts_of m n in
      let k = lasts_length m n in
      let o = length-set p w.location w.value in
      ext_get_or 0 (set p w.location w.value) (lasts_of m (suc n)) (o ∙ k ∙ sym (lasts_length m (suc n)))
      (λ l h. let h' : l < 16 = omega arith in
      elim (dec_lt l w.location) [
        | yes a ↦ get_or-set_other p w.location l w.value 0 (λ q. omega arith) ∙ lasts_at m n l h' ∙ sym (lasts_at m (suc n) l h' ∙ last_other l (λ q. omega arith))
        | no a ↦ elim (dec_lt w.location l) [
          | yes b ↦ get_or-set_other p w.location l w.value 0 (λ q. omega arith) ∙ lasts_at m n l h' ∙ sym (lasts_at m (suc n) l h' ∙ last_other l (λ q. omega arith))
          | no b ↦ let q : w.location ≡ l = omega arith in
              ap (λ (k : ℕ). get_or (set p w.location w.value) k 0) (sym q) ∙ get_or-set_same p w.location w.value 0 (omega arith) ∙ sym (lasts_at m (suc n) l h' ∙ last_hit l q)
        ]
      ])

-- ---- t messages are written
pub record Lasting (o₀ : List ℕ) (m : Memory) (t : ℕ) (o : List ℕ) : Type 0 where
  pub within : t ≤ m.count
  pub so_far : o ≡ put 32 (lasts_of m t) o₀

module _ {o₀ : List ℕ} {m : Memory} (empty : o₀ ≡ replicate 48 0) where
  pub lasting_none : Lasting o₀ m 0 o₀
  unfolding put lasts_of range last_of
  lasting_none = record { within = omega arith; so_far = empty ∙ ap (put 32 (lasts_of m 0)) (sym empty) }

  pub lasting_more : {t : ℕ} {o : List ℕ} → Lasting o₀ m t o → t < m.count → (w : Message) → w ≡ get_or m.messages t no_message → w.location < 16
      → Lasting o₀ m (t + 1) (set o (32 + w.location) w.value)
  lasting_more {t} {o} p h w e low =
      record {
        within = omega arith;
        so_far =
            let n = ap length empty in
            let l = lasts_length m t in
            let s : suc t ≡ t + 1 = omega arith in
            ap (λ (x : List ℕ). set x (32 + w.location) w.value) p.so_far
            ∙ put_over 32 w.location w.value (lasts_of m t) o₀ (omega arith) (omega arith)
            ∙ ap (λ (x : List ℕ). put 32 x o₀) (lasts_more m t w e low ∙ ap (lasts_of m) s);
      }
