-- The test that no message is newer: of the messages to l up to v the newest is looked at.
-- Assumes nothing.
use mathlib.Core.Path.{◌≡◌, sym, ap, subst, ◌∙◌}
use mathlib.Core.Bool.{Bool, true, ◌&&◌}
use Prim.Native.Nat.{ℕ, zero, suc, ◌≤◌, ◌<◌}
use native.Mathlib.Decide.{dec_le}
use native.Mathlib.Omega.{arith}
use lib.Dec.{T, eqb, leb, ltb, lt→ltb, le→leb, ltb→lt, leb→le, T_not, not_T}
use borrow.Author.Tests.{le-leb, lt-leb}
use Rattle.program.proofs.Tests.{and_left, and_right, and_both, is_true, is_false, below_at, below_all}
use Rattle.machine.specs.declared.Memory.{Memory}
use Rattle.machine.specs.State.{message_at, has}
use Rattle.machine.specs.Rules.{newer, none_newer}
use Rattle.machine.specs.Inner.{stands, TimesAt, up_to, NewestTime}
use Rattle.machine.proofs.TimeSets.{has_up_to}

module _ (m : Memory) (l t v : ℕ) where
  -- a newer message is one that stands after t and up to v
  newer_stands : (u : ℕ) → u ≤ m.count → T (newer m l t v u) → (t < u) × T (stands m l u && leb u v)
  unfolding stands
  newer_stands u h n =
      let a : T (eqb (message_at m u).location l) = search (and_left, and_right) in
      let b : T (ltb t u) = search (and_left, and_right) in
      let d : T (leb u v) = search (and_left, and_right) in
      let q = ltb→lt t u b in
      let in_memory = and_both (ltb 0 u) (leb u m.count) (lt→ltb 0 u (omega arith)) (le→leb u m.count h) in
      (q, and_both (stands m l u) (leb u v) (and_both (ltb 0 u && leb u m.count) (eqb (message_at m u).location l) in_memory a) d)

  stands_newer : (u : ℕ) → t < u → T (stands m l u && leb u v) → (u ≤ m.count) × T (newer m l t v u)
  unfolding stands
  stands_newer u h n =
      let a : T (leb u m.count) = search (and_left, and_right) in
      let b : T (eqb (message_at m u).location l) = search (and_left, and_right) in
      let d : T (leb u v) = search (and_left, and_right) in
      (leb→le u m.count a, and_both (eqb (message_at m u).location l && ltb t u) (leb u v) (and_both (eqb (message_at m u).location l) (ltb t u) b (lt→ltb t u h)) d)

  no_newer : T (none_newer m l t v) → (u : ℕ) → t < u → u ≤ m.count → T (newer m l t v u) → ⊥
  unfolding none_newer
  no_newer n zero h k = absurd (omega arith)
  no_newer n (suc u) h k = T_not (newer m l t v (suc u)) (below_at _ m.count n u (omega arith))

  -- there is no time after t and up to v
  pub none_between : v ≤ t → true ≡ none_newer m l t v
  unfolding none_newer
  none_between h =
      sym (is_true (none_newer m l t v)
      (below_all _ m.count (λ k q. not_T (newer m l t v (suc k)) (λ w.
      let a : T (ltb t (suc k)) = search (and_left, and_right) in
      let b : T (leb (suc k) v) = search (and_left, and_right) in
      let c = ltb→lt t (suc k) a in
      let d = leb→le (suc k) v b in
      omega arith))))

  module _ (set n : ℕ) (at : TimesAt m l set) (o : NewestTime (up_to set v) n) where
    seen : (u : ℕ) → has (up_to set v) u ≡ (stands m l u && leb u v)
    seen u = has_up_to set v u ∙ ap (λ (b : Bool). b && leb u v) (at u)

    none_after : n ≤ t → T (none_newer m l t v)
    unfolding none_newer
    none_after h = below_all _ m.count (λ k q. not_T (newer m l t v (suc k)) (λ w. never (suc k) (newer_stands (suc k) (omega arith) w)))
      where
        never : (u : ℕ) → (t < u) × T (stands m l u && leb u v) → ⊥
        never u w = let q = w.0 in subst T (sym (seen u) ∙ o.after u (omega arith)) w.1

    one_after : t < n → T (none_newer m l t v) → ⊥
    one_after h q =
        let w = stands_newer n h (subst T (sym (o.member (omega arith)) ∙ seen n) tt) in
        no_newer q n h w.0 w.1

    -- none is after t if the newest is not
    pub none_newest : leb n t ≡ none_newer m l t v
    none_newest =
        elim (dec_le n t) [
          | yes h ↦ le-leb n t h ∙ sym (is_true (none_newer m l t v) (none_after h))
          | no h ↦ lt-leb n t (omega arith) ∙ sym (is_false (none_newer m l t v) (one_after (omega arith)))
        ]
