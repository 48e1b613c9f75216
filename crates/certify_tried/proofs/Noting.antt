-- What the code of the tries relies on, on plain values: what is noted of a try, and whether a store can append its own message.
-- Assumes nothing.
use mathlib.Core.Path.{◌≡◌, sym, ap, ◌∙◌, subst, refl}
use mathlib.Core.Logic.{inl, inr}
use mathlib.Core.Bool.{Bool, true, false, not, ◌&&◌}
use Prim.Native.Nat.{ℕ, ◌≤◌, ◌<◌, ◌+◌}
use lib.Count.{ones}
use lib.Dec.{T, ltb, ltb→lt}
use lib.ListN.{set}
use borrow.Author.Tests.{not-false}
use Rattle.program.specs.Counts.{stores_from}
use Rattle.certify_runs.specs.Below.{Code, Memory, Thread, Instr, Compute, Load, Store, Branch, Fence, Operand, LoadMode, StoreMode}
use Rattle.certify_cares.specs.Cares.{care_of, Agreeing, AgreeingBut, Covers}
use Rattle.certify_cares.specs.declared.Cares.{Cares}
use Rattle.certify_sought.proofs.Asking.{is_tried, load_same, load_not_store}
use Rattle.certify_tried.specs.Tried.{Appends, Reached, Tried, Noted}

pub crowds : (n p : ℕ) (b : Bool) → b ≡ ltb n p → b ≡ true → n < p
crowds n p b e z = ltb→lt n p (subst T (sym (sym e ∙ z)) tt)

-- ---- whether a store can append its own message
-- the instruction is a store
abbrev pub stores : Instr → Bool
stores (Compute k r a b) = false
stores (Load k r a b) = false
stores (Store k a d) = true
stores (Branch n a b) = false
stores (Fence k) = false

module _ (c : Code) (m : Memory) (s : Thread) (x : Instr) where
  -- the memory is full
  pub appends_full : 16 ≤ m.count → Appends c m s x false
  appends_full full = record { room = λ e. absurd (subst T (sym e) tt); never = λ e k a d is. inl full }

  -- there is room, and the promises are counted against the stores that are left
  pub appends_fit : (b : Bool) → m.count < 16 → b ≡ ltb (stores_from c (s.position + 1)) (ones s.promises) → Appends c m s x (not b)
  appends_fit b low be = record { room = λ e. low; never = λ e k a d is. inr (crowds _ _ b be (not-false b e)) }

  -- it is no store
  pub appends_not : stores x ≡ false → Appends c m s x false
  appends_not other = record { room = λ e. absurd (subst T (sym e) tt); never = λ e k a d is. absurd (subst T (sym (ap stores is) ∙ other) tt) }

-- ---- what is noted
both_true : (b b' : Bool) → (b && b') ≡ true → (b ≡ true) × (b' ≡ true)
both_true true b' e = (refl, e)
both_true false b' e = absurd (subst T (sym e) tt)

module _ (x : Instr) (t : ℕ) (p : Tried) (sub : Reached) (apart : Bool) where
  -- of a load: what counted of its register, and the cares for the others
  pub noted_load : (tries : ℕ) (k : LoadMode) (j : ℕ) (a b : Operand) → x ≡ Load k j a b → (n : ℕ) → n ≡ care_of sub.cares.of j
      → (f : Cares) → ((s s' : Thread) → Agreeing f.of s s' → AgreeingBut sub.cares.of j s s')
      → (g : Cares) → Covers g.of f.of × Covers g.of p.cares.of
      → Noted x t p sub apart (record { met = sub.met; tries = tries; cares = g; counted = set p.counted t n; apart = p.apart && apart })
  noted_load tries k j a b is n ne f forgets g both =
      record {
        load = λ k' j' a' b' is'. let e = (load_same k k' j j' a a' b b' (sym is ∙ is')).0 in (refl, ap (set p.counted t) (ne ∙ ap (care_of sub.cares.of) e), λ s s' h. subst (λ (i : ℕ). AgreeingBut sub.cares.of i s s') e (forgets s s' (both.0.agreeing s s' h)), λ z. (both_true p.apart apart z).1);
        store = λ k' a' d' is'. absurd (load_not_store k k' j a a' b d' (sym is ∙ is'));
        covers = both.1;
        narrower = λ z. (both_true p.apart apart z).0;
      }

  -- of a store: all cares
  pub noted_store : (tries : ℕ) (k : StoreMode) (a d : Operand) → x ≡ Store k a d
      → (g : Cares) → Covers g.of sub.cares.of × Covers g.of p.cares.of
      → Noted x t p sub apart (record { met = sub.met; tries = tries; cares = g; counted = p.counted; apart = p.apart })
  noted_store tries k a d is g both =
      record {
        load = λ k' j' a' b' is'. absurd (load_not_store k' k j' a' a b' d (sym is' ∙ is));
        store = λ k' a' d' is'. (refl, refl, both.0.agreeing);
        covers = both.1;
        narrower = λ z. z;
      }

  -- of what is neither: nothing
  pub noted_other : is_tried x ≡ false → Noted x t p sub apart p
  noted_other n =
      record {
        load = λ k j a b is. absurd (subst T (sym (ap is_tried is) ∙ n) tt);
        store = λ k a d is. absurd (subst T (sym (ap is_tried is) ∙ n) tt);
        covers = record { agreeing = λ s s' h. h };
        narrower = λ z. z;
      }
