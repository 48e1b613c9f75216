-- What no store ahead can write, on plain values.
-- Assumes nothing.
use mathlib.Core.Path.{◌≡◌, refl, sym, ap, subst, ◌∙◌}
use mathlib.Core.Logic.{⊎_elim}
use mathlib.Core.Bool.{Bool, true, false, not, ◌&&◌, ◌||◌}
use mathlib.Core.Option.{some, some-injective}
use Prim.Native.Nat.{ℕ, ◌+◌, ◌*◌, ◌≤◌, ◌<◌}
use native.Mathlib.Nat.{le_refl, le_trans}
use native.Mathlib.Decide.{dec_lt}
use native.Mathlib.Omega.{arith}
use lib.Dec.{T, eqb, leb, ltb}
use borrow.Author.Tests.{ltb-false, lt-leb}
use Rattle.program.specs.declared.Code.{Code}
use Rattle.program.specs.declared.Operand.{Operand}
use Rattle.program.specs.declared.Operand.TheVariants.{Constant, OfRegister}
use Rattle.program.specs.declared.StoreMode.{StoreMode}
use Rattle.program.specs.declared.Instr.{Instr}
use Rattle.program.specs.declared.Instr.TheVariants.{Compute, Load, Store, Branch, Fence}
use Rattle.program.specs.Program.{instr_at}
use Rattle.program.proofs.Tests.{or_left, or_right, is_false, eq→eqb}
use Rattle.program.proofs.Counts.{there}
use Rattle.program.specs.Inner.{stores_of}
use Rattle.machine.specs.declared.Thread.{Thread}
use Rattle.machine.specs.declared.Views.{Views}
use Rattle.machine.specs.State.{with_promises}
use Rattle.machine.specs.Rules.{next, value_of, address, store_pre, execute}
use Rattle.certify_cares.specs.Cares.{Marked, Agrees, held, Agreeing, Covers}
use Rattle.certify_cares.specs.declared.Cares.{Cares}
use Rattle.certify_cares.proofs.Agreeing.{not_barred, same_value, not_that, not_less, less}
use Rattle.certify_lost.specs.Lower.{Lower}
use Rattle.certify_lost.specs.Lost.{Wanted, Goes, ComesTo, InRange, Misses, late, elsewhere, other, NextMisses, Writes, Unwritten, Holding, Writing, Passing, Farther, Above, Barred, LostIn}
use Rattle.certify_lost.proofs.Lower.{store_pre_low}
use Rattle.certify_lost.proofs.Going.{lower_trans, goes_views, goes_holds, goes_lands, arrives_on, Crosses, first, over, crosses_here, crosses_next}

-- ---- tests
-- neither passed: a time is not the hole, and it is in the memory
pub neither : (u hole n : ℕ) → (eqb u hole || ltb n u) ≡ false → (hole ≡ u → ⊥) × (u ≤ n)
neither u hole n e =
    (λ h. subst T e (or_left (eqb u hole) (ltb n u) (eq→eqb (sym h))), ltb-false n u (is_false (ltb n u) (λ t. subst T e (or_right (eqb u hole) (ltb n u) t))))

-- one passed and the other not
pub and-not : {A B : Type 0} (p q : Bool) → (p ≡ true → A) → (q ≡ false → B) → (p && not q) ≡ true → A × B
and-not true true f g t = absurd (subst T (sym t) tt)
and-not true false f g t = (f refl, g refl)
and-not false q f g t = absurd (subst T (sym t) tt)

-- ---- values that are not wanted
-- what a care for such a value asks: one law for each form
module _ (w : Wanted) (v y : ℕ) (out : InRange w v → ⊥) (wanted : InRange w y) where
  apart : v ≡ y → ⊥
  apart e = out (subst (InRange w) (sym e) wanted)

  pub not_one : w.low < 256 → w.low + 1 ≡ w.high → Agrees (256 + w.low) v y → ⊥
  not_one byte one a = ⊎_elim apart (λ n. n (let h = wanted.0 in let k = wanted.1 in omega arith)) (not_that (omega arith) (omega arith) a)

  pub not_below : w.low < 256 → Agrees (768 + w.low) v y → ⊥
  not_below byte a = ⊎_elim apart (λ n. let h = wanted.0 in omega arith) (less (omega arith) (omega arith) a)

  pub not_above : w.high < 256 → Agrees (512 + w.high) v y → ⊥
  not_above byte a = ⊎_elim apart (λ n. let h = wanted.1 in omega arith) (not_less (omega arith) (omega arith) a)

  pub not_same : Agrees 2 v y → ⊥
  not_same a = apart (same_value a)

-- ---- one instruction
-- an operand that is not written has the same value
pub same_held : (set : ℕ) (s y : Thread) (a : Operand) → Holding set s y → Unwritten set a → value_of y a ≡ value_of s a
same_held set s y (Constant v) h u = refl
same_held set s y (OfRegister r) h u = h r u.0 u.1

module _ (x : Instr) (s : Thread) (v : Views) (w : Wanted) (set : ℕ) (before : Cares) where
  -- what is no store cannot write the message
  pub no_store : stores_of x ≡ 0 → Barred x s v w set before before
  no_store n = record { covers = record { agreeing = λ s s' g. g }; bars = λ y o g z l h k a d is. absurd (let i = ap stores_of is in omega arith) }

  module _ (how : StoreMode) (a d : Operand) (is : x ≡ Store how a d) where
    -- of a store only its own operands count
    store_barred : (r : Cares) → Covers r.of before.of
        → ((y : Thread) → Above s y → Agreeing r.of s y → (z : Thread) → Lower v z.views → Holding set y z → Misses w z how a d) → Barred x s v w set before r
    store_barred r more f = record { covers = more; bars = λ y o g z l h k a' d' is'. let i : k ≡ how = cc in let j : a' ≡ a = cc in let n : d' ≡ d = cc in rw (i, j, n) (f y o g z l h) }

    -- the views are too large
    pub store_late : w.time ≤ store_pre how 0 0 v → Barred x s v w set before before
    store_late l = store_barred _ (record { agreeing = λ s s' g. g }) (λ y o g z low h. late (le_trans l (store_pre_low how 0 0 0 0 v z.views (le_refl 0) (le_refl 0) low)))

    -- it is to another location, and it rests on that it is to none that is wanted
    pub store_elsewhere : Unwritten set a → (Marked w.places (address (value_of s a)) → ⊥) → (k : ℕ) → k ≡ 65536 * w.places
        → (cares : Cares) → ((s s' : Thread) → Agreeing cares.of s s' → Agreeing before.of s s' × Agrees k (value_of s a) (value_of s' a)) → Barred x s v w set before cares
    store_elsewhere out n k ke cares notes =
        store_barred _ (record { agreeing = λ s s' g. (notes s s' g).0 }) (λ y o g z low h. elsewhere (λ m.
        let at = subst (λ (i : ℕ). Marked w.places (address i)) (same_held set y z a h out) m in
        n (subst (Marked w.places) (sym (not_barred w.places (subst (λ (i : ℕ). Agrees i (value_of s a) (value_of y a)) ke (notes s y g).1) at)) at)))

    -- it stores a value that is not wanted, and it rests on that it stores none that is
    pub store_other : Unwritten set d → (InRange w (value_of s d) → ⊥) → (k : ℕ) → ((InRange w (value_of s d) → ⊥) → (n : ℕ) → Agrees k (value_of s d) n → InRange w n → ⊥)
        → (cares : Cares) → ((s s' : Thread) → Agreeing cares.of s s' → Agreeing before.of s s' × Agrees k (value_of s d) (value_of s' d)) → Barred x s v w set before cares
    store_other out n k asks cares notes =
        store_barred _ (record { agreeing = λ s s' g. (notes s s' g).0 }) (λ y o g z low h. other (λ m.
        asks n (value_of y d) (notes s y g).1 (subst (InRange w) (same_held set y z d h out) m)))

-- the register that an instruction writes is the one that it names
pub writes_this : (set n : ℕ) (x y : Instr) (r : ℕ) → x ≡ y → Writes x n → (r < 16 → Marked set r) → n < 16 → (Writes y n → r ≡ n) → Marked set n
writes_this set n x y r e w m b f = let i = f (subst (λ (o : Instr). Writes o n) e w) in subst (Marked set) i (m (omega arith))

-- 1 for a branch, else 0
abbrev pub branches : Instr → ℕ
branches (Compute k r a b) = 0
branches (Load k r a b) = 0
branches (Store k a d) = 0
branches (Branch n a b) = 1
branches (Fence k) = 0

-- what is no branch leads no further
pub no_branch : (x : Instr) (at far : ℕ) → branches x ≡ 0 → Farther x at far far
no_branch x at far e = record { before = le_refl _; led = λ n a b is. absurd (let i = ap branches is in omega arith) }

-- a branch leads over as many as it says
pub branch_led : (x : Instr) (at far n : ℕ) (a b : Operand) → x ≡ Branch n a b → (r : ℕ) → far ≤ r → at + 1 + n ≤ r → Farther x at far r
branch_led x at far n a b is r l m = record { before = l; led = λ n' a' b' is'. let i : n' ≡ n = cc in omega arith }

-- ---- the instructions ahead, one by one
-- what is known of z, the first on the way from y at a position or after it
pub record Crossed (set : ℕ) (v : Views) (far at : ℕ) (y z : Thread) : Type 0 where
  pub low : Lower v z.views
  pub holding : Holding set y z
  pub jumped : at < z.position → z.position ≤ far

-- PASSED: what is known before the instruction at a position; stores before it cannot write the message
pub record Passed (c : Code) (s : Thread) (w : Wanted) (rests : Cares) (set : ℕ) (v : Views) (far at : ℕ) : Type 0 where
  pub crossing : (y : Thread) → Above s y → Agreeing rests.of s y → (z : Thread) → Crosses c y at z → Crossed set v far at y z
  pub lost : (y : Thread) → Above s y → Agreeing rests.of s y → (z : Thread) → ComesTo c y z → z.position < at → NextMisses c w z

-- before the first nothing is written
pub passed_none : (c : Code) (s : Thread) (w : Wanted) (rests : Cares) → Passed c s w rests 0 s.views 0 s.position
passed_none c s w rests =
    record {
      crossing = at_start;
      lost = λ y o g z a l. let p = arrives_on a in let q = o.same_position in absurd (omega arith);
    }
  where
    at_start : (y : Thread) → Above s y → Agreeing rests.of s y → (z : Thread) → Crosses c y s.position z → Crossed 0 s.views 0 s.position y z
    at_start y o g z (first l e) =
        let p = ap (λ (t : Thread). t.position) e in
        let q = o.same_position in
        record {
          low = subst (λ (t : Thread). Lower s.views t.views) e o.views_low;
          holding = λ n b m. ap (λ (t : Thread). held t n) (sym e);
          jumped = λ h. absurd (omega arith);
        }
    at_start y o g z (over a l h k) = let p = arrives_on a in let q = o.same_position in absurd (omega arith)

module _ (c : Code) (s : Thread) (w : Wanted) (rests : Cares) (set : ℕ) (v : Views) (far at : ℕ) (h : Passed c s w rests set v far at) where
  -- past the last: all
  pub passed_all : c.count ≤ at → LostIn c s rests.of w
  passed_all end y o g z a k p q is = let l = (there c z.position (Store k p q) is).0 in h.lost y o g z a (omega arith) k p q is

  -- one more, which cannot
  pub passed_more : (x : Instr) → instr_at c at ≡ some x → (rests' : Cares) → Barred x s v w set rests rests'
      → (v' : Views) → Passing x v (leb far at) v' → (set' : ℕ) → Writing set x set' → (far' : ℕ) → Farther x at far far' → Passed c s w rests' set' v' far' (at + 1)
  passed_more x is rests' b v' passing set' writing far' farther = record { crossing = crossing'; lost = lost' }
    where
      -- the instruction there
      here : (z : Thread) (i : Instr) → z.position ≡ at → instr_at c z.position ≡ some i → i ≡ x
      here z i e g = some-injective i x (sym g ∙ ap (instr_at c) e ∙ is)

      before : (y : Thread) → Agreeing rests'.of s y → Agreeing rests.of s y
      before y g = b.covers.agreeing s y g

      -- branches that pass over the instruction lead further than it
      beside : (y : Thread) → Above s y → Agreeing rests'.of s y → (z : Thread) → Crosses c y at z → at < z.position → Crossed set' v' far' (at + 1) y z
      beside y o g z q l =
          let k = h.crossing y o (before y g) z q in
          let over = k.jumped l in
          let more = farther.before in
          record {
            low = subst (λ (u : Views). Lower u z.views) (sym (passing.beside (lt-leb far at (omega arith)))) k.low;
            holding = λ n byte out. k.holding n byte (λ m. out (writing.before n m));
            jumped = λ u. omega arith;
          }

      -- or it is executed
      through : (y : Thread) → Above s y → Agreeing rests'.of s y → (z z' : Thread) → Crosses c y at z → z.position ≡ at → Goes c z z' → Crossed set' v' far' (at + 1) y z'
      through y o g z z' q e d =
          let k = h.crossing y o (before y g) z q in
          let i = here z d.instr e d.is_next in
          record {
            low = lows (leb far at) refl k i;
            holding = λ n byte out. goes_holds d n (λ u. out (writing.written n byte (subst (λ (p : Instr). Writes p n) i u))) ∙ k.holding n byte (λ m. out (writing.before n m));
            jumped = λ u. ⊎_elim (λ p. absurd (omega arith)) (λ p. let l = farther.led p.0 p.1 p.2 (sym i ∙ p.3) in let r = p.4 in omega arith) (goes_lands d);
          }
        where
          lows : (p : Bool) → leb far at ≡ p → Crossed set v far at y z → d.instr ≡ x → Lower v' z'.views
          lows true p k i =
              passing.through p d.memory d.time (with_promises d.promises z) z' k.low
              (subst (λ (u : Instr). execute u d.memory d.time (with_promises d.promises z) ≡ next z') i d.does)
          lows false p k i = subst (λ (u : Views). Lower u z'.views) (sym (passing.beside p)) (lower_trans k.low (goes_views d))

      crossing' : (y : Thread) → Above s y → Agreeing rests'.of s y → (z : Thread) → Crosses c y (at + 1) z → Crossed set' v' far' (at + 1) y z
      crossing' y o g z q = ⊎_elim (λ p. beside y o g z p.0 p.1) (λ p. through y o g p.0 z p.1 p.2 p.3) (crosses_next at q)

      lost' : (y : Thread) → Above s y → Agreeing rests'.of s y → (z : Thread) → ComesTo c y z → z.position < at + 1 → NextMisses c w z
      lost' y o g z a l = elim (dec_lt z.position at) [
        | yes earlier ↦ h.lost y o (before y g) z a earlier
        | no later ↦ (λ k p q g'.
            let e : z.position ≡ at = omega arith in
            let f = h.crossing y o (before y g) z (subst (λ (n : ℕ). Crosses c y n z) e (crosses_here a)) in
            b.bars y o g z f.low f.holding k p q (sym (here z (Store k p q) e g')))
      ]
