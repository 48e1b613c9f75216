-- When a load at time 0 is idle: what the tests say of its location, its read view and coherence.
-- Assumes nothing.
use mathlib.Core.Path.{◌≡◌, refl, sym, ap, subst, ◌∙◌}
use mathlib.Core.Logic.{◌⊎◌, inl, inr}
use mathlib.Core.Bool.{Bool, true, false, not, cond, ◌&&◌, ◌||◌}
use Prim.Native.Nat.{ℕ, zero, suc, ◌+◌, ◌≤◌, ◌<◌}
use native.Mathlib.Omega.{arith}
use lib.Dec.{eqb, ltb, eqb-zero-suc}
use lib.ListN.{get_or}
use borrow.Author.Tests.{eqb-true, ltb-true, not-false}
use Rattle.theory_views.specs.Views.{view_at}
use Rattle.machine.specs.State.{fresh_forward}
use Rattle.machine.specs.Rules.{value_of, address, read_view}
use Rattle.certify_runs.specs.Below.{Operand, LoadMode, Instr, Load, Memory, Forward, Thread}
use Rattle.certify_under.specs.Vacant.{Vacant}
use Rattle.certify_window.specs.Window.{NextMessage}
use Rattle.certify_window.specs.Idle.{Idles}

-- no message is to l where none is left after time 0
pub vacant_past : (m : Memory) (l r : ℕ) → m.count ≤ 16 → NextMessage m l 0 r → r ≡ 17 → Vacant m l
vacant_past m l r room none last t lo hi at = none.between t lo (omega arith) hi at

-- the view by a pair of time and view, of time 0
view_zero : (t v : ℕ) → (eqb t 0 && not (eqb v 0)) ≡ false → cond (eqb 0 t) v 0 ≡ 0
view_zero zero v e = eqb-true v 0 (not-false (eqb v 0) e)
view_zero (suc t) v e = ap (λ (z : Bool). cond z v 0) (eqb-zero-suc t)

-- a load at time 0 has read view 0 where the forward pair is not of time 0, or its view is 0
pub unseen_by : (s : Thread) (l : ℕ) (w : Forward) → w ≡ get_or s.forward l fresh_forward → (eqb w.time 0 && not (eqb w.view 0)) ≡ false → read_view s l 0 ≡ 0
unseen_by s l w is e = ap (λ (p : Forward). cond (eqb 0 p.time) p.view 0) (sym is) ∙ view_zero w.time w.view e

-- one of two tests passes
either_true : {A B : Type 0} (a b : Bool) → (a ≡ true → A) → (b ≡ true → B) → (a || b) ≡ true → A ⊎ B
either_true true b f g e = inl (f refl)
either_true false b f g e = inr (g e)

-- there is no hole, or the view v is before it
pub early_by : (v hole : ℕ) → (eqb hole 0 || ltb v hole) ≡ true → (hole ≡ 0) ⊎ (v < hole)
early_by v hole = either_true (eqb hole 0) (ltb v hole) (eqb-true hole 0) (ltb-true v hole)

-- a load at time 0 from l is idle
pub load_idles : (x : Instr) (m : Memory) (s : Thread) (t : ℕ) (y : Thread) (hole : ℕ) (k : LoadMode) (r : ℕ) (a b : Operand) → x ≡ Load k r a b → t ≡ 0 → (l : ℕ) → l ≡ address (value_of s a + value_of s b)
    → Vacant m l → read_view s l 0 ≡ 0 → view_at y.coherence l ≤ m.count → (hole ≡ 0) ⊎ (view_at y.coherence l < hole) → Idles x m s t y hole
load_idles x m s t y hole k r a b is start l at vacant unseen known early =
    record {
      mode = k;
      register = r;
      a = a;
      b = b;
      is_load = is;
      at_zero = start;
      vacant = subst (Vacant m) at vacant;
      unseen = subst (λ (j : ℕ). read_view s j 0 ≡ 0) at unseen;
      known = subst (λ (j : ℕ). view_at y.coherence j ≤ m.count) at known;
      early = subst (λ (j : ℕ). (hole ≡ 0) ⊎ (view_at y.coherence j < hole)) at early;
    }
