-- What the tests of the code come to where they are not word for word those of the definition.
-- Assumes nothing.
use mathlib.Core.Path.{◌≡◌, refl, sym, ap₂, subst, ◌∙◌}
use mathlib.Core.Bool.{true, ◌&&◌}
use Prim.Native.Nat.{ℕ, zero, suc, ◌-◌, ◌/◌, ◌%◌, ◌^◌, ◌≤◌}
use native.Mathlib.Omega.{arith}
use lib.Dec.{T, eqb, leb, leb→le}
use lib.ListN.{get_or}
use borrow.Author.Tests.{lt-ltb, lt-leb, ne_eqb}
use Rattle.theory_views.specs.Views.{view_at}
use Rattle.program.specs.Tests.{below}
use Rattle.program.proofs.Tests.{all_at}
use Rattle.program.proofs.Loops.{below_same}
use Rattle.machine.specs.declared.Memory.{Memory}
use Rattle.machine.specs.declared.Thread.{Thread}
use Rattle.machine.specs.State.{fresh_forward, has}
use Rattle.machine.specs.WellFormed.{memory_test}

-- a memory that passes has at most 16 messages
pub memory_room : (threads : ℕ) (m : Memory) → memory_test threads m ≡ true → m.count ≤ 16
unfolding memory_test
memory_room threads m e = leb→le m.count 16 (all_at _ (subst T (sym e) tt) 0)

-- time k + 1 is in the set: bit k is 1
pub has_place : (p k : ℕ) → has p (suc k) ≡ eqb (p / 2 ^ k % 2) 1
unfolding has
has_place p k = let e : suc k - 1 ≡ k = omega arith in rw (lt-ltb 0 (suc k) (omega arith), e)

-- at most 0 is 0
leb_zero : (a : ℕ) → leb a 0 ≡ eqb a 0
leb_zero zero = refl
leb_zero (suc a) = lt-leb (suc a) 0 (omega arith) ∙ sym (ne_eqb (suc a) 0 (λ e. omega arith))

module _ (s : Thread) where
  pub coherence_zero : below (λ k. leb (view_at s.coherence k) 0) 16 ≡ below (λ k. eqb (view_at s.coherence k) 0) 16
  coherence_zero = below_same _ _ (λ k. leb_zero (view_at s.coherence k)) 16

  pub forward_zero :
      below (λ k. let w = get_or s.forward k fresh_forward in leb w.time 0 && leb w.view 0) 16
      ≡ below (λ k. let w = get_or s.forward k fresh_forward in eqb w.time 0 && eqb w.view 0) 16
  forward_zero = below_same _ _ (λ k. let w = get_or s.forward k fresh_forward in ap₂ ◌&&◌ (leb_zero w.time) (leb_zero w.view)) 16
