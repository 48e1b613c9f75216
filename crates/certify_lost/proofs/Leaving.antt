-- The least that an instruction leaves of a thread's views.
-- Assumes nothing.
use mathlib.Core.Path.{◌≡◌}
use Prim.Native.Nat.{ℕ, ◌≤◌, ◌<◌}
use native.Mathlib.Omega.{arith}
use Rattle.program.specs.declared.Operand.{Operand}
use Rattle.program.specs.declared.LoadMode.{LoadMode}
use Rattle.program.specs.declared.StoreMode.{StoreMode}
use Rattle.program.specs.declared.FenceMode.{FenceMode}
use Rattle.program.specs.declared.Instr.{Instr}
use Rattle.program.specs.declared.Instr.TheVariants.{Load, Store, Fence}
use Rattle.machine.specs.declared.Memory.{Memory}
use Rattle.machine.specs.declared.Thread.{Thread}
use Rattle.machine.specs.declared.Views.{Views}
use Rattle.machine.specs.Rules.{view_of, view_of₂, load_pre, load_views, store_pre, store_views, fence_views}
use Rattle.machine.proofs.Effects.{Effect, loaded, stored, fenced, effect, load_post_view}
use Rattle.certify_lost.specs.Lower.{Lower}
use Rattle.certify_lost.specs.Lost.{Leaves}
use Rattle.certify_lost.proofs.Lower.{pre_low, store_pre_low, load_views_low, store_views_low, fence_views_low}
use Rattle.certify_lost.proofs.Going.{lower_trans, views_grow}

-- what holds of each effect holds of each execution
by_effect : (x : Instr) (v r : Views) → ((m : Memory) (t : ℕ) (s y : Thread) → Lower v s.views → Effect m t s x y → Lower r y.views) → Leaves x v r
by_effect x v r f m t s y l e = f m t s y l (effect x m t s y e)

-- no instruction leaves less than there was
pub leaves_same : (x : Instr) (v : Views) → Leaves x v v
leaves_same x v = by_effect x v v (λ m t s y l e. lower_trans l (views_grow e))

-- a load reads with its pre-view at least
pub leaves_load : (x : Instr) (v : Views) (k : LoadMode) (n : ℕ) (a b : Operand) → x ≡ Load k n a b → (r : Views) → r ≡ load_views k 0 (load_pre k 0 v) v → Leaves x v r
leaves_load x v k n a b is r e = rw (is, e) (by_effect (Load k n a b) v (load_views k 0 (load_pre k 0 v) v) read)
  where
    read : (m : Memory) (t : ℕ) (s y : Thread) → Lower v s.views → Effect m t s (Load k n a b) y → Lower (load_views k 0 (load_pre k 0 v) v) y.views
    read m t s y l (loaded d z) = let p = pre_low k 0 (view_of₂ s a b) v s.views (omega arith) l in load_views_low k 0 (view_of₂ s a b) (load_pre k 0 v) (load_post_view k s a b t) v s.views (omega arith) (omega arith) l

-- a store is later than its pre-view
pub leaves_store : (x : Instr) (v : Views) (k : StoreMode) (a d : Operand) → x ≡ Store k a d → (p : ℕ) → p ≡ store_pre k 0 0 v → (u : ℕ) → ((t : ℕ) → p < t → u ≤ t) → (r : Views) → r ≡ store_views k u 0 v → Leaves x v r
leaves_store x v k a d is p pe u least r e = rw (is, e) (by_effect (Store k a d) v (store_views k u 0 v) wrote)
  where
    wrote : (m : Memory) (t : ℕ) (s y : Thread) → Lower v s.views → Effect m t s (Store k a d) y → Lower (store_views k u 0 v) y.views
    wrote m t s y l (stored o pre below) =
        let low = store_pre_low k 0 (view_of s a) 0 (view_of s d) v s.views (omega arith) (omega arith) l in
        store_views_low k u t 0 (view_of s a) v s.views (least t (omega arith)) (omega arith) l

-- a fence does what it does
pub leaves_fence : (x : Instr) (v : Views) (k : FenceMode) → x ≡ Fence k → (r : Views) → r ≡ fence_views k v → Leaves x v r
leaves_fence x v k is r e = rw (is, e) (by_effect (Fence k) v (fence_views k v) fences)
  where
    fences : (m : Memory) (t : ℕ) (s y : Thread) → Lower v s.views → Effect m t s (Fence k) y → Lower (fence_views k v) y.views
    fences m t s y l (fenced z) = fence_views_low k v s.views l
