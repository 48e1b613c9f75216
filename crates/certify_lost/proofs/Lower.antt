-- Smaller views: what the rules compute of views that are at most others is at most what they compute of those.
-- Assumes nothing.
use mathlib.Core.Path.{◌≡◌}
use mathlib.Core.Bool.{Bool, true, false, not, cond, ◌&&◌}
use mathlib.Core.List.{List}
use Prim.Native.Nat.{ℕ, suc, max, ◌+◌, ◌≤◌}
use native.Mathlib.Nat.{le_refl}
use native.Mathlib.Omega.{arith}
use lib.Dec.{T, eqb, leb, ltb, leb→le, le→leb, ltb→lt, lt→ltb}
use lib.ListN.{length}
use Rattle.theory_views.specs.Views.{view_at, raise_at}
use Rattle.theory_views.proofs.Entries.{set_both}
use Rattle.program.proofs.Tests.{and_left, and_right, and_both, below_at, below_all}
use Rattle.program.specs.declared.LoadMode.{LoadMode}
use Rattle.program.specs.declared.StoreMode.{StoreMode}
use Rattle.program.specs.declared.FenceMode.{FenceMode}
use Rattle.machine.specs.declared.Memory.{Memory}
use Rattle.machine.specs.declared.Views.{Views}
use Rattle.machine.specs.State.{message_at, raise_cap}
use Rattle.machine.specs.Rules.{address, load_pre, none_newer, newer, if_acquire, load_views, store_pre, if_release, store_views, fence_views}
use Rattle.program.specs.declared.LoadMode.TheVariants.{PlainLoad, Acquire, WeakAcquire}
use Rattle.program.specs.declared.StoreMode.TheVariants.{PlainStore, Release}
use Rattle.program.specs.declared.FenceMode.TheVariants.{DmbSy, DmbLd, DmbSt, Isb}
use Rattle.certify_lost.specs.Lower.{Lower}

-- views of two lists raised at one place
pub raise_both : (c d : List ℕ) (i v w : ℕ) → length c ≡ length d → ((k : ℕ) → view_at c k ≤ view_at d k) → v ≤ w → (k : ℕ) → view_at (raise_at c i v) k ≤ view_at (raise_at d i w) k
raise_both c d i v w e h l = set_both (λ j x y. x ≤ y) 0 _ _ c d i e (λ k n. h k) (le_refl 0) (let q = h i in omega arith)

-- ---- what the rules compute, with smaller views
pub near_sum : (a a' b b' : ℕ) → address a ≡ address a' → address b ≡ address b' → address (a + b) ≡ address (a' + b')
near_sum a a' b b' p q = omega arith

pub max_low : (a b x y : ℕ) → a ≤ b → x ≤ y → max a x ≤ max b y
max_low a b x y l r = omega arith

pub pre_low : (k : LoadMode) (va va' : ℕ) (v w : Views) → va ≤ va' → Lower v w → load_pre k va v ≤ load_pre k va' w
pre_low PlainLoad va va' v w l o = let a = o.r_new_low in omega arith
pre_low Acquire va va' v w l o = let a = o.r_new_low in let b = o.rel_low in omega arith
pre_low WeakAcquire va va' v w l o = let a = o.r_new_low in omega arith

pub store_pre_low : (k : StoreMode) (va va' vd vd' : ℕ) (v w : Views) → va ≤ va' → vd ≤ vd' → Lower v w → store_pre k va vd v ≤ store_pre k va' vd' w
store_pre_low PlainStore va va' vd vd' v w l d o = max_low _ _ _ _ (max_low _ _ _ _ l d) (max_low _ _ _ _ o.w_new_low o.cap_low)
store_pre_low Release va va' vd vd' v w l d o =
    max_low _ _ _ _ (max_low _ _ _ _ (max_low _ _ _ _ l d) (max_low _ _ _ _ o.w_new_low o.cap_low)) (max_low _ _ _ _ o.r_old_low o.w_old_low)

acquire_low : (k : LoadMode) (p q : ℕ) → p ≤ q → if_acquire k p ≤ if_acquire k q
acquire_low PlainLoad p q l = le_refl 0
acquire_low Acquire p q l = l
acquire_low WeakAcquire p q l = l

pub load_views_low : (k : LoadMode) (va va' p q : ℕ) (v w : Views) → va ≤ va' → p ≤ q → Lower v w → Lower (load_views k va p v) (load_views k va' q w)
load_views_low k va va' p q v w l r o =
    let z = acquire_low k p q r in
    record {
      r_old_low = max_low _ _ _ _ o.r_old_low r;
      w_old_low = o.w_old_low;
      r_new_low = max_low _ _ _ _ o.r_new_low z;
      w_new_low = max_low _ _ _ _ o.w_new_low z;
      cap_low = max_low _ _ _ _ o.cap_low l;
      rel_low = o.rel_low;
    }

release_low : (k : StoreMode) (t t' : ℕ) → t ≤ t' → if_release k t ≤ if_release k t'
release_low PlainStore t t' l = le_refl 0
release_low Release t t' l = l

pub store_views_low : (k : StoreMode) (t t' va va' : ℕ) (v w : Views) → t ≤ t' → va ≤ va' → Lower v w → Lower (store_views k t va v) (store_views k t' va' w)
store_views_low k t t' va va' v w tl l o =
    record {
      r_old_low = o.r_old_low;
      w_old_low = max_low _ _ _ _ o.w_old_low tl;
      r_new_low = o.r_new_low;
      w_new_low = o.w_new_low;
      cap_low = max_low _ _ _ _ o.cap_low l;
      rel_low = max_low _ _ _ _ o.rel_low (release_low k t t' tl);
    }

pub cap_views_low : (va va' : ℕ) (v w : Views) → va ≤ va' → Lower v w → Lower (raise_cap va v) (raise_cap va' w)
cap_views_low va va' v w l o =
    record { r_old_low = o.r_old_low; w_old_low = o.w_old_low; r_new_low = o.r_new_low; w_new_low = o.w_new_low; cap_low = max_low _ _ _ _ o.cap_low l; rel_low = o.rel_low }

pub fence_views_low : (k : FenceMode) (v w : Views) → Lower v w → Lower (fence_views k v) (fence_views k w)
fence_views_low DmbSy v w o =
    let z = max_low _ _ _ _ o.r_old_low o.w_old_low in
    record { r_old_low = o.r_old_low; w_old_low = o.w_old_low; r_new_low = max_low _ _ _ _ o.r_new_low z; w_new_low = max_low _ _ _ _ o.w_new_low z; cap_low = o.cap_low; rel_low = o.rel_low }
fence_views_low DmbLd v w o =
    let z = o.r_old_low in
    record { r_old_low = o.r_old_low; w_old_low = o.w_old_low; r_new_low = max_low _ _ _ _ o.r_new_low z; w_new_low = max_low _ _ _ _ o.w_new_low z; cap_low = o.cap_low; rel_low = o.rel_low }
fence_views_low DmbSt v w o =
    record { r_old_low = o.r_old_low; w_old_low = o.w_old_low; r_new_low = o.r_new_low; w_new_low = max_low _ _ _ _ o.w_new_low o.w_old_low; cap_low = o.cap_low; rel_low = o.rel_low }
fence_views_low Isb v w o =
    record { r_old_low = o.r_old_low; w_old_low = o.w_old_low; r_new_low = max_low _ _ _ _ o.r_new_low o.cap_low; w_new_low = o.w_new_low; cap_low = o.cap_low; rel_low = o.rel_low }

not_both : (a b : Bool) → (T a → T b) → T (not b) → T (not a)
not_both true true f h = h
not_both true false f h = absurd (f tt)
not_both false b f h = tt

-- no newer message: for a smaller span, and for a later time
pub none_newer_low : (m : Memory) (l t t' v v' : ℕ) → t' ≤ t → v ≤ v' → T (none_newer m l t' v') → T (none_newer m l t v)
unfolding none_newer
none_newer_low m l t t' v v' tl vl h = below_all _ m.count (λ k kl. not_both (newer m l t v (suc k)) (newer m l t' v' (suc k)) (wider k) (below_at _ m.count h k kl))
  where
    wider : (k : ℕ) → T (newer m l t v (suc k)) → T (newer m l t' v' (suc k))
    wider k n =
        let a : T (eqb (message_at m (suc k)).location l) = search (and_left, and_right) in
        let b : T (ltb t (suc k)) = search (and_left, and_right) in
        let d : T (leb (suc k) v) = search (and_left, and_right) in
        let b' = ltb→lt t (suc k) b in
        let d' = leb→le (suc k) v d in
        let x : T (ltb t' (suc k)) = lt→ltb t' (suc k) (omega arith) in
        let y : T (leb (suc k) v') = le→leb (suc k) v' (omega arith) in
        and_both (eqb (message_at m (suc k)).location l && ltb t' (suc k)) (leb (suc k) v') (and_both (eqb (message_at m (suc k)).location l) (ltb t' (suc k)) a x) y

pub view_low : (t f f' v v' : ℕ) → f ≡ f' → v ≤ v' → cond (eqb t f) v t ≤ cond (eqb t f') v' t
view_low t f f' v v' e l = rw e (go (eqb t f'))
  where
    go : (b : Bool) → cond b v t ≤ cond b v' t
    go true = l
    go false = le_refl t
