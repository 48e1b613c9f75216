-- One instruction on two threads of which one is under the other: what s' does, s does too where the values that matter are the same, and stays under.
-- Assumes nothing.
use mathlib.Core.Path.{◌≡◌, refl, sym, ap, ap₂, ◌∙◌, subst}
use mathlib.Core.List.{List}
use Prim.Native.Nat.{ℕ, max, ◌+◌, ◌≤◌, ◌<◌}
use native.Mathlib.Nat.{le_refl, le_trans, le-max_left, lt_of_le_of_lt}
use native.Mathlib.Omega.{arith}
use lib.Dec.{T, eqb}
use lib.ListN.{length, get_or, set, length-set}
use Rattle.theory_views.specs.Views.{view_at, raise_at}
use Rattle.theory_views.proofs.Entries.{set_both}
use Rattle.theory_views.proofs.Merging.{length_raise, raise_up}
use Rattle.machine.specs.State.{has, with, without, fresh_register, fresh_forward}
use Rattle.machine.specs.Rules.{value_of, view_of, view_of₂, compute_done, branch_by, branch_done, fence_done, store_done, readable, none_newer, read_view, load_done, store_pre, add_promise}
use Rattle.machine.proofs.Effects.{load_location, load_pre_view, load_post_view, store_location, Promised, Effect, loaded, stored}
use Rattle.certify_runs.specs.Below.{Operand, Constant, OfRegister, ComputeMode, LoadMode, StoreMode, FenceMode, Load, Store, Memory, Register, Forward, Thread}
use Rattle.certify_lost.proofs.Lower.{raise_both, max_low, pre_low, store_pre_low, load_views_low, store_views_low, cap_views_low, fence_views_low, none_newer_low, view_low}
use Rattle.certify_lost.proofs.Going.{lower_self}
use Rattle.certify_under.specs.Threads.{at_position, cohering}
use Rattle.certify_under.specs.Under.{Forwarded, Under}

-- a thread is under itself
pub under_self : (s : Thread) → Under s s
under_self s =
    record {
      same_position = refl;
      same_promises = refl;
      registers_long = refl;
      registers_low = λ k. le_refl _;
      coherence_long = refl;
      coherence_low = λ l. le_refl _;
      forward_long = refl;
      forward_same = λ l. (refl, le_refl _);
      views_low = lower_self s.views;
    }

-- a promise more for both
pub promise_under : {s s' : Thread} (m : Memory) → Under s s' → Under (add_promise m s) (add_promise m s')
promise_under m h =
    record {
      same_position = h.same_position;
      same_promises = ap (λ (p : ℕ). with p m.count) h.same_promises;
      registers_long = h.registers_long;
      registers_low = h.registers_low;
      coherence_long = h.coherence_long;
      coherence_low = h.coherence_low;
      forward_long = h.forward_long;
      forward_same = h.forward_same;
      views_low = h.views_low;
    }

module _ (s s' : Thread) (h : Under s s') where
  -- ---- operands, registers, coherence views
  operand_low : (a : Operand) → view_of s a ≤ view_of s' a
  operand_low (Constant n) = le_refl 0
  operand_low (OfRegister r) = h.registers_low r

  operands_low : (a b : Operand) → view_of₂ s a b ≤ view_of₂ s' a b
  operands_low a b = max_low _ _ _ _ (operand_low a) (operand_low b)

  -- the registers, where r is written with a view no larger
  set_long : (r : ℕ) (x x' : Register) → length (set s.registers r x) ≡ length (set s'.registers r x')
  set_long r x x' = length-set s.registers r x ∙ h.registers_long ∙ sym (length-set s'.registers r x')

  set_low : (r : ℕ) (x x' : Register) → x.view ≤ x'.view → (k : ℕ) → (get_or (set s.registers r x) k fresh_register).view ≤ (get_or (set s'.registers r x') k fresh_register).view
  set_low r x x' low =
      set_both (λ (k : ℕ) (y y' : Register). y.view ≤ y'.view) fresh_register x x' s.registers s'.registers r h.registers_long (λ k n. h.registers_low k) (le_refl 0) low

  -- the coherence views, where one is raised in each
  raise_long : (l l' v v' : ℕ) → length (raise_at s.coherence l v) ≡ length (raise_at s'.coherence l' v')
  raise_long l l' v v' = length_raise s.coherence l v ∙ h.coherence_long ∙ sym (length_raise s'.coherence l' v')

  -- ---- compute, branch, fence
  pub compute_under : (k : ComputeMode) (r : ℕ) (a b : Operand) → Under (compute_done k r a b s) (compute_done k r a b s')
  compute_under k r a b =
      record {
        same_position = ap (λ (n : ℕ). n + 1) h.same_position;
        same_promises = h.same_promises;
        registers_long = set_long r _ _;
        registers_low = set_low r _ _ (operands_low a b);
        coherence_long = h.coherence_long;
        coherence_low = h.coherence_low;
        forward_long = h.forward_long;
        forward_same = h.forward_same;
        views_low = h.views_low;
      }

  -- a branch, whichever way it leads
  pub branched_under : (n : ℕ) (a b : Operand) (p p' : ℕ) → p ≡ p' → Under (at_position (branch_done n a b s) p) (at_position (branch_done n a b s') p')
  branched_under n a b p p' at =
      record {
        same_position = at;
        same_promises = h.same_promises;
        registers_long = h.registers_long;
        registers_low = h.registers_low;
        coherence_long = h.coherence_long;
        coherence_low = h.coherence_low;
        forward_long = h.forward_long;
        forward_same = h.forward_same;
        views_low = cap_views_low _ _ s.views s'.views (operands_low a b) h.views_low;
      }

  -- the same way
  pub branch_under : (n : ℕ) (a b : Operand) → branch_by (eqb (value_of s a) (value_of s b)) n ≡ branch_by (eqb (value_of s' a) (value_of s' b)) n → Under (branch_done n a b s) (branch_done n a b s')
  branch_under n a b way = branched_under n a b _ _ (ap₂ (λ (i j : ℕ). i + j) h.same_position way)

  pub fence_under : (k : FenceMode) → Under (fence_done k s) (fence_done k s')
  fence_under k =
      record {
        same_position = ap (λ (n : ℕ). n + 1) h.same_position;
        same_promises = h.same_promises;
        registers_long = h.registers_long;
        registers_low = h.registers_low;
        coherence_long = h.coherence_long;
        coherence_low = h.coherence_low;
        forward_long = h.forward_long;
        forward_same = h.forward_same;
        views_low = fence_views_low k s.views s'.views h.views_low;
      }

  -- ---- loads
  module _ (a b : Operand) where
    pre_view_low : (k : LoadMode) → load_pre_view k s a b ≤ load_pre_view k s' a b
    pre_view_low k = pre_low k _ _ s.views s'.views (operands_low a b) h.views_low

    -- a read at time 0 that has no view of its own gives a post-view no larger than any other's
    pub post_unseen : (k : LoadMode) → read_view s (load_location s a b) 0 ≡ 0 → load_post_view k s a b 0 ≤ load_post_view k s' a b 0
    post_unseen k unseen = max_low _ _ _ _ (pre_view_low k) (subst (λ (v : ℕ). v ≤ read_view s' (load_location s' a b) 0) (sym unseen) (omega arith))

    -- the pre-view is no larger than the post-view of any read
    pub post_any : (k : LoadMode) (t : ℕ) → load_pre_view k s a b ≤ load_post_view k s' a b t
    post_any k t = le_trans (pre_view_low k) (le-max_left (load_pre_view k s' a b) (read_view s' (load_location s' a b) t))

    -- what two loads leave, the one with a post-view no larger, and with coherence views no larger
    loaded_under : (k : LoadMode) (r : ℕ) (m : Memory) (t t' l l' post post' : ℕ) (xs xs' : List ℕ) → post ≤ post' → length xs ≡ length xs' → ((j : ℕ) → view_at xs j ≤ view_at xs' j)
        → Under (cohering (load_done k r m t l (view_of₂ s a b) post s) xs) (cohering (load_done k r m t' l' (view_of₂ s' a b) post' s') xs')
    loaded_under k r m t t' l l' post post' xs xs' low long coheres =
        record {
          same_position = ap (λ (n : ℕ). n + 1) h.same_position;
          same_promises = h.same_promises;
          registers_long = set_long r _ _;
          registers_low = set_low r _ _ low;
          coherence_long = long;
          coherence_low = coheres;
          forward_long = h.forward_long;
          forward_same = h.forward_same;
          views_low = load_views_low k _ _ post post' s.views s'.views (operands_low a b) low h.views_low;
        }

    -- the one with the coherence views of before
    pub load_idle_under : (k : LoadMode) (r : ℕ) (m : Memory) (t t' post post' : ℕ) → post ≤ post'
        → Under (cohering (load_done k r m t (load_location s a b) (view_of₂ s a b) post s) s.coherence) (load_done k r m t' (load_location s' a b) (view_of₂ s' a b) post' s')
    load_idle_under k r m t t' post post' low =
        loaded_under k r m t t' (load_location s a b) (load_location s' a b) post post' s.coherence (raise_at s'.coherence (load_location s' a b) post') low (h.coherence_long ∙ sym (length_raise s'.coherence _ post'))
        (λ j. le_trans (h.coherence_low j) (raise_up s'.coherence (load_location s' a b) post' j))

  -- ---- a load of the same location
  module _ (a b : Operand) (same : load_location s a b ≡ load_location s' a b) where
    -- what is read at one time is read with a view no larger
    pub read_low : (t : ℕ) → read_view s (load_location s a b) t ≤ read_view s' (load_location s' a b) t
    read_low t =
        subst (λ (l : ℕ). read_view s l t ≤ read_view s' (load_location s' a b) t) (sym same)
        (let f = h.forward_same (load_location s' a b) in view_low t _ _ _ _ f.0 f.1)

    -- a read view no larger gives a post-view no larger
    pub post_low : (k : LoadMode) (u t : ℕ) → read_view s (load_location s a b) u ≤ read_view s' (load_location s' a b) t → load_post_view k s a b u ≤ load_post_view k s' a b t
    post_low k u t low = max_low _ _ _ _ (pre_view_low a b k) low

    -- what two loads leave, the one with a post-view no larger
    pub load_under : (k : LoadMode) (r : ℕ) (m : Memory) (t t' post post' : ℕ) → post ≤ post'
        → Under (load_done k r m t (load_location s a b) (view_of₂ s a b) post s) (load_done k r m t' (load_location s' a b) (view_of₂ s' a b) post' s')
    load_under k r m t t' post post' low =
        loaded_under a b k r m t t' (load_location s a b) (load_location s' a b) post post' (raise_at s.coherence (load_location s a b) post) (raise_at s'.coherence (load_location s' a b) post') low (raise_long _ _ _ _)
        (subst (λ (l : ℕ). (j : ℕ) → view_at (raise_at s.coherence l post) j ≤ view_at (raise_at s'.coherence (load_location s' a b) post') j) (sym same)
        (raise_both s.coherence s'.coherence (load_location s' a b) post post' h.coherence_long h.coherence_low low))

    -- what s' reads s can read
    pub load_effect : (k : LoadMode) (r : ℕ) (m : Memory) (t : ℕ) → T (readable m (load_location s' a b) t) → T (none_newer m (load_location s' a b) t (max (load_pre_view k s' a b) (view_at s'.coherence (load_location s' a b))))
        → Effect m t s (Load k r a b) (load_done k r m t (load_location s a b) (view_of₂ s a b) (load_post_view k s a b t) s)
    load_effect k r m t d n =
        loaded (subst (λ (l : ℕ). T (readable m l t)) (sym same) d)
        (subst (λ (l : ℕ). T (none_newer m l t (max (load_pre_view k s a b) (view_at s.coherence l)))) (sym same)
        (none_newer_low m (load_location s' a b) t t _ _ (le_refl t) (max_low _ _ _ _ (pre_view_low a b k) (h.coherence_low (load_location s' a b))) n))

  -- ---- a store to the same location
  module _ (k : StoreMode) (a d : Operand) (same : store_location s a ≡ store_location s' a) where
    -- what two stores leave, whatever their data
    pub store_under : (t : ℕ) → Under (store_done k t (store_location s a) (view_of s a) (view_of s d) s) (store_done k t (store_location s' a) (view_of s' a) (view_of s' d) s')
    store_under t =
        record {
          same_position = ap (λ (n : ℕ). n + 1) h.same_position;
          same_promises = ap (λ (q : ℕ). without q t) h.same_promises;
          registers_long = h.registers_long;
          registers_low = h.registers_low;
          coherence_long = raise_long _ _ _ _;
          coherence_low = subst (λ (l : ℕ). (j : ℕ) → view_at (raise_at s.coherence l t) j ≤ view_at (raise_at s'.coherence (store_location s' a) t) j) (sym same)
              (raise_both s.coherence s'.coherence (store_location s' a) t t h.coherence_long h.coherence_low (le_refl t));
          forward_long = length-set s.forward _ _ ∙ h.forward_long ∙ sym (length-set s'.forward _ _);
          forward_same = subst (λ (l : ℕ). (j : ℕ) → Forwarded (set s.forward l (record { time = t; view = max (view_of s a) (view_of s d) })) (set s'.forward (store_location s' a) (record { time = t; view = max (view_of s' a) (view_of s' d) })) j) (sym same)
              (set_both (λ (j : ℕ) (x y : Forward). (x.time ≡ y.time) × (x.view ≤ y.view)) fresh_forward _ _ s.forward s'.forward (store_location s' a) h.forward_long (λ j n. h.forward_same j) (refl, le_refl 0)
              (refl, operands_low a d));
          views_low = store_views_low k t t _ _ s.views s'.views (le_refl t) (operand_low a) h.views_low;
        }

    -- the promise that s' fulfils s can fulfil, if the data are the same
    pub store_effect : (m : Memory) (t : ℕ) → value_of s d ≡ value_of s' d → Promised m t (store_location s' a) (value_of s' d) s' → store_pre k (view_of s' a) (view_of s' d) s'.views < t → view_at s'.coherence (store_location s' a) < t
        → Effect m t s (Store k a d) (store_done k t (store_location s a) (view_of s a) (view_of s d) s)
    store_effect m t same_data p low below =
        stored
        (record {
          out = subst (λ (q : ℕ). T (has q t)) (sym h.same_promises) p.out;
          in_memory = p.in_memory;
          at_location = p.at_location ∙ sym same;
          at_value = p.at_value ∙ sym same_data;
        })
        (lt_of_le_of_lt (store_pre_low k _ _ _ _ s.views s'.views (operand_low a) (operand_low d) h.views_low) low)
        (subst (λ (l : ℕ). view_at s.coherence l < t) (sym same) (lt_of_le_of_lt (h.coherence_low (store_location s' a)) below))
