-- The vacant law: where no message is to a location, the coherence view there counts only for the thread's own stores.
-- Assumes nothing.
use mathlib.Core.Path.{◌≡◌, refl, sym, ap, ◌∙◌, subst}
use mathlib.Core.Logic.{◌⊎◌, inl, inr, ⊎_elim, ◌≢◌}
use mathlib.Core.List.{List, [], ◌∷◌}
use mathlib.Core.Option.{some}
use Prim.Native.Nat.{ℕ, zero, suc, max, ◌+◌, ◌-◌, ◌≤◌, ◌<◌}
use native.Mathlib.Decide.{ℕ_discrete}
use native.Mathlib.Omega.{arith}
use lib.Dec.{T}
use lib.ListN.{set}
use lib.Seq.{get_or-set_other}
use Rattle.theory_views.specs.Views.{view_at, raise_at}
use Rattle.theory_views.proofs.Merging.{raise_up}
use Rattle.machine.specs.State.{no_message, message_at, append}
use Rattle.machine.specs.Rules.{next, value_of, view_of, view_of₂, compute_done, branch_done, fence_done, readable, none_newer, load_done, store_pre, store_done, execute, add_promise}
use Rattle.machine.proofs.Sets.{has_positive}
use Rattle.machine.proofs.Memories.{message_stays}
use Rattle.machine.proofs.Effects.{load_location, load_pre_view, load_post_view, store_location, Promised, Effect, computed, loaded, stored, branched, fenced, effect}
use Rattle.certify_runs.specs.Below.{Code, Operand, Constant, OfRegister, ComputeMode, LoadMode, StoreMode, Instr, Compute, Load, Store, Branch, Fence, Message, Memory, Thread}
use Rattle.certify_runs.specs.declared.RunStep.{RunStep}
use Rattle.certify_runs.specs.Certify.{message_of, certified}
use Rattle.certify_runs.specs.Runs.{Comes, done, by, own}
use Rattle.certify_runs.specs.First.{Certifies, stop, go, go_own, First}
use Rattle.certify_runs.proofs.Iff.{onward_inv, onward_next, certified_iff}
use Rattle.certify_runs.proofs.Fit.{no_message_lem}
use Rattle.certify_runs.proofs.Executes.{executes}
use Rattle.certify_under.specs.Vacant.{Vacant}
use Rattle.certify_under.specs.Threads.{cohering}
use Rattle.certify_under.proofs.Resting.{none_newer_lem}
use Rattle.certify_window.specs.Idle.{Idles}
use Rattle.certify_sought.specs.Aim.{fill, Fills, Aim, Meets}
use Rattle.certify.proofs.Filling.{fills_out}

-- ---- lists of views, one of them replaced
-- what holds of the view at j, and of v if v is put in there, holds of the view at j then
put_in : (P : ℕ → Type 0) (xs : List ℕ) (i v j : ℕ) → P (view_at xs j) → (j ≡ i → P v) → P (view_at (set xs i v) j)
put_in P [] i v j h p = h
put_in P (x ∷ xs) zero v zero h p = p refl
put_in P (x ∷ xs) zero v (suc j) h p = h
put_in P (x ∷ xs) (suc i) v zero h p = h
put_in P (x ∷ xs) (suc i) v (suc j) h p = put_in P xs i v j h (λ e. p (ap suc e))

-- what was put in is put in again
put_again : (xs : List ℕ) (i v : ℕ) → set xs i (view_at (set xs i v) i) ≡ set xs i v
put_again [] i v = refl
put_again (x ∷ xs) zero v = refl
put_again (x ∷ xs) (suc i) v = ap (λ (r : List ℕ). x ∷ r) (put_again xs i v)

-- what stood there is put back
put_back : (xs : List ℕ) (i v : ℕ) → set (set xs i v) i (view_at xs i) ≡ xs
put_back [] i v = refl
put_back (x ∷ xs) zero v = refl
put_back (x ∷ xs) (suc i) v = ap (λ (r : List ℕ). x ∷ r) (put_back xs i v)

-- what a view up to t was is forgotten where it is raised by t
raise_forgets : (xs : List ℕ) (i v t : ℕ) → v ≤ t → view_at xs i ≤ t → raise_at (set xs i v) i t ≡ raise_at xs i t
raise_forgets [] i v t a b = refl
raise_forgets (x ∷ xs) zero v t a b = ap (λ (n : ℕ). n ∷ xs) (omega arith)
raise_forgets (x ∷ xs) (suc i) v t a b = ap (λ (r : List ℕ). x ∷ r) (raise_forgets xs i v t a b)

-- a view raised, there or elsewhere, after v was put in: as if before, and v or more put in then
raise_put : (xs : List ℕ) (i v b j p : ℕ) → v ≤ max (view_at xs i) b → (w : ℕ) × (raise_at (set xs i v) j p ≡ set (raise_at xs j p) i w) × (w ≤ max (view_at (raise_at xs j p) i) b)
raise_put [] i v b j p low = (v, refl, low)
raise_put (x ∷ xs) zero v b zero p low = (max v p, refl, omega arith)
raise_put (x ∷ xs) zero v b (suc j) p low = (v, refl, low)
raise_put (x ∷ xs) (suc i) v b zero p low = (v, refl, low)
raise_put (x ∷ xs) (suc i) v b (suc j) p low = let r = raise_put xs i v b j p low in (r.0, ap (λ (q : List ℕ). x ∷ q) r.1, r.2)

-- ---- one instruction, with other coherence views
module _ (s : Thread) (xs : List ℕ) where
  -- an operand is read from the registers alone
  value_same : (a : Operand) → value_of (cohering s xs) a ≡ value_of s a
  value_same (Constant n) = refl
  value_same (OfRegister r) = refl

  view_same : (a : Operand) → view_of (cohering s xs) a ≡ view_of s a
  view_same (Constant n) = refl
  view_same (OfRegister r) = refl

  -- so is a store's message
  message_same : (i : ℕ) (x : Instr) → message_of i (cohering s xs) x ≡ message_of i s x
  message_same i (Compute k r a b) = refl
  message_same i (Load k r a b) = refl
  message_same i (Store k a d) = rw (value_same a, value_same d)
  message_same i (Branch n a b) = refl
  message_same i (Fence k) = refl

  -- what an instruction leaves, but for the coherence views, it leaves with others too
  compute_coheres : {m : Memory} {t : ℕ} (k : ComputeMode) (r : ℕ) (a b : Operand) → t ≡ 0 → Effect m t (cohering s xs) (Compute k r a b) (cohering (compute_done k r a b s) xs)
  compute_coheres {m} {t} k r a b e =
      let h : Effect m t (cohering s xs) (Compute k r a b) (compute_done k r a b (cohering s xs)) = computed e in
      rw (value_same a, value_same b, view_same a, view_same b) at h

  branch_coheres : {m : Memory} {t : ℕ} (n : ℕ) (a b : Operand) → t ≡ 0 → Effect m t (cohering s xs) (Branch n a b) (cohering (branch_done n a b s) xs)
  branch_coheres {m} {t} n a b e =
      let h : Effect m t (cohering s xs) (Branch n a b) (branch_done n a b (cohering s xs)) = branched e in
      rw (value_same a, value_same b, view_same a, view_same b) at h

  -- a load or store raises them at its location, if they do not refuse it
  load_coheres : {m : Memory} {t : ℕ} (k : LoadMode) (r : ℕ) (a b : Operand) → T (readable m (load_location s a b) t) → T (none_newer m (load_location s a b) t (max (load_pre_view k s a b) (view_at xs (load_location s a b))))
      → Effect m t (cohering s xs) (Load k r a b) (cohering (load_done k r m t (load_location s a b) (view_of₂ s a b) (load_post_view k s a b t) s) (raise_at xs (load_location s a b) (load_post_view k s a b t)))
  load_coheres {m} {t} k r a b d n =
      let y = cohering s xs in
      let h : Effect m t y (Load k r a b) (load_done k r m t (load_location y a b) (view_of₂ y a b) (load_post_view k y a b t) y) = loaded {k = k} {r = r} {a = a} {b = b} (rw (value_same a, value_same b) d) (rw (value_same a, value_same b, view_same a, view_same b) n) in
      rw (value_same a, value_same b, view_same a, view_same b) at h

  store_coheres : {m : Memory} {t : ℕ} (k : StoreMode) (a d : Operand) → Promised m t (store_location s a) (value_of s d) s → store_pre k (view_of s a) (view_of s d) s.views < t → view_at xs (store_location s a) < t
      → Effect m t (cohering s xs) (Store k a d) (cohering (store_done k t (store_location s a) (view_of s a) (view_of s d) s) (raise_at xs (store_location s a) t))
  store_coheres {m} {t} k a d p low below =
      let y = cohering s xs in
      let q : Promised m t (store_location s a) (value_of s d) y = record { out = p.out; in_memory = p.in_memory; at_location = p.at_location; at_value = p.at_value } in
      let h : Effect m t y (Store k a d) (store_done k t (store_location y a) (view_of y a) (view_of y d) y) = stored {k = k} {a = a} {d = d} (rw (value_same a, value_same d) q) (rw (view_same a, view_same d) low) (rw (value_same a) below) in
      rw (value_same a, view_same a, view_same d) at h

-- ---- threads that differ in a coherence view that does not count
-- the thread with coherence view v at l
abbrev put : Thread → ℕ → ℕ → Thread
put s l v = cohering s (set s.coherence l v)

-- v does not count at l: no message is to l, and v is at most the view that z has there or b, which is a time of the memory
record Idle (l b : ℕ) (m : Memory) (z : Thread) (v : ℕ) : Type 0 where
  vacant : Vacant m l
  low : v ≤ max (view_at z.coherence l) b
  known : b ≤ m.count

-- the same thread, or one with another view at l that does not count
data Near (l b : ℕ) (m : Memory) (z : Thread) : Thread → Type 0 where
  same : Near l b m z z
  but : (v : ℕ) → Idle l b m z v → Near l b m z (put z l v)

-- what is so of the thread, and with a view that does not count, is so of one that is near
near_too : {l b : ℕ} {m : Memory} {z y : Thread} (P : Thread → Type 0) → Near l b m z y → P z → ((v : ℕ) → Idle l b m z v → P (put z l v)) → P y
near_too P same p f = p
near_too P (but v o) p f = f v o

-- what y makes of an instruction that left z': it executes too, and what it leaves is near
record Follows (l b : ℕ) (m : Memory) (t : ℕ) (y : Thread) (x : Instr) (z' : Thread) : Type 0 where
  after : Thread
  does : Effect m t y x after
  near : Near l b m z' after

-- no message is to l but the one at time t, and b is before t if that one is
record Spared (m : Memory) (t l b : ℕ) : Type 0 where
  others : (u : ℕ) → 0 < u → u ≤ m.count → u ≢ t → (message_at m u).location ≡ l → ⊥
  here : (message_at m t).location ≡ l → b < t

module _ (l b : ℕ) (m : Memory) (z : Thread) (v : ℕ) (low : v ≤ max (view_at z.coherence l) b) (known : b ≤ m.count) where
  -- both after the same changes, but for the coherence views
  near_kept : Vacant m l → (u : Thread) → Near l b m (cohering u z.coherence) (cohering u (set z.coherence l v))
  near_kept vac u = but v (record { vacant = vac; low = low; known = known })

  -- and after the view at j is raised
  near_raised : Vacant m l → (u : Thread) (j p : ℕ) → Near l b m (cohering u (raise_at z.coherence j p)) (cohering u (raise_at (set z.coherence l v) j p))
  near_raised vac u j p =
      let r = raise_put z.coherence l v b j p low in
      subst (λ (ys : List ℕ). Near l b m (cohering u (raise_at z.coherence j p)) (cohering u ys)) (sym r.1) (but r.0 (record { vacant = vac; low = r.2; known = known }))

  -- a store at time t to j
  module _ (t j : ℕ) (spared : Spared m t l b) (at : (message_at m t).location ≡ j) (below : view_at z.coherence j < t) where
    -- where j is l, v is before t
    before : j ≡ l → v < t
    before e =
        let q = spared.here (at ∙ e) in
        let r = subst (λ (n : ℕ). view_at z.coherence n < t) e below in
        omega arith

    -- to l: then both have t there; to another location: then no message is to l
    near_stored : (u : Thread) → Near l b m (cohering u (raise_at z.coherence j t)) (cohering u (raise_at (set z.coherence l v) j t))
    near_stored u = elim (ℕ_discrete j l) [
      | yes e ↦ (let q = before e in
          let forgets : raise_at (set z.coherence j v) j t ≡ raise_at z.coherence j t = raise_forgets z.coherence j v t (omega arith) (omega arith) in
          subst (λ (ys : List ℕ). Near l b m (cohering u (raise_at z.coherence j t)) (cohering u ys)) (subst (λ (n : ℕ). raise_at z.coherence j t ≡ raise_at (set z.coherence n v) j t) e (sym forgets)) same)
      | no n ↦ near_raised (λ k lo hi q. elim (ℕ_discrete k t) [
        | yes e ↦ n (sym at ∙ ap (λ (o : ℕ). (message_at m o).location) (sym e) ∙ q)
        | no o ↦ spared.others k lo hi o q
      ]) u j t
    ]

  -- a store
  store_follows : {t : ℕ} (k : StoreMode) (a d : Operand) → Spared m t l b → Promised m t (store_location z a) (value_of z d) z → store_pre k (view_of z a) (view_of z d) z.views < t → view_at z.coherence (store_location z a) < t
      → Follows l b m t (put z l v) (Store k a d) (store_done k t (store_location z a) (view_of z a) (view_of z d) z)
  store_follows {t} k a d spared p pre below =
      let j = store_location z a in
      record {
        after = _;
        does = store_coheres z _ k a d p pre (put_in (λ n. n < t) z.coherence l v j below (before t j spared p.at_location below));
        near = near_stored t j spared p.at_location below (store_done k t j (view_of z a) (view_of z d) z);
      }

  -- an instruction that has a message, which is a store
  own_follows : (i : ℕ) (u : Thread) (x : Instr) {w : Message} {t : ℕ} {z' : Thread} → message_of i u x ≡ some w → Spared m t l b → Effect m t z x z' → Follows l b m t (put z l v) x z'
  own_follows i u x g spared (computed e) = absurd (no_message_lem g)
  own_follows i u x g spared (loaded d n) = absurd (no_message_lem g)
  own_follows i u x g spared (stored {k} {a} {d} p pre below) = store_follows k a d spared p pre below
  own_follows i u x g spared (branched e) = absurd (no_message_lem g)
  own_follows i u x g spared (fenced e) = absurd (no_message_lem g)

  -- any instruction, where no message is to l
  follows : Vacant m l → {t : ℕ} {x : Instr} {z' : Thread} → Effect m t z x z' → Follows l b m t (put z l v) x z'
  follows vac (computed {k} {r} {a} {b} e) = record { after = _; does = compute_coheres z _ k r a b e; near = near_kept vac (compute_done k r a b z) }
  follows vac {t} (loaded {k} {r} {a} {b} d n) =
      let j = load_location z a b in
      let post = load_post_view k z a b t in
      record {
        after = _;
        does = load_coheres z _ k r a b d (put_in (λ w. T (none_newer m j t (max (load_pre_view k z a b) w))) z.coherence l v j n (λ e. none_newer_lem m j t _ (subst (Vacant m) (sym e) vac)));
        near = near_raised vac (load_done k r m t j (view_of₂ z a b) post z) j post;
      }
  follows vac {t} (stored {k} {a} {d} p pre below) =
      store_follows k a d (record { others = λ u lo hi n. vac u lo hi; here = λ e. absurd (vac t (has_positive z.promises t p.out) p.in_memory e) }) p pre below
  follows vac (branched {n} {a} {b} e) = record { after = _; does = branch_coheres z _ n a b e; near = near_kept vac (branch_done n a b z) }
  follows vac (fenced {k} e) = record { after = _; does = fenced e; near = near_kept vac (fence_done k z) }

-- ---- runs
-- a message more
spared_append : (m : Memory) (w : Message) (l b : ℕ) → Vacant m l → b ≤ m.count → Spared (append m w) (m.count + 1) l b
spared_append m w l b vac known =
    record { others = λ u lo hi n e. vac u lo (omega arith) (ap (λ (y : Message). y.location) (sym (message_stays m w u lo (omega arith))) ∙ e); here = λ e. omega arith }

-- a message in the hole
spared_fill : (m : Memory) (h : ℕ) (w : Message) (l b : ℕ) → Vacant m l → b < h → Spared (fill m h w) h l b
spared_fill m h w l b vac before =
    record {
      others = λ u lo hi n e. vac u lo hi (ap (λ (y : Message). y.location) (sym (get_or-set_other m.messages (h - 1) (u - 1) w no_message (λ q. n (omega arith)))) ∙ e);
      here = λ e. before;
    }

-- what a thread alone can come to it can come to with a view that does not count, if the goal passes with one
idle_comes : {Goal : Memory → Thread → Type 0} {Room : Memory → Type 0} {c : Code} {i l b : ℕ} → ((m : Memory) (z : Thread) (v : ℕ) → Idle l b m z v → Goal m z → Goal m (put z l v))
    → {m : Memory} {z : Thread} → Comes Goal Room c i m z → (v : ℕ) → Idle l b m z v → Comes Goal Room c i m (put z l v)
idle_comes pass {m} {z} (done g) v o = done (pass m z v o g)
idle_comes {Goal} {Room} {c} {i} {l} {b} pass {m} {z} (by x t z' g tl e r) v o =
    let f = follows l b m z v o.low o.known o.vacant (effect x m t z z' e) in
    by x t f.after g tl (executes f.does) (near_too (Comes Goal Room c i m) f.near r (idle_comes pass r))
idle_comes {Goal} {Room} {c} {i} {l} {b} pass {m} {z} (own x w z' g gw room e r) v o =
    let m' = append m w in
    let known = o.known in
    let f = own_follows l b m' (add_promise m' z) v o.low (omega arith) i z x gw (spared_append m w l b o.vacant known) (effect x m' m'.count (add_promise m' z) z' e) in
    own x w f.after g (message_same z (set z.coherence l v) i x ∙ gw) room (executes f.does) (near_too (Comes Goal Room c i m') f.near r (idle_comes pass r))

-- and by the same steps
idle_certifies : {c : Code} {i l b : ℕ} {m : Memory} {z : Thread} {k : List RunStep} → Certifies c i m z k → (v : ℕ) → Idle l b m z v → Certifies c i m (put z l v) k
idle_certifies (stop e) v o = stop e
idle_certifies {c} {i} {l} {b} {m} {z} (go {l = k} x t z' out g tl e r) v o =
    let f = follows l b m z v o.low o.known o.vacant (effect x m t z z' e) in
    go x t f.after out g tl (executes f.does) (near_too (λ u. Certifies c i m u k) f.near r (λ u near. idle_certifies r u near))
idle_certifies {c} {i} {l} {b} {m} {z} (go_own {l = k} x w z' out g gw few e r) v o =
    let m' = append m w in
    let known = o.known in
    let f = own_follows l b m' (add_promise m' z) v o.low (omega arith) i z x gw (spared_append m w l b o.vacant known) (effect x m' m'.count (add_promise m' z) z' e) in
    go_own x w f.after out g (message_same z (set z.coherence l v) i x ∙ gw) few (executes f.does) (near_too (λ u. Certifies c i m' u k) f.near r (λ u near. idle_certifies r u near))

-- so it is for certification
idle_certified : (c : Code) (i : ℕ) {l b : ℕ} {m : Memory} {z : Thread} → T (certified c i m z) → (v : ℕ) → Idle l b m z v → T (certified c i m (put z l v))
idle_certified c i {m = m} {z} t v o = (certified_iff c i m _).1 (idle_comes (λ m z v o e. e) ((certified_iff c i m z).0 t) v o)

-- and for a store that fills the hole
idle_fills : {c : Code} {i : ℕ} {x : Instr} {h k l b : ℕ} {m : Memory} {z : Thread} (v : ℕ) → Idle l b m z v → (h ≡ 0) ⊎ (b < h) → Fills c i x h k m z → Fills c i x h k m (put z l v)
idle_fills {c} {i} {x} {h} {k} {l} {b} {m} {z} v o after f =
    let m' = fill m h f.message in
    let q = onward_inv (certified c i m') (execute x m' h z) f.keeps in
    let later = has_positive z.promises h (fills_out f) in
    let before : b < h = ⊎_elim (λ (e : h ≡ 0). absurd (omega arith)) (λ g. g) after in
    let w = own_follows l b m' z v o.low o.known i z x f.is_own (spared_fill m h f.message l b o.vacant before) (effect x m' h z q.0 q.1) in
    record {
      message = f.message;
      is_own = message_same z (set z.coherence l v) i x ∙ f.is_own;
      byte = f.byte;
      number = f.number;
      keeps = onward_next (certified c i m') (execute x m' h (put z l v)) w.after (executes w.does) (near_too (λ u. T (certified c i m' u)) w.near q.2 (idle_certified c i q.2));
    }

-- THE VACANT LAW: where no message is to l, coherence there counts only for the thread's own stores: what z comes to, it comes to with coherence v at l too
pub vacant_law : (c : Code) (i h k : ℕ) (m : Memory) (z : Thread) (l v b : ℕ) → Vacant m l → v ≤ max (view_at z.coherence l) b → b ≤ m.count → (h ≡ 0) ⊎ (b < h)
    → Meets c i m z h k → Meets c i m (cohering z (set z.coherence l v)) h k
vacant_law c i h k m z l v b vac low known after r = idle_comes aims r v (record { vacant = vac; low = low; known = known })
  where
    aims : (m : Memory) (z : Thread) (v : ℕ) → Idle l b m z v → Aim c i h k m z → Aim c i h k m (put z l v)
    aims m z v o (inl e) = inl e
    aims m z v o (inr (x, g, f)) = inr (x, g, idle_fills v o after f)

-- a load of such a location leaves a thread that comes to what it comes to with the coherence views of before
pub idle_lifts : (c : Code) (i h k : ℕ) (x : Instr) (m : Memory) (s : Thread) (t : ℕ) (y : Thread) → execute x m t s ≡ next y → Idles x m s t y h → Meets c i m (cohering y s.coherence) h k → Meets c i m y h k
idle_lifts c i h k x m s t y does o w = go y (effect (Load o.mode o.register o.a o.b) m t s y (subst (λ (v : Instr). execute v m t s ≡ next y) o.is_load does)) o.known o.early w
  where
    l : ℕ
    l = load_location s o.a o.b

    go : (y : Thread) → Effect m t s (Load o.mode o.register o.a o.b) y → view_at y.coherence l ≤ m.count → (h ≡ 0) ⊎ (view_at y.coherence l < h) → Meets c i m (cohering y s.coherence) h k → Meets c i m y h k
    go y (loaded d n) known early w =
        subst (λ (xs : List ℕ). Meets c i m (cohering y xs) h k) (put_again s.coherence l _)
        (vacant_law c i h k m (cohering y s.coherence) l (view_at y.coherence l) (view_at y.coherence l) o.vacant (omega arith) known early w)

-- and its first certifying run is the one with those views
pub idle_first : (c : Code) (i : ℕ) (x : Instr) (m : Memory) (s : Thread) (t : ℕ) (y : Thread) → execute x m t s ≡ next y → Idles x m s t y 0 → (k : List RunStep) → First c i m (cohering y s.coherence) k → First c i m y k
idle_first c i x m s t y does o k d = go_on y (effect (Load o.mode o.register o.a o.b) m t s y (subst (λ (v : Instr). execute v m t s ≡ next y) o.is_load does)) o.known d
  where
    l : ℕ
    l = load_location s o.a o.b

    go_on : (y : Thread) → Effect m t s (Load o.mode o.register o.a o.b) y → view_at y.coherence l ≤ m.count → First c i m (cohering y s.coherence) k → First c i m y k
    go_on y (loaded d n) known f =
        record {
          certifies = subst (λ (xs : List ℕ). Certifies c i m (cohering y xs) k) (put_again s.coherence l _)
              (idle_certifies f.certifies (view_at y.coherence l) (record { vacant = o.vacant; low = omega arith; known = known }));
          least = λ j r. f.least j (subst (λ (xs : List ℕ). Certifies c i m (cohering y xs) j) (put_back s.coherence l _)
              (idle_certifies {b = 0} r (view_at s.coherence l) (record { vacant = o.vacant; low = let up = raise_up s.coherence l (load_post_view o.mode s o.a o.b t) l in omega arith; known = omega arith })));
        }
