-- The steps that are tried stand in their order, and every step of a byte's range is among them.
-- Assumes nothing.
use mathlib.Core.Path.{◌≡◌, refl, ap, sym, ◌∙◌, subst}
use mathlib.Core.Logic.{◌⊎◌, inl, inr, ⊎_elim}
use mathlib.Core.List.{List, [], ◌∷◌, ◌++◌, map}
use Prim.Native.Nat.{ℕ, zero, suc, ◌+◌, ◌≤◌, ◌<◌}
use native.Mathlib.Nat.{eq-or-lt_of_le}
use native.Mathlib.Omega.{arith}
use Rattle.theory_sequences.specs.Sequences.{Among, Ascending}
use Rattle.theory_sequences.proofs.Ordered.{among_left, among_right, among_cases, among_map, among_unmap, ascending_append}
use Rattle.step.specs.Step.{Step}
use Rattle.step.specs.Order.{Less, range, for_each, execution, promise, executions, promises, every_step}

-- ---- of two steps at most one is before the other
pub less_asym : (x y : Step) → Less x y → Less y x → ⊥
less_asym x y (inl h) (inl i) = omega arith
less_asym x y (inl h) (inr i) = omega (arith, i.0)
less_asym x y (inr h) (inl i) = omega (arith, h.0)
less_asym x y (inr h) (inr i) = kind h.1 i.1
  where
    place : ((x.a < y.a) ⊎ ((x.a ≡ y.a) × (x.b < y.b))) → ((y.a < x.a) ⊎ ((y.a ≡ x.a) × (y.b < x.b))) → ⊥
    place (inl h) (inl i) = omega arith
    place (inl h) (inr i) = omega (arith, i.0)
    place (inr h) (inl i) = omega (arith, h.0)
    place (inr h) (inr i) = omega (arith, h.1, i.1)

    kind : ((x.kind < y.kind) ⊎ ((x.kind ≡ y.kind) × ((x.a < y.a) ⊎ ((x.a ≡ y.a) × (x.b < y.b)))))
        → ((y.kind < x.kind) ⊎ ((y.kind ≡ x.kind) × ((y.a < x.a) ⊎ ((y.a ≡ x.a) × (y.b < x.b))))) → ⊥
    kind (inl h) (inl i) = omega arith
    kind (inl h) (inr i) = omega (arith, i.0)
    kind (inr h) (inl i) = omega (arith, h.0)
    kind (inr h) (inr i) = place h.1 i.1

-- ---- numbers one after the other
-- a number of the range is within it
pub range_low : (k n a : ℕ) → Among a (range k n) → (k ≤ a) × (a < k + n)
unfolding range
range_low k zero a h = absurd h
range_low k (suc n) a (inl e) = (omega arith, omega arith)
range_low k (suc n) a (inr h) = let i = range_low (suc k) n a h in let i0 = i.0 in let i1 = i.1 in (omega arith, omega arith)

-- and a number within it is of the range
pub range_has : (k n a : ℕ) → k ≤ a → a < k + n → Among a (range k n)
unfolding range
range_has k zero a lo hi = absurd (omega arith)
range_has k (suc n) a lo hi = ⊎_elim (λ e. inl (sym e)) (λ l. inr (range_has (suc k) n a l (omega arith))) (eq-or-lt_of_le lo)

-- ---- a list for each number
module _ {B : Type 0} (f : ℕ → List B) where
  -- a member of one of the lists is a member of all together
  pub each_has : (a : ℕ) (b : B) (l : List ℕ) → Among a l → Among b (f a) → Among b (for_each l f)
  unfolding for_each
  each_has a b [] h i = absurd h
  each_has a b (c ∷ l) (inl e) i = among_left b (f c) (for_each l f) (subst (λ (n : ℕ). Among b (f n)) e i)
  each_has a b (c ∷ l) (inr h) i = among_right b (f c) (for_each l f) (each_has a b l h i)

  -- and the other way round
  pub each_from : (b : B) (l : List ℕ) → Among b (for_each l f) → (a : ℕ) × Among a l × Among b (f a)
  unfolding for_each
  each_from b [] h = absurd h
  each_from b (c ∷ l) h =
      ⊎_elim (λ i. (c, inl refl, i)) (λ i. let r = each_from b l i in (r.0, inr r.1, r.2)) (among_cases b (f c) (for_each l f) h)

  -- the lists of ascending numbers are ascending together, if each is, and each is before those of larger numbers
  pub each_ascending : (R : B → B → Type 0) → ((a : ℕ) → Ascending R (f a)) → ((a c : ℕ) (x y : B) → a < c → Among x (f a) → Among y (f c) → R x y)
      → (k n : ℕ) → Ascending R (for_each (range k n) f)
  unfolding for_each range
  each_ascending R s h k zero = tt
  each_ascending R s h k (suc n) =
      ascending_append R (f k) (for_each (range (suc k) n) f) (s k) (each_ascending R s h (suc k) n)
      (λ x y i j. let r = each_from y (range (suc k) n) j in let lo = (range_low (suc k) n r.0 r.1).0 in h k r.0 x y lo i r.2)

-- a list of images of ascending numbers is ascending
pub map_ascending : {B : Type 0} (R : B → B → Type 0) (f : ℕ → B) → ((a c : ℕ) → a < c → R (f a) (f c)) → (k n : ℕ) → Ascending R (map f (range k n))
unfolding range
map_ascending R f h k zero = tt
map_ascending {B} R f h k (suc n) =
    ((λ b i. let r = among_unmap f b (range (suc k) n) i in subst (λ (x : B). R (f k) x) (sym r.1) (h k r.0 (range_low (suc k) n r.0 r.2).0)), map_ascending R f h (suc k) n)

-- ---- the steps of one thread
executions_ascending : (i : ℕ) → Ascending Less (executions i)
unfolding executions
executions_ascending i = map_ascending Less (execution i) (λ a c h. inr (refl, inr (refl, inl h))) 0 17

promises_ascending : (i : ℕ) → Ascending Less (promises i)
unfolding promises
promises_ascending i =
    each_ascending (λ l. map (promise i l) (range 0 256)) Less (λ l. map_ascending Less (promise i l) (λ a c h. inr (refl, inr (refl, inr (refl, h)))) 0 256)
    (λ a c x y h j k.
    let r = among_unmap (promise i a) x (range 0 256) j in
    let s = among_unmap (promise i c) y (range 0 256) k in
    rw (r.1, s.1) (inr (refl, inr (refl, inl h)))) 0 16

execution_of : (i : ℕ) (x : Step) → Among x (executions i) → (x.thread ≡ i) × (x.kind ≡ 0)
unfolding executions
execution_of i x h = let r = among_unmap (execution i) x (range 0 17) h in (ap (λ (y : Step). y.thread) r.1, ap (λ (y : Step). y.kind) r.1)

promise_of : (i : ℕ) (x : Step) → Among x (promises i) → (x.thread ≡ i) × (x.kind ≡ 1)
unfolding promises
promise_of i x h =
    let q = each_from (λ l. map (promise i l) (range 0 256)) x (range 0 16) h in
    let r = among_unmap (promise i q.0) x (range 0 256) q.2 in
    (ap (λ (y : Step). y.thread) r.1, ap (λ (y : Step). y.kind) r.1)

thread_ascending : (i : ℕ) → Ascending Less (executions i ++ promises i)
thread_ascending i =
    ascending_append Less (executions i) (promises i) (executions_ascending i) (promises_ascending i)
    (λ x y j k. let e = execution_of i x j in let f = promise_of i y k in let e0 = e.0 in let e1 = e.1 in let f0 = f.0 in let f1 = f.1 in inr (e0 ∙ sym f0, inl (omega arith)))

pub thread_of_lem : (i : ℕ) (x : Step) → Among x (executions i ++ promises i) → x.thread ≡ i
thread_of_lem i x h = ⊎_elim (λ j. (execution_of i x j).0) (λ j. (promise_of i x j).0) (among_cases x (executions i) (promises i) h)

-- ---- all steps
-- THE STEPS ARE TRIED IN THEIR ORDER
pub rising : Ascending Less every_step
unfolding every_step
rising =
    each_ascending (λ i. executions i ++ promises i) Less thread_ascending
    (λ a c x y h j k. let e = thread_of_lem a x j in let f = thread_of_lem c y k in inl (omega arith)) 0 4

-- an execution of one of four threads, at a time up to 16, is tried
pub execution_tried : (i t : ℕ) → i < 4 → t ≤ 16 → Among (execution i t) every_step
unfolding every_step executions
execution_tried i t h k =
    each_has (λ j. executions j ++ promises j) i (execution i t) (range 0 4) (range_has 0 4 i (omega arith) (omega arith))
    (among_left (execution i t) (executions i) (promises i) (among_map (execution i) t (range 0 17) (range_has 0 17 t (omega arith) (omega arith))))

-- a promise of one of four threads, of one of 16 locations and a byte, is tried
pub promise_tried : (i l v : ℕ) → i < 4 → l < 16 → v < 256 → Among (promise i l v) every_step
unfolding every_step promises
promise_tried i l v h k b =
    each_has (λ j. executions j ++ promises j) i (promise i l v) (range 0 4) (range_has 0 4 i (omega arith) (omega arith))
    (among_right (promise i l v) (executions i) (promises i)
    (each_has (λ j. map (promise i j) (range 0 256)) l (promise i l v) (range 0 16) (range_has 0 16 l (omega arith) (omega arith))
    (among_map (promise i l) v (range 0 256) (range_has 0 256 v (omega arith) (omega arith)))))
