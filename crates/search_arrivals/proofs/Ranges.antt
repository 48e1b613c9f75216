-- Steps in their order, from a thread, a time or a number of a promise on.
-- Assumes nothing.
use mathlib.Core.Path.{◌≡◌, refl, sym, ap, ap₂, ◌∙◌}
use mathlib.Core.List.{List, [], ◌∷◌, ◌++◌, map, map-append}
use Prim.Native.Nat.{ℕ, zero, suc, ◌+◌, ◌-◌, ◌*◌, ◌/◌, ◌%◌, ◌≤◌, ◌<◌}
use native.Mathlib.Omega.{arith}
use borrow.Author.Tests.{lt-ltb, le-ltb}
use Rattle.step.specs.Step.{Step}
use Rattle.step.specs.Order.{range, for_each, execution, promise, executions, promises, every_step}
use Rattle.search_sequences.specs.Numbers.{key_promise}
use Rattle.search_tries.specs.Steps.{step_numbered}

range_append : (a m n : ℕ) → range a (m + n) ≡ range a m ++ range (a + m) n
unfolding range
range_append a zero n = let e : 0 + n ≡ n = omega arith in let f : a ≡ a + 0 = omega arith in ap (range a) e ∙ ap (λ (k : ℕ). range k n) f
range_append a (suc m) n =
    let e : suc m + n ≡ suc (m + n) = omega arith in
    let f : suc a + m ≡ a + suc m = omega arith in
    ap (range a) e ∙ ap (λ (l : List ℕ). a ∷ l) (range_append (suc a) m n ∙ ap (λ (k : ℕ). range (suc a) m ++ range k n) f)

-- the numbers from k on, below n
abbrev pub from : ℕ → ℕ → List ℕ
from n k = range k (n - k)

from_next : (n k : ℕ) → k < n → from n k ≡ k ∷ from n (k + 1)
unfolding range
from_next n k h = let e : n - k ≡ suc (n - (k + 1)) = omega arith in let f : suc k ≡ k + 1 = omega arith in ap (range k) e ∙ ap (λ (j : ℕ). k ∷ range j (n - (k + 1))) f

from_split : (n k j : ℕ) → k ≤ j → j ≤ n → from n k ≡ range k (j - k) ++ from n j
from_split n k j h l =
    let e : n - k ≡ (j - k) + (n - j) = omega arith in
    let f : k + (j - k) ≡ j = omega arith in
    ap (range k) e ∙ range_append k (j - k) (n - j) ∙ ap (λ (i : ℕ). range k (j - k) ++ range i (n - j)) f

from_end : (n k : ℕ) → n ≤ k → from n k ≡ []
unfolding range
from_end n k h = let e : n - k ≡ 0 = omega arith in ap (range k) e

-- images of numbers from k on
module _ (f : ℕ → Step) (n : ℕ) where
  abbrev pub steps_from : ℕ → List Step
  steps_from k = map f (from n k)

  pub next_step : (k : ℕ) → k < n → steps_from k ≡ (f k ∷ []) ++ steps_from (k + 1)
  next_step k h = ap (map f) (from_next n k h)

  pub up_to : (k j : ℕ) → k ≤ j → j ≤ n → steps_from k ≡ map f (range k (j - k)) ++ steps_from j
  up_to k j h l = ap (map f) (from_split n k j h l) ∙ map-append f (range k (j - k)) (from n j)

  pub at_end_lem : (k : ℕ) → n ≤ k → steps_from k ≡ []
  at_end_lem k h = ap (map f) (from_end n k h)

-- ---- the steps of each thread
abbrev pub steps_of : ℕ → List Step
steps_of i = executions i ++ promises i

abbrev pub threads_from : ℕ → List Step
threads_from i = for_each (from 4 i) steps_of

pub all_threads : every_step ≡ threads_from 0
unfolding every_step
all_threads = refl

pub next_thread : (i : ℕ) → i < 4 → threads_from i ≡ steps_of i ++ threads_from (i + 1)
unfolding for_each
next_thread i h = ap (λ (l : List ℕ). for_each l steps_of) (from_next 4 i h)

-- ---- promises by their number
at_location : (i l k n : ℕ) → k + n ≤ 256 → map (promise i l) (range k n) ≡ map (key_promise i) (range (l * 256 + k) n)
unfolding range
at_location i l k zero h = refl
at_location i l k (suc n) h =
    let a : (l * 256 + k) / 256 ≡ l = omega arith in
    let b : (l * 256 + k) % 256 ≡ k = omega arith in
    let c : l * 256 + suc k ≡ suc (l * 256 + k) = omega arith in
    ap₂ (λ (y : Step) (q : List Step). y ∷ q) (ap₂ (promise i) (sym a) (sym b)) (at_location i l (suc k) n (omega arith) ∙ ap (λ (j : ℕ). map (key_promise i) (range j n)) c)

from_location : (i l n : ℕ) → for_each (range l n) (λ m. map (promise i m) (range 0 256)) ≡ map (key_promise i) (range (l * 256) (n * 256))
unfolding range for_each
from_location i l zero = refl
from_location i l (suc n) =
    let a : l * 256 + 0 ≡ l * 256 = omega arith in
    let b : l * 256 + 256 ≡ suc l * 256 = omega arith in
    let c : 256 + n * 256 ≡ suc n * 256 = omega arith in
    ap₂ (λ (x y : List Step). x ++ y)
    (at_location i l 0 256 (omega arith) ∙ ap (λ (j : ℕ). map (key_promise i) (range j 256)) a)
    (from_location i (suc l) n ∙ ap (λ (j : ℕ). map (key_promise i) (range j (n * 256))) (sym b))
    ∙ sym (map-append (key_promise i) (range (l * 256) 256) (range (l * 256 + 256) (n * 256)))
    ∙ ap (map (key_promise i)) (sym (range_append (l * 256) 256 (n * 256)) ∙ ap (range (l * 256)) c)

-- ---- the steps of a thread by their number
by_times : (i k n : ℕ) → k + n ≤ 17 → map (execution i) (range k n) ≡ map (step_numbered i) (range k n)
unfolding range step_numbered
by_times i k zero h = refl
by_times i k (suc n) h = let l : k < 17 = omega arith in ap₂ (λ (y : Step) (q : List Step). y ∷ q) (rw (lt-ltb k 17 l)) (by_times i (suc k) n (omega arith))

by_keys : (i k n : ℕ) → map (key_promise i) (range k n) ≡ map (step_numbered i) (range (17 + k) n)
unfolding range step_numbered
by_keys i k zero = refl
by_keys i k (suc n) =
    let l : 17 ≤ 17 + k = omega arith in
    let e : 17 + k - 17 ≡ k = omega arith in
    let f : 17 + suc k ≡ suc (17 + k) = omega arith in
    ap₂ (λ (y : Step) (q : List Step). y ∷ q) (rw (le-ltb (17 + k) 17 l, e)) (by_keys i (suc k) n ∙ ap (λ (j : ℕ). map (step_numbered i) (range j n)) f)

pub by_number : (i : ℕ) → steps_of i ≡ steps_from (step_numbered i) 4113 0
unfolding executions promises
by_number i =
    ap₂ (λ (x y : List Step). x ++ y) (by_times i 0 17 (omega arith)) (from_location i 0 16 ∙ by_keys i 0 4096)
    ∙ sym (map-append (step_numbered i) (range 0 17) (range 17 4096))
    ∙ ap (map (step_numbered i)) (sym (range_append 0 17 4096))
