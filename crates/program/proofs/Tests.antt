-- Tests taken apart and put together.
-- Assumes nothing.
use mathlib.Core.Path.{◌≡◌, refl, sym, subst}
use mathlib.Core.Logic.{◌⊎◌, inl, inr}
use mathlib.Core.Bool.{Bool, true, false, not, cond, ◌&&◌, ◌||◌}
use mathlib.Core.List.{List, [], ◌∷◌}
use Prim.Native.Nat.{ℕ, zero, suc, ◌≤◌, ◌<◌}
use native.Mathlib.Nat.{not-suc-le-zero}
use native.Mathlib.Decide.{ℕ_discrete}
use native.Mathlib.Omega.{arith}
use lib.Dec.{T, eqb, ltb, eqb_refl, ltb→lt, lt→ltb, nltb→le, not_T}
use lib.ListN.{get_or}
use Rattle.program.specs.Tests.{all_of, below}

-- ---- two tests
pub or_cases : (a b : Bool) → T (a || b) → T a ⊎ T b
or_cases true b t = inl tt
or_cases false b t = inr t

pub or_left : (a b : Bool) → T a → T (a || b)
or_left true b t = tt
or_left false b t = absurd t

pub or_right : (a b : Bool) → T b → T (a || b)
or_right true b t = tt
or_right false b t = t

pub and_left : (a b : Bool) → T (a && b) → T a
and_left true b t = tt
and_left false b t = t

pub and_right : (a b : Bool) → T (a && b) → T b
and_right true b t = t
and_right false b t = absurd t

pub and_both : (a b : Bool) → T a → T b → T (a && b)
and_both true b t u = u
and_both false b t u = t

pub is_true : (b : Bool) → T b → b ≡ true
is_true true t = refl
is_true false t = absurd t

pub is_false : (b : Bool) → (T b → ⊥) → b ≡ false
is_false true h = absurd (h tt)
is_false false h = refl

pub eq→eqb : {m n : ℕ} → m ≡ n → T (eqb m n)
eq→eqb {m} {n} e = subst (λ (k : ℕ). T (eqb m k)) e (eqb_refl m)

-- not a or b: a implies b
pub implied : (a b : Bool) → T (not a || b) → T a → T b
implied true b h k = h
implied false b h k = absurd k

pub implies : (a b : Bool) → (T a → T b) → T (not a || b)
implies true b h = h tt
implies false b h = tt

-- a choice of tests, where its condition is known
pub cond_true : (c a b : Bool) → T c → T (cond c a b) → T a
cond_true true a b t h = h
cond_true false a b t h = absurd t

pub cond_false : (c a b : Bool) → (T c → ⊥) → T (cond c a b) → T b
cond_false true a b n h = absurd (n tt)
cond_false false a b n h = h

-- a choice of tests passes where each branch does, under its condition
pub cond_both : (c a b : Bool) → (T c → T a) → ((T c → ⊥) → T b) → T (cond c a b)
cond_both true a b f g = f tt
cond_both false a b f g = g (λ t. t)

-- ---- many tests
-- a proof for each test of a list
pub data Each : List Bool → Type 0 where
  end : Each []
  also : {b : Bool} {bs : List Bool} → T b → Each bs → Each (b ∷ bs)

pub all_each : {bs : List Bool} → Each bs → T (all_of bs)
unfolding all_of
all_each end = tt
all_each (also {b} {bs} h r) = and_both b (all_of bs) h (all_each r)

-- the test at place k
pub all_at : (bs : List Bool) → T (all_of bs) → (k : ℕ) → T (get_or bs k true)
unfolding all_of
all_at [] h k = tt
all_at (b ∷ bs) h zero = and_left b (all_of bs) h
all_at (b ∷ bs) h (suc k) = all_at bs (and_right b (all_of bs) h) k

pub below_at : (f : ℕ → Bool) (n : ℕ) → T (below f n) → (k : ℕ) → k < n → T (f k)
unfolding below
below_at f zero h k l = absurd (not-suc-le-zero l)
below_at f (suc n) h k l = go (ℕ_discrete k n) (λ e. below_at f n (and_right (f n) (below f n) h) k (omega arith))
  where
    go : Dec (k ≡ n) → ((k ≡ n → ⊥) → T (f k)) → T (f k)
    go (yes e) rec = subst (λ (j : ℕ). T (f j)) (sym e) (and_left (f n) (below f n) h)
    go (no e) rec = rec e

pub below_all : (f : ℕ → Bool) (n : ℕ) → ((k : ℕ) → k < n → T (f k)) → T (below f n)
unfolding below
below_all f zero h = tt
below_all f (suc n) h = and_both (f n) (below f n) (h n (omega arith)) (below_all f n (λ k l. h k (omega arith)))

-- places below b pass f, those from b on pass g
module _ (f g : ℕ → Bool) (b n : ℕ) where
  pub below_used : b ≤ n → T (below (λ k. cond (ltb k b) (f k) (g k)) n) → (k : ℕ) → k < b → T (f k)
  below_used l h k a = cond_true (ltb k b) (f k) (g k) (lt→ltb k b a) (below_at _ n h k (omega arith))

  pub below_spare : T (below (λ k. cond (ltb k b) (f k) (g k)) n) → (k : ℕ) → k < n → b ≤ k → T (g k)
  below_spare h k l a = cond_false (ltb k b) (f k) (g k) (λ t. let q = ltb→lt k b t in omega arith) (below_at _ n h k l)

  pub below_both : ((k : ℕ) → k < b → T (f k)) → ((k : ℕ) → b ≤ k → k < n → T (g k)) → T (below (λ k. cond (ltb k b) (f k) (g k)) n)
  below_both h j = below_all _ n (λ k l. cond_both (ltb k b) (f k) (g k) (λ t. h k (ltb→lt k b t)) (λ t. j k (nltb→le k b (not_T (ltb k b) t)) l))
