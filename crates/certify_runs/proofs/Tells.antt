-- What an answer tells of the runs that have a property: the first of them, or that there is none.
-- Assumes nothing.
use mathlib.Core.Path.{◌≡◌, refl, sym, ap, subst}
use mathlib.Core.Logic.{◌⊎◌, inl, inr, ⊎_elim, ◌↔◌}
use mathlib.Core.Bool.{Bool, true, false, cond}
use mathlib.Core.List.{List, ◌∷◌}
use mathlib.Core.Option.{none, some, map}
use Prim.Native.Nat.{ℕ, zero, suc, ◌+◌, ◌≤◌, ◌<◌}
use native.Mathlib.Decide.{ℕ_discrete}
use native.Mathlib.Omega.{arith}
use lib.Dec.{T}
use Rattle.machine.specs.Rules.{Executed, refused, next}
use Rattle.machine.proofs.Effects.{next_same}
use Rattle.certify_runs.specs.Below.{Thread}
use Rattle.certify_runs.specs.Certify.{RunStep, Steps, found, or_else, first_from, through}
use Rattle.certify_runs.specs.First.{Earlier, by_time, own_last, Before, parts, alike}

-- ---- the order of runs
-- no two steps are each earlier than the other
earlier_one : {a b : RunStep} → Earlier a b → Earlier b a → ⊥
earlier_one (by_time p) (by_time q) = omega arith
earlier_one own_last q = elim q [ ]

-- no two runs are each before the other, wherever the second stands
before_same : {l k l' k' : List RunStep} → l ≡ l' → k ≡ k' → Before l k → Before k' l' → ⊥
before_same p q (parts {a = a} {b = b} e) (parts {a = b'} {b = a'} d) =
    let ea : a ≡ a' = cc in
    let eb : b ≡ b' = cc in
    earlier_one e (subst (λ (z : RunStep). Earlier z a) (sym eb) (subst (λ (z : RunStep). Earlier b' z) (sym ea) d))
before_same p q (parts {a = a} {b = b} e) (alike {a = c} d) =
    let ab : a ≡ b = cc in
    let same : Earlier b b = subst (λ (z : RunStep). Earlier z b) ab e in
    earlier_one same same
before_same p q (alike {a = c} b) (parts {a = b'} {b = a'} d) =
    let ab : b' ≡ a' = cc in
    let same : Earlier a' a' = subst (λ (z : RunStep). Earlier z a') ab d in
    earlier_one same same
before_same p q (alike {l = l} {k = k} b) (alike {l = k'} {k = l'} d) =
    let el : l ≡ l' = cc in
    let ek : k ≡ k' = cc in
    before_same el ek b d

pub before_one : {l k : List RunStep} → Before l k → Before k l → ⊥
before_one b d = before_same refl refl b d

-- ---- answers
-- TELLS, of the runs with P
pub data Tells (P : List RunStep → Type 0) : Steps → Type 0 where
  -- there is none
  no_run : ((k : List RunStep) → P k → ⊥) → Tells P none
  -- this is the first
  a_run : {l : List RunStep} → P l → ((k : List RunStep) → P k → (k ≡ l) ⊎ Before l k) → Tells P (some l)

-- one answer tells of them
pub tells_one : {P : List RunStep → Type 0} {o r : Steps} → Tells P o → Tells P r → o ≡ r
tells_one (no_run h) (no_run j) = refl
tells_one (no_run h) (a_run q j) = absurd (h _ q)
tells_one (a_run p h) (no_run j) = absurd (j _ p)
tells_one (a_run p h) (a_run q j) = ⊎_elim (λ e. ap {B = Steps} some (sym e)) (λ b. ⊎_elim (λ e. ap {B = Steps} some e) (λ d. absurd (before_one b d)) (j _ p)) (h _ q)

-- there is a run where one is found
pub tells_found : {P : List RunStep → Type 0} {o : Steps} → Tells P o → T (found o) ↔ ((l : List RunStep) × P l)
tells_found (no_run h) = (λ z. absurd z, λ q. h q.0 q.1)
tells_found (a_run p h) = (λ z. (_, p), λ q. tt)

module _ {P Q : List RunStep → Type 0} where
  -- runs with Q are those with P
  pub tells_as : {o : Steps} → ((k : List RunStep) → P k → Q k) → ((k : List RunStep) → Q k → P k) → Tells P o → Tells Q o
  tells_as f g (no_run h) = no_run (λ k q. h k (g k q))
  tells_as f g (a_run p h) = a_run (f _ p) (λ k q. h k (g k q))

  -- runs with P or Q, those with P before those with Q
  pub tells_either : {o r : Steps} → ((l k : List RunStep) → P l → Q k → Before l k) → Tells P o → Tells Q r → Tells (λ k. P k ⊎ Q k) (or_else o r)
  unfolding or_else
  tells_either f (no_run h) (no_run j) = no_run (λ k. ⊎_elim (h k) (j k))
  tells_either f (no_run h) (a_run q j) = a_run (inr q) (λ k. ⊎_elim (λ p. absurd (h k p)) (j k))
  tells_either f (a_run p h) t = a_run (inl p) (λ k. ⊎_elim (h k) (λ q. inr (f _ k p q)))

-- runs with P, where a test passes that stands for A
pub tells_where : {P : List RunStep → Type 0} {A : Type 0} {o : Steps} (b : Bool) → (T b → A) → (A → T b) → Tells P o → Tells (λ k. A × P k) (cond b o none)
tells_where true f g h = tells_as (λ k p. (f tt, p)) (λ k q. q.1) h
tells_where false f g h = no_run (λ k q. g q.0)

-- runs with P for one of the n numbers from k upward
abbrev pub Among : (ℕ → List RunStep → Type 0) → ℕ → ℕ → List RunStep → Type 0
Among P k n l = (t : ℕ) × (k ≤ t) × (t < k + n) × P t l

-- those of a lower number before those of a higher
pub tells_from : {P : ℕ → List RunStep → Type 0} {f : ℕ → Steps} → ((t u : ℕ) (l k : List RunStep) → t < u → P t l → P u k → Before l k) → ((t : ℕ) → Tells (P t) (f t))
    → (k n : ℕ) → Tells (Among P k n) (first_from f k n)
unfolding first_from
tells_from up h k zero = no_run (λ l q. omega arith)
tells_from {P} up h k (suc n) =
    tells_as (λ l. ⊎_elim (λ p. (k, omega arith, omega arith, p)) (λ q. (q.0, omega arith, omega arith, q.3))) (λ l q. at l q (ℕ_discrete k q.0))
    (tells_either (λ l j p q. up k q.0 l j q.1 p q.3) (h k) (tells_from up h (suc k) n))
  where
    at : (l : List RunStep) (q : Among P k (suc n) l) → Dec (k ≡ q.0) → P k l ⊎ Among P (suc k) n l
    at l q (yes e) = inl (subst (λ (t : ℕ). P t l) (sym e) q.3)
    at l q (no e) = inr (q.0, omega arith, omega arith, q.3)

-- runs that begin with the step a and go on with P from the next state of o
pub data Begins (a : RunStep) (P : Thread → List RunStep → Type 0) (o : Executed) : List RunStep → Type 0 where
  begins : {s : Thread} {l : List RunStep} → o ≡ next s → P s l → Begins a P o (a ∷ l)

-- those that begin with the earlier step are before the others
pub sooner : {a b : RunStep} {P Q : Thread → List RunStep → Type 0} {o r : Executed} {l k : List RunStep} → Earlier a b → Begins a P o l → Begins b Q r k → Before l k
sooner e (begins p f) (begins q g) = parts e

pub tells_through : {P : Thread → List RunStep → Type 0} {f : Thread → Steps} (a : RunStep) (o : Executed) → ((s : Thread) → o ≡ next s → Tells (P s) (f s)) → Tells (Begins a P o) (through a f o)
tells_through {P} a (refused n) h = no_run (λ k b. unbegun b)
  where
    unbegun : {k : List RunStep} → Begins a P (refused n) k → ⊥
    unbegun (begins e p) = let z : ◌≡◌ {A = ℕ} 0 1 = cc in omega arith
tells_through {P} a (next s) h = after (h s refl)
  where
    from : {s' : Thread} {l : List RunStep} → next s ≡ next s' → P s' l → P s l
    from {l = l} e p = subst (λ (z : Thread). P z l) (sym (next_same e)) p

    after : {r : Steps} → Tells (P s) r → Tells (Begins a P (next s)) (map (λ (l : List RunStep). a ∷ l) r)
    after (no_run n) = no_run (λ k b. unmet n b)
      where
        unmet : ((l : List RunStep) → P s l → ⊥) → {k : List RunStep} → Begins a P (next s) k → ⊥
        unmet n (begins e p) = n _ (from e p)
    after (a_run {l = l} p least) = a_run (begins refl p) (λ k b. first b)
      where
        first : {k : List RunStep} → Begins a P (next s) k → (k ≡ (a ∷ l)) ⊎ Before (a ∷ l) k
        first (begins e q) = ⊎_elim (λ same. inl (ap (λ (j : List RunStep). a ∷ j) same)) (λ d. inr (alike d)) (least _ (from e q))
