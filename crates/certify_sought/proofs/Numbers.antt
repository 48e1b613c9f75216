-- The two least numbers met: what is still sought after some were met, and an empty promise set as what is sought.
-- Assumes nothing.
use mathlib.Core.Path.{◌≡◌, refl, sym, subst, ◌∙◌}
use mathlib.Core.Logic.{◌⊎◌, inl, inr, ⊎_elim}
use mathlib.Core.Bool.{Bool, true, false, not}
use Prim.Native.Nat.{ℕ, suc, ◌+◌, ◌-◌, ◌≤◌, ◌<◌}
use native.Mathlib.Nat.{le_refl}
use native.Mathlib.Decide.{ℕ_discrete, dec_lt}
use native.Mathlib.Omega.{arith}
use lib.Dec.{T, eqb, leb, eqb→eq, leb→le, le→leb}
use borrow.Author.Tests.{lt-ltb, le-ltb, le-leb, lt-leb, not-false}
use Rattle.program.proofs.Tests.{eq→eqb}
use Rattle.certify_sought.specs.Numbers.{Met, Sought, meeting, Unmet, Seeks, Better, same, more, Twice, LeastOrTwo, Emptied}

pub not_both : (b : Bool) → T b → not b ≡ true → ⊥
not_both true t z = subst T (sym z) tt
not_both false t z = t

-- ---- one number more
-- the two least of three, or the least alone, case by case
pub data Meeting (n : ℕ) (p : Met) (r : Met) : Type 0 where
  above : p.least ≤ n → r.least ≡ p.least → r.second ≡ n → Meeting n p r
  below : n < p.least → p.least < p.second → r.least ≡ n → r.second ≡ p.least → Meeting n p r
  single : n < p.least → p.second ≤ p.least → r.least ≡ n → r.second ≡ n → Meeting n p r

pub meeting_above : (n : ℕ) (p : Met) → p.least ≤ n → meeting n p ≡ record { least = p.least; second = n }
meeting_above n p h = rw (le-leb p.least n h)

pub meeting_below : (n : ℕ) (p : Met) → n < p.least → p.least < p.second → meeting n p ≡ record { least = n; second = p.least }
meeting_below n p h l = rw (lt-leb p.least n h, lt-ltb p.least p.second l)

pub meeting_single : (n : ℕ) (p : Met) → n < p.least → p.second ≤ p.least → meeting n p ≡ record { least = n; second = n }
meeting_single n p h l = rw (lt-leb p.least n h, le-ltb p.least p.second l)

pub meets_so : (n : ℕ) (p : Met) → Meeting n p (meeting n p)
meets_so n p = elim (dec_lt n p.least) [
  | yes h ↦ elim (dec_lt p.least p.second) [
    | yes l ↦ subst (Meeting n p) (sym (meeting_below n p h l)) (below h l refl refl)
    | no l ↦ subst (Meeting n p) (sym (meeting_single n p h (omega arith))) (single h (omega arith) refl refl)
  ]
  | no h ↦ subst (Meeting n p) (sym (meeting_above n p (omega arith))) (above (omega arith) refl refl)
]

-- what is sought after it was sought before
meeting_narrows : (from n : ℕ) (p r : Met) → Meeting n p r → n < p.second → (k : ℕ) → Unmet from r k → Unmet from p k
meeting_narrows from n p r (above h e f) l k u = let b = u.1 in (u.0, omega arith, λ z. u.2 (omega arith))
meeting_narrows from n p r (below h q e f) l k u = let b = u.1 in (u.0, omega arith, λ z. omega arith)
meeting_narrows from n p r (single h q e f) l k u = let b = u.1 in (u.0, omega arith, λ z. omega arith)

-- it is sought no more
pub met_now : (from n : ℕ) (p : Met) → Unmet from (meeting n p) n → ⊥
met_now from n p u = go (meeting n p) (meets_so n p) u
  where
    go : (r : Met) → Meeting n p r → Unmet from r n → ⊥
    go r (above h e f) u = let b = u.1 in omega arith
    go r (below h l e f) u = u.2 (omega arith)
    go r (single h l e f) u = u.2 (omega arith)

-- ---- what the code asks
-- whether anything is left between `from` and the second
module _ (from : ℕ) (p : Met) where
  pub none_left : p.least ≡ from → leb (p.second - 1) from ≡ true → (n : ℕ) → Unmet from p n → ⊥
  none_left e t n u = let l : p.second - 1 ≤ from = leb→le (p.second - 1) from (subst T (sym t) tt) in let a = u.0 in let b = u.1 in u.2 (omega arith)

  pub one_left : p.least ≡ from → leb (p.second - 1) from ≡ false → (n : ℕ) × Unmet from p n
  one_left e f =
      let l : p.second - 1 ≤ from → ⊥ = λ h. subst T f (le→leb (p.second - 1) from h) in
      (suc from, (omega arith, omega arith, λ q. omega arith))

pub sought_but_least : (q : Sought) (n : ℕ) → q.from ≤ n → n < q.met.second → (not (eqb n q.met.least) ≡ true → Seeks q n) × (not (eqb n q.met.least) ≡ false → Seeks q n → ⊥)
sought_but_least q n low high = (
  λ t. (low, high, λ e. not_both (eqb n q.met.least) (eq→eqb e) t),
  λ t s. s.2 (eqb→eq n q.met.least (subst T (sym (not-false (eqb n q.met.least) t)) tt)),
)

-- an empty promise set
pub is_kept : (h set : ℕ) (b : Bool) → h ≡ 0 → b ≡ eqb set 0 → (b ≡ true → (h ≡ 0) × (set ≡ 0)) × (b ≡ false → h ≡ 0 → set ≡ 0 → ⊥)
is_kept h set b z e = (λ t. (z, eqb→eq set 0 (subst T (sym (sym e ∙ t)) tt)), λ f _ empty. subst T (sym e ∙ f) (eq→eqb empty))

-- ---- several numbers
module _ {from : ℕ} {P : ℕ → Type 0} where
  -- what is sought after they were met was sought before
  pub narrows : {p r : Met} → Better from P p r → (k : ℕ) → Unmet from r k → Unmet from p k
  narrows same k u = u
  narrows (more {r} n b v h) k u = narrows b k (meeting_narrows from n r (meeting n r) (meets_so n r) v.1 k u)

  pub better_on : {p q r : Met} → Better from P p q → Better from P q r → Better from P p r
  better_on f same = f
  better_on f (more k g u h) = more k (better_on f g) u h

  -- the least is as it was, or passes
  pub least_passes : {p r : Met} → Better from P p r → (r.least ≡ p.least) ⊎ P r.least
  least_passes same = inl refl
  least_passes {p} (more {r} n b v h) = go (meeting n r) (meets_so n r) (least_passes b)
    where
      go : (r' : Met) → Meeting n r r' → (r.least ≡ p.least) ⊎ P r.least → (r'.least ≡ p.least) ⊎ P r'.least
      go r' (above l e f) old = subst (λ (k : ℕ). (k ≡ p.least) ⊎ P k) (sym e) old
      go r' (below l o e f) old = inr (subst P (sym e) h)
      go r' (single l o e f) old = inr (subst P (sym e) h)

pub better_as : {from : ℕ} {P Q : ℕ → Type 0} → ((k : ℕ) → P k → Q k) → {p r : Met} → Better from P p r → Better from Q p r
better_as f same = same
better_as f (more k b u h) = more k (better_as f b) u (f k h)

-- 0, if it was sought and is not the least met, is sought still
pub zero_sought : {P : ℕ → Type 0} {p r : Met} → Better 0 P p r → Unmet 0 p 0 → (r.least ≡ 0 → ⊥) → Unmet 0 r 0
zero_sought same u n = u
zero_sought {P} {p} (more {r} k b v h) u n = go (meeting k r) (meets_so k r) (λ z. zero_sought b u z) n
  where
    go : (r' : Met) → Meeting k r r' → ((r.least ≡ 0 → ⊥) → Unmet 0 r 0) → (r'.least ≡ 0 → ⊥) → Unmet 0 r' 0
    go r' (above l e f) old n' =
        (omega arith, elim (dec_lt 0 k) [ yes c ↦ omega arith | no c ↦ absurd (n' (let z : r.least ≡ 0 = omega arith in omega arith)) ], λ z. n' (omega arith))
    go r' (below l o e f) old n' = (omega arith, omega arith, λ z. n' (omega arith))
    go r' (single l o e f) old n' = (omega arith, elim (dec_lt 0 k) [ yes c ↦ omega arith | no c ↦ absurd (n' (omega arith)) ], λ z. n' (omega arith))

-- ---- from the start
module _ (from top : ℕ) (P : ℕ → Type 0) where
  -- a number below the top is one that is sought and passes
  abbrev Passing : ℕ → Type 0
  Passing k = k < top → (from ≤ k) × P k

  -- ---- where only the least is sought
  -- what is known of it on the way
  record LeastSoFar (r : Met) : Type 0 where
    within : r.least ≤ top
    alike : r.second ≡ r.least
    first : Passing r.least

  least_so_far : {r : Met} → Better from P (record { least = top; second = top }) r → LeastSoFar r
  least_so_far same = record { within = le_refl top; alike = refl; first = λ l. absurd (omega arith) }
  least_so_far (more {r} k b v h) = go (meeting k r) (meets_so k r) (least_so_far b)
    where
      go : (r' : Met) → Meeting k r r' → LeastSoFar r → LeastSoFar r'
      go r' (above l e f) old = let same = old.alike in let b = v.1 in absurd (omega arith)
      go r' (below l o e f) old = let same = old.alike in absurd (omega arith)
      go r' (single l o e f) old = let w = old.within in record { within = omega arith; alike = f ∙ sym e; first = λ l. subst (λ (j : ℕ). (from ≤ j) × P j) (sym e) (v.0, h) }

  -- the second is not known
  pub only_least : (r : Met) → Twice from (record { least = top; second = top }) P r → LeastOrTwo from top P (record { least = r.least; second = 0 })
  only_least r t =
      let f = least_so_far t.better in
      let same = f.alike in
      record { within = f.within; first = f.first; others = λ k a b h. t.none k (a, omega arith, λ e. omega arith) h; two = λ n. absurd (n refl) }

  -- ---- where two are sought
  -- what is known of them on the way
  record TwoSoFar (r : Met) : Type 0 where
    within : (r.second ≤ top) ⊎ ((r.least ≡ top) × (r.second ≡ top + 1))
    ordered : r.least < r.second
    first : Passing r.least
    then : Passing r.second

  two_so_far : {r : Met} → Better from P (record { least = top; second = top + 1 }) r → TwoSoFar r
  two_so_far same = record { within = inr (refl, refl); ordered = omega arith; first = λ l. absurd (omega arith); then = λ l. absurd (omega arith) }
  two_so_far (more {r} k b v h) = go (meeting k r) (meets_so k r) (two_so_far b)
    where
      go : (r' : Met) → Meeting k r r' → TwoSoFar r → TwoSoFar r'
      go r' (above l e f) old =
          let b = v.1 in
          record {
            within = inl (⊎_elim (λ w. omega arith) (λ w. let x = w.0 in let y = w.1 in absurd (v.2 (omega arith))) old.within);
            ordered = elim (dec_lt r.least k) [ yes o ↦ omega arith | no o ↦ absurd (v.2 (omega arith)) ];
            first = subst Passing (sym e) old.first;
            then = λ l. subst (λ (j : ℕ). (from ≤ j) × P j) (sym f) (v.0, h);
          }
      go r' (below l o e f) old =
          record {
            within = inl (⊎_elim (λ w. omega arith) (λ w. let x = w.0 in omega arith) old.within);
            ordered = omega arith;
            first = λ l. subst (λ (j : ℕ). (from ≤ j) × P j) (sym e) (v.0, h);
            then = subst Passing (sym f) old.first;
          }
      go r' (single l o e f) old = let x = old.ordered in absurd (omega arith)

  -- two are, or the top for the second
  pub two_least : (r : Met) → Twice from (record { least = top; second = top + 1 }) P r → r.second ≤ top → LeastOrTwo from top P r
  two_least r t w =
      let f = two_so_far t.better in
      let o = f.ordered in
      record {
        within = omega arith;
        first = f.first;
        others = λ k a b h. t.none k (a, omega arith, λ e. omega arith) h;
        two = λ _. record { within = w; ordered = inl o; first = f.first; then = f.then; others = λ k a b n h. t.none k (a, b, n) h };
      }

  -- none is
  pub none_met : (r : Met) → Twice from (record { least = top; second = top + 1 }) P r → top < r.second → LeastOrTwo from top P (record { least = top; second = top })
  none_met r t w =
      let none : (k : ℕ) → from ≤ k → k < top → P k → ⊥ = λ k a b h. ⊎_elim (λ x. omega arith) (λ x. let y = x.0 in t.none k (a, omega arith, λ e. omega arith) h) (two_so_far t.better).within in
      record {
        within = le_refl top;
        first = λ l. absurd (omega arith);
        others = none;
        two = λ _. record { within = le_refl top; ordered = inr (refl, refl); first = λ l. absurd (omega arith); then = λ l. absurd (omega arith); others = λ k a b _ h. none k a b h };
      }

-- ---- an empty promise set
-- number 0 is met where it is sought
pub emptied_better : {P : ℕ → Type 0} (q : Sought) (r : Met) → Emptied q r → P 0 → Better q.from P q.met r
emptied_better {P} q r e h = elim (dec_lt 0 q.from) [
  | yes far ↦ stays (λ s. let a = s.0 in omega arith)
  | no near ↦ elim (dec_lt 0 q.met.second) [
    | no none ↦ stays (λ s. let a = s.1 in omega arith)
    | yes some ↦ elim (ℕ_discrete 0 q.met.least) [
      | yes here ↦ stays (λ s. s.2 here)
      | no new ↦ subst (Better q.from P q.met) (sym (e.new (omega arith, some, new))) (more 0 same (omega arith, some, new) h)
    ]
  ]
]
  where
    stays : (Seeks q 0 → ⊥) → Better q.from P q.met r
    stays n = subst (Better q.from P q.met) (sym (e.old n)) same

-- and is sought no more
pub emptied_now : (q : Sought) (r : Met) → Emptied q r → Unmet q.from r 0 → ⊥
emptied_now q r e u = elim (dec_lt 0 q.from) [
  | yes far ↦ (let a = u.0 in omega arith)
  | no near ↦ elim (dec_lt 0 q.met.second) [
    | no none ↦ (let a = subst (λ (z : Met). 0 < z.second) (e.old (λ s. let b = s.1 in omega arith)) u.1 in omega arith)
    | yes some ↦ elim (ℕ_discrete 0 q.met.least) [
      | yes here ↦ (subst (λ (z : Met). Unmet q.from z 0) (e.old (λ s. s.2 here)) u).2 here
      | no new ↦ met_now q.from 0 q.met (subst (λ (z : Met). Unmet q.from z 0) (e.new (omega arith, some, new)) u)
    ]
  ]
]
