-- Sums over the threads, and the stores that are left at a position.
-- Assumes nothing.
use mathlib.Core.Path.{◌≡◌, refl, sym, ap, ap₂, ◌∙◌, subst}
use mathlib.Core.Bool.{Bool, true, false, cond}
use mathlib.Core.Option.{none, some}
use Prim.Native.Nat.{ℕ, zero, suc, ◌+◌, ◌-◌, ◌≤◌, ◌<◌}
use native.Mathlib.Nat.{not-suc-le-zero, le_refl}
use native.Mathlib.Decide.{ℕ_discrete, dec_lt}
use native.Mathlib.Omega.{arith}
use lib.Dec.{eqb, ltb}
use borrow.Author.Tests.{ltb-true, ne_eqb, eqb-false}
use Rattle.program.specs.Tests.{sum_below}
use Rattle.program.specs.Program.{Instruction, Code, Instr, Compute, Load, Store, Branch, Fence, operand, compute_mode, load_mode, store_mode, fence_mode, decode, instruction_at, instr_at}
use Rattle.program.specs.Counts.{one_store, stores_among, stores_from}
use Rattle.program.specs.Inner.{stores_of}

-- ---- sums
module _ (f g : ℕ → ℕ) where
  pub sum_same : (n : ℕ) → ((k : ℕ) → k < n → f k ≡ g k) → sum_below f n ≡ sum_below g n
  unfolding sum_below
  sum_same zero h = refl
  sum_same (suc n) h = ap₂ ◌+◌ (sum_same n (λ k l. h k (omega arith))) (h n (omega arith))

  pub sum_le : (n : ℕ) → ((k : ℕ) → k < n → f k ≤ g k) → sum_below f n ≤ sum_below g n
  unfolding sum_below
  sum_le zero h = omega arith
  sum_le (suc n) h = let a = h n (omega arith) in let r = sum_le n (λ k l. h k (omega arith)) in omega arith

  -- one part differs: the old one goes, the new one comes
  pub sum_change : (n i : ℕ) → i < n → ((k : ℕ) → k < n → (k ≡ i → ⊥) → f k ≡ g k) → sum_below g n + f i ≡ sum_below f n + g i
  unfolding sum_below
  sum_change zero i l h = absurd (not-suc-le-zero l)
  sum_change (suc n) i l h = go (λ l' h'. sum_change n i l' h') (ℕ_discrete i n)
    where
      go : (i < n → ((k : ℕ) → k < n → (k ≡ i → ⊥) → f k ≡ g k) → sum_below g n + f i ≡ sum_below f n + g i)
          → Dec (i ≡ n) → sum_below g n + g n + f i ≡ sum_below f n + f n + g i
      go rec (yes e) =
          let a = sum_same n (λ k l'. h k (omega arith) (λ q. omega arith)) in
          let b = ap f e in
          let c = ap g e in
          omega arith
      go rec (no e) =
          let r = rec (omega arith) (λ k l'. h k (omega arith)) in
          let b = h n (omega arith) (λ q. e (sym q)) in
          omega arith

  -- where each part of f is at most that of g, the sums are as far apart as any one pair of parts, or further
  pub sum_one : (n i : ℕ) → i < n → ((k : ℕ) → k < n → f k ≤ g k) → sum_below f n + g i ≤ sum_below g n + f i
  unfolding sum_below
  sum_one zero i l h = absurd (not-suc-le-zero l)
  sum_one (suc n) i l h = go (λ l' h'. sum_one n i l' h') (ℕ_discrete i n)
    where
      go : (i < n → ((k : ℕ) → k < n → f k ≤ g k) → sum_below f n + g i ≤ sum_below g n + f i)
          → Dec (i ≡ n) → sum_below f n + f n + g i ≤ sum_below g n + g n + f i
      go rec (yes e) =
          let a = sum_le n (λ k l'. h k (omega arith)) in
          let b = ap f e in
          let c = ap g e in
          omega arith
      go rec (no e) =
          let r = rec (omega arith) (λ k l'. h k (omega arith)) in
          let b = h n (omega arith) in
          omega arith

sum_next : {k : ℕ} (f : ℕ → ℕ) (n : ℕ) → k ≤ sum_below f n → k ≤ sum_below f (suc n)
unfolding sum_below
sum_next f n h = omega arith

-- a longer sum is no smaller
pub sum_grows : (f : ℕ → ℕ) (i d : ℕ) → sum_below f i ≤ sum_below f (i + d)
sum_grows f i zero = let e : i ≡ i + 0 = omega arith in subst (λ (n : ℕ). sum_below f i ≤ sum_below f n) e (le_refl _)
sum_grows f i (suc d) = let e : suc (i + d) ≡ i + suc d = omega arith in subst (λ (n : ℕ). sum_below f i ≤ sum_below f n) e (sum_next f (i + d) (sum_grows f i d))

-- ---- an instruction that is there
pub there : (c : Code) (n : ℕ) (x : Instr) → instr_at c n ≡ some x → (n < c.count) × (decode (instruction_at c n) ≡ x)
unfolding instr_at
there c n x e = go (ltb n c.count) refl e
  where
    go : (b : Bool) → ltb n c.count ≡ b → cond b (some (decode (instruction_at c n))) none ≡ some x → (n < c.count) × (decode (instruction_at c n) ≡ x)
    go true q h = (ltb-true n c.count q, cc)
    go false q h = absurd (eqb-false 0 1 refl cc)

one_store_lem : (i : Instruction) → one_store i ≡ stores_of (decode i)
unfolding one_store decode
one_store_lem i = go i.op
  where
    go : (n : ℕ) → cond (eqb n 2) 1 0
        ≡ stores_of (cond (eqb n 0) (Compute (compute_mode i.m) i.r (operand i.k1 i.n1) (operand i.k2 i.n2))
        (cond (eqb n 1) (Load (load_mode i.m) i.r (operand i.k1 i.n1) (operand i.k2 i.n2))
        (cond (eqb n 2) (Store (store_mode i.m) (operand i.k1 i.n1) (operand i.k2 i.n2))
        (cond (eqb n 3) (Branch i.m (operand i.k1 i.n1) (operand i.k2 i.n2))
        (Fence (fence_mode i.m))))))
    go zero = refl
    go (suc zero) = refl
    go (suc (suc zero)) = refl
    go (suc (suc (suc zero))) = refl
    go (suc (suc (suc (suc n)))) = rw (ne_eqb (suc (suc (suc (suc n)))) 0 (λ e. omega arith), ne_eqb (suc (suc (suc (suc n)))) 1 (λ e. omega arith), ne_eqb (suc (suc (suc (suc n)))) 2 (λ e. omega arith), ne_eqb (suc (suc (suc (suc n)))) 3 (λ e. omega arith))

-- past an instruction there is one store fewer, if it is a store
pub stores_past : (c : Code) (n : ℕ) (x : Instr) → instr_at c n ≡ some x → stores_from c n ≡ stores_of x + stores_from c (suc n)
unfolding stores_from stores_among
stores_past c n x e =
    let h = there c n x e in
    let h0 = h.0 in
    let d : c.count - n ≡ suc (c.count - suc n) = omega arith in
    rw d (ap (λ (k : ℕ). k + stores_among c (suc n) (c.count - suc n)) (one_store_lem (instruction_at c n) ∙ ap stores_of h.1))

one_on : (c : Code) (j : ℕ) → stores_from c (suc j) ≤ stores_from c j
unfolding stores_from stores_among
one_on c j = go (dec_lt j c.count)
  where
    go : Dec (j < c.count) → stores_among c (suc j) (c.count - suc j) ≤ stores_among c j (c.count - j)
    go (yes l) = let d : c.count - j ≡ suc (c.count - suc j) = omega arith in rw d (omega arith)
    go (no l) = let d : c.count - suc j ≡ 0 = omega arith in rw d (omega arith)

-- from a later position there are no more
pub stores_fall : (c : Code) (n k : ℕ) → n ≤ k → stores_from c k ≤ stores_from c n
stores_fall c n k h = let e : n + (k - n) ≡ k = omega arith in subst (λ (j : ℕ). stores_from c j ≤ stores_from c n) e (further (k - n))
  where
    further : (d : ℕ) → stores_from c (n + d) ≤ stores_from c n
    further zero = let e : n ≡ n + 0 = omega arith in subst (λ (j : ℕ). stores_from c j ≤ stores_from c n) e (le_refl _)
    further (suc d) =
        let e : suc (n + d) ≡ n + suc d = omega arith in
        let a = further d in
        let b = one_on c (n + d) in
        subst (λ (j : ℕ). stores_from c j ≤ stores_from c n) e (omega arith)
