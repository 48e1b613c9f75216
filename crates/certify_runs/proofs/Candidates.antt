-- Candidates for a promise: the stores that the thread could come to if views and promises were left out of account.
-- Assumes nothing.
use mathlib.Core.Path.{◌≡◌, refl, sym, ap, subst, subst₂}
use mathlib.Core.Logic.{◌⊎◌, inl, inr, ⊎_elim}
use mathlib.Core.Bool.{Bool, true, false, ◌&&◌, ◌||◌}
use mathlib.Core.List.{List, [], ◌∷◌, map}
use mathlib.Core.Option.{Option, none, some}
use Prim.Native.Nat.{ℕ, zero, suc, ◌+◌, ◌≤◌, ◌<◌}
use native.Mathlib.Decide.{ℕ_discrete}
use native.Mathlib.Omega.{arith}
use lib.Dec.{T, eqb, eqb→eq}
use lib.ListN.{get_or, set}
use Rattle.program.specs.Program.{instr_at}
use Rattle.program.proofs.Tests.{or_cases, or_left, or_right, and_left, and_right, and_both, eq→eqb}
use Rattle.machine.specs.State.{message_at}
use Rattle.machine.specs.Rules.{address, combine, branch_by}
use Rattle.certify_runs.specs.Below.{Code, Operand, Constant, OfRegister, Instr, Compute, Load, Store, Branch, Fence, Memory, Register, Thread}

-- ---- sets of writes, as lists
-- a location with a value
pub record Write : Type 0 where
  pub location : ℕ
  pub value : ℕ

-- the write of l and v is in the list
abbrev pub is_in : List Write → ℕ → ℕ → Bool
is_in [] l v = false
is_in (w ∷ ws) l v = let rest = is_in ws l v in (eqb w.location l && eqb w.value v) || rest

-- the list with a write, once
abbrev pub insert : Write → List Write → List Write
insert w ws = elim (is_in ws w.location w.value) [ true ↦ ws | false ↦ w ∷ ws ]

-- the lists joined, each write once
abbrev pub union : List Write → List Write → List Write
union [] vs = vs
union (w ∷ ws) vs = insert w (union ws vs)

-- the writes at times 1 to n
abbrev pub writes_up_to : Memory → ℕ → List Write
writes_up_to m zero = []
writes_up_to m (suc n) = let w = message_at m (suc n) in insert (record { location = w.location; value = w.value }) (writes_up_to m n)

-- ---- runs without views and promises: a position, the registers' values, and the writes that can be read
-- the registers' values
abbrev pub values : Thread → List ℕ
values s = map (λ (r : Register). r.value) s.registers

-- a constant is itself, a register's value is in the list
abbrev pub value_in : List ℕ → Operand → ℕ
value_in vs (Constant n) = n
value_in vs (OfRegister r) = get_or vs r 0

-- f at 0 and at the value of each write of the list to l, the results joined
abbrev pub read_each : List Write → ℕ → (ℕ → List Write) → List Write
read_each [] l f = f 0
read_each (w ∷ ws) l f = elim (eqb w.location l) [ true ↦ union (f w.value) (read_each ws l f) | false ↦ read_each ws l f ]

-- the stores from one instruction on; f goes on from there
unfoldable pub relaxed : (ℕ → List ℕ → List Write → List Write) → ℕ → List ℕ → List Write → Option Instr → List Write
relaxed f n vs ws none = []
relaxed f n vs ws (some (Compute k r a b)) = f (n + 1) (set vs r (combine k (value_in vs a) (value_in vs b))) ws
relaxed f n vs ws (some (Load k r a b)) = read_each ws (address (value_in vs a + value_in vs b)) (λ v. f (n + 1) (set vs r v) ws)
relaxed f n vs ws (some (Store k a d)) =
    let w : Write = record { location = address (value_in vs a); value = value_in vs d } in
    insert w (f (n + 1) vs (insert w ws))
relaxed f n vs ws (some (Branch k a b)) = f (n + branch_by (eqb (value_in vs a) (value_in vs b)) k) vs ws
relaxed f n vs ws (some (Fence k)) = f (n + 1) vs ws

-- the stores reached within k instructions
unfoldable pub stores_reached : ℕ → Code → ℕ → List ℕ → List Write → List Write
stores_reached zero c n vs ws = []
stores_reached (suc k) c n vs ws = relaxed (stores_reached k c) n vs ws (instr_at c n)

-- THE CANDIDATES of a thread on a memory
unfoldable pub candidates : Code → Memory → Thread → List Write
candidates c m s = stores_reached c.count c s.position (values s) (writes_up_to m m.count)

-- ---- what is in the lists
module _ (w : Write) (ws : List Write) (l v : ℕ) where
  -- a write is in the list that it was put in
  pub in_here : w.location ≡ l → w.value ≡ v → T (is_in (insert w ws) l v)
  in_here p q = go (is_in ws w.location w.value) refl
    where
      go : (b : Bool) → is_in ws w.location w.value ≡ b → T (is_in (elim b [ true ↦ ws | false ↦ w ∷ ws ]) l v)
      go true e = subst₂ (λ (x y : ℕ). T (is_in ws x y)) p q (subst T (sym e) tt)
      go false e = or_left (eqb w.location l && eqb w.value v) (is_in ws l v) (and_both (eqb w.location l) (eqb w.value v) (eq→eqb p) (eq→eqb q))

  -- and the others are still in it
  pub in_there : T (is_in ws l v) → T (is_in (insert w ws) l v)
  in_there h = go (is_in ws w.location w.value)
    where
      go : (b : Bool) → T (is_in (elim b [ true ↦ ws | false ↦ w ∷ ws ]) l v)
      go true = h
      go false = or_right (eqb w.location l && eqb w.value v) (is_in ws l v) h

-- where the test of a list passes, it is at the first write or at a later one
in_cases : (w : Write) (ws : List Write) (l v : ℕ) → T (is_in (w ∷ ws) l v) → ((w.location ≡ l) × (w.value ≡ v)) ⊎ T (is_in ws l v)
in_cases w ws l v h =
    ⊎_elim (λ a. inl (eqb→eq w.location l (and_left (eqb w.location l) (eqb w.value v) a), eqb→eq w.value v (and_right (eqb w.location l) (eqb w.value v) a)))
    (λ b. inr b) (or_cases (eqb w.location l && eqb w.value v) (is_in ws l v) h)

in_left : (xs ys : List Write) (l v : ℕ) → T (is_in xs l v) → T (is_in (union xs ys) l v)
in_left [] ys l v h = absurd h
in_left (x ∷ xs) ys l v h = ⊎_elim (λ e. in_here x (union xs ys) l v e.0 e.1) (λ b. in_there x (union xs ys) l v (in_left xs ys l v b)) (in_cases x xs l v h)

in_right : (xs ys : List Write) (l v : ℕ) → T (is_in ys l v) → T (is_in (union xs ys) l v)
in_right [] ys l v h = h
in_right (x ∷ xs) ys l v h = in_there x (union xs ys) l v (in_right xs ys l v h)

module _ (f : ℕ → List Write) (l : ℕ) (l' v' : ℕ) where
  -- what comes of reading the initial 0 is in
  pub read_zero : (ws : List Write) → T (is_in (f 0) l' v') → T (is_in (read_each ws l f) l' v')
  read_zero [] h = h
  read_zero (w ∷ ws) h = go (eqb w.location l) (read_zero ws h)
    where
      go : (b : Bool) → T (is_in (read_each ws l f) l' v') → T (is_in (elim b [ true ↦ union (f w.value) (read_each ws l f) | false ↦ read_each ws l f ]) l' v')
      go true r = in_right (f w.value) (read_each ws l f) l' v' r
      go false r = r

  -- what comes of reading a write of the list is in
  pub read_in : (x : ℕ) (ws : List Write) → T (is_in ws l x) → T (is_in (f x) l' v') → T (is_in (read_each ws l f) l' v')
  read_in x [] k h = absurd k
  read_in x (w ∷ ws) k h = ⊎_elim (λ e. here (eqb w.location l) (eq→eqb e.0) e.1) (λ b. there (eqb w.location l) (read_in x ws b h)) (in_cases w ws l x k)
    where
      here : (b : Bool) → T b → w.value ≡ x → T (is_in (elim b [ true ↦ union (f w.value) (read_each ws l f) | false ↦ read_each ws l f ]) l' v')
      here true t e = in_left (f w.value) (read_each ws l f) l' v' (subst (λ (n : ℕ). T (is_in (f n) l' v')) (sym e) h)
      here false t e = absurd t

      there : (b : Bool) → T (is_in (read_each ws l f) l' v') → T (is_in (elim b [ true ↦ union (f w.value) (read_each ws l f) | false ↦ read_each ws l f ]) l' v')
      there true r = in_right (f w.value) (read_each ws l f) l' v' r
      there false r = r

-- each message up to time n is among the writes up to n
pub writes_seen : (m : Memory) (n t : ℕ) → 0 < t → t ≤ n → T (is_in (writes_up_to m n) (message_at m t).location (message_at m t).value)
writes_seen m zero t a b = absurd (omega arith)
writes_seen m (suc n) t a b = go (ℕ_discrete t (suc n)) (λ e. writes_seen m n t a (omega arith))
  where
    w : Write
    w = record { location = (message_at m (suc n)).location; value = (message_at m (suc n)).value }

    go : Dec (t ≡ suc n) → (¬ (t ≡ suc n) → T (is_in (writes_up_to m n) (message_at m t).location (message_at m t).value))
        → T (is_in (insert w (writes_up_to m n)) (message_at m t).location (message_at m t).value)
    go (yes e) rec = in_here w (writes_up_to m n) _ _ (ap (λ (k : ℕ). (message_at m k).location) (sym e)) (ap (λ (k : ℕ). (message_at m k).value) (sym e))
    go (no e) rec = in_there w (writes_up_to m n) _ _ (rec e)
