-- The stores that are left, counted one by one.
-- Assumes nothing.
use mathlib.Core.Path.{◌≡◌, sym, ap, ◌∙◌}
use mathlib.Core.Bool.{Bool, true, false, cond}
use Prim.Native.Nat.{ℕ, suc, ◌+◌, ◌-◌, ◌≤◌, ◌<◌}
use native.Mathlib.Omega.{arith}
use lib.Dec.{eqb, ltb}
use borrow.Author.Tests.{le-ltb}
use Rattle.program.specs.declared.Code.{Code}
use Rattle.program.specs.declared.Instruction.{Instruction}
use Rattle.program.specs.Program.{instruction_at}
use Rattle.program.specs.Counts.{one_store, stores_among, stores_from}

one_at_most : (x : Instruction) → one_store x ≤ 1
unfolding one_store
one_at_most x = go (eqb x.op 2)
  where
    go : (b : Bool) → cond b 1 0 ≤ 1
    go true = omega arith
    go false = omega arith

pub counts_one : (v : ℕ) (x : Instruction) → v ≡ one_store x → v ≤ 1
counts_one v x e = let o = one_at_most x in omega arith

stores_more : (c : Code) (k : ℕ) → k < c.count → stores_from c k ≡ one_store (instruction_at c k) + stores_from c (k + 1)
unfolding stores_from stores_among
stores_more c k h =
    let e : c.count - k ≡ suc (c.count - (k + 1)) = omega arith in
    let f : suc k ≡ k + 1 = omega arith in
    ap (stores_among c k) e ∙ ap (λ (j : ℕ). one_store (instruction_at c k) + stores_among c j (c.count - (k + 1))) f

pub stores_end : (c : Code) (k : ℕ) → c.count ≤ k → stores_from c k ≡ 0
unfolding stores_from stores_among
stores_end c k h = let e : c.count - k ≡ 0 = omega arith in ap (stores_among c k) e

-- counted one by one
pub counted_more : (c : Code) (n r k v : ℕ) (o : Instruction) → (r + stores_from c k ≡ stores_from c n) × (r ≤ k) → k < c.count → o ≡ instruction_at c k → v ≡ one_store o
    → (r + v + stores_from c (k + 1) ≡ stores_from c n) × (r + v ≤ k + 1)
counted_more c n r k v o inv l e f =
    let i0 = inv.0 in
    let i1 = inv.1 in
    let one = one_at_most o in
    let more = stores_more c k l in
    let same : one_store o ≡ one_store (instruction_at c k) = ap one_store e in
    (omega arith, omega arith)

pub counted_all : (c : Code) (n r k : ℕ) → (r + stores_from c k ≡ stores_from c n) × (r ≤ k) → c.count ≤ k → r ≡ stores_from c n
counted_all c n r k inv l = let i0 = inv.0 in let e = stores_end c k l in omega arith

-- enough are found
pub counted_enough : (c : Code) (n r k j : ℕ) → (r + stores_from c k ≡ stores_from c n) × (r ≤ k) → j ≤ r → false ≡ ltb (stores_from c n) j
counted_enough c n r k j inv l = let i0 = inv.0 in let h : j ≤ stores_from c n = omega arith in sym (le-ltb (stores_from c n) j h)
