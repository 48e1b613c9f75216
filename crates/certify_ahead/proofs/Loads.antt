-- The loads ahead, looked for one by one.
-- Assumes nothing.
use mathlib.Core.Path.{◌≡◌, sym, ap, ◌∙◌, refl}
use mathlib.Core.Bool.{Bool, true, false, cond}
use mathlib.Core.Option.{some}
use Prim.Native.Nat.{ℕ, ◌+◌, ◌≤◌, ◌<◌}
use native.Mathlib.Decide.{dec_lt}
use native.Mathlib.Omega.{arith}
use lib.Dec.{eqb}
use borrow.Author.Tests.{ne_eqb, eqb-false}
use Rattle.program.specs.declared.Code.{Code}
use Rattle.program.specs.declared.Instruction.{Instruction}
use Rattle.program.specs.declared.Operand.{Operand}
use Rattle.program.specs.declared.LoadMode.{LoadMode}
use Rattle.program.specs.declared.Instr.TheVariants.{Compute, Load, Store, Branch, Fence}
use Rattle.program.specs.Program.{operand, compute_mode, load_mode, store_mode, fence_mode, decode, instruction_at, instr_at}
use Rattle.program.proofs.Counts.{there}
use Rattle.certify_ahead.specs.Loadless.{Loadless}

-- an instruction with another op byte is no load
not_load : (i : Instruction) → (i.op ≡ 1 → ⊥) → (how : LoadMode) (r : ℕ) (a b : Operand) → decode i ≡ Load how r a b → ⊥
unfolding decode
not_load i n how r a b e = go (eqb i.op 0) (eqb i.op 1) (eqb i.op 2) (eqb i.op 3) (ne_eqb i.op 1 n) e
  where
    x : Operand
    x = operand i.k1 i.n1

    y : Operand
    y = operand i.k2 i.n2

    go : (p o q t : Bool) → o ≡ false
        → cond p (Compute (compute_mode i.m) i.r x y) (cond o (Load (load_mode i.m) i.r x y) (cond q (Store (store_mode i.m) x y) (cond t (Branch i.m x y) (Fence (fence_mode i.m))))) ≡ Load how r a b → ⊥
    go true o q t f e = eqb-false 0 1 refl cc
    go false true q t f e = eqb-false 0 1 refl cc
    go false false true t f e = eqb-false 0 1 refl cc
    go false false false true f e = eqb-false 0 1 refl cc
    go false false false false f e = eqb-false 0 1 refl cc

-- no load stands from position n up to k
abbrev pub NoneUpTo : Code → ℕ → ℕ → Type 0
NoneUpTo c n k = (j : ℕ) → n ≤ j → j < k → (how : LoadMode) (r : ℕ) (a b : Operand) → instr_at c j ≡ some (Load how r a b) → ⊥

pub none_more : (c : Code) (n k : ℕ) (i : Instruction) → NoneUpTo c n k → i ≡ instruction_at c k → (i.op ≡ 1 → ⊥) → NoneUpTo c n (k + 1)
none_more c n k i h e other j low l how r a b g = elim (dec_lt j k) [
  | yes before ↦ h j low before how r a b g
  | no after ↦ (let at : j ≡ k = omega arith in not_load i other how r a b (ap decode (e ∙ ap (instruction_at c) (sym at)) ∙ (there c j (Load how r a b) g).1))
]

pub none_all : (c : Code) (n k : ℕ) → NoneUpTo c n k → c.count ≤ k → Loadless c n
none_all c n k h end j low how r a b g = let l = (there c j (Load how r a b) g).0 in h j low (omega arith) how r a b g
