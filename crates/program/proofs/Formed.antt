-- What a well-formed program gives.
-- Assumes nothing.
use mathlib.Core.Path.{◌≡◌, refl}
use mathlib.Core.Bool.{Bool, true, false, cond}
use Prim.Native.Nat.{ℕ, suc, ◌+◌, ◌≤◌, ◌<◌}
use native.Mathlib.Omega.{arith}
use lib.Dec.{T, eqb, leb, ltb, leb→le, lt→ltb}
use borrow.Author.Tests.{eqb-false}
use Rattle.program.specs.Program.{Instruction, Code, Program, Operand, Compute, Load, Store, Branch, Fence, operand, compute_mode, load_mode, store_mode, fence_mode, decode, instruction_at, code_of}
use Rattle.program.specs.Counts.{stores}
use Rattle.program.specs.WellFormed.{mode_limit, mode_test, instruction_test, unused_instruction, code_test, program_test}
use Rattle.program.specs.Inner.{CodeOk}
use Rattle.program.proofs.Tests.{and_left, and_right, cond_true, all_at, below_at}
use Rattle.program.proofs.Counts.{there}

-- 1 to 4 threads, at most 16 stores
pub record ProgramOk (p : Program) : Type 0 where
  pub some_thread : 1 ≤ p.threads
  pub few_threads : p.threads ≤ 4
  pub codes : (i : ℕ) → i < p.threads → CodeOk (code_of p i)
  pub few_stores : stores p ≤ 16

branch_test : (i : Instruction) (n k j : ℕ) (a b : Operand) → decode i ≡ Branch j a b → T (mode_test n k i.op i.m) → k + suc j ≤ n
unfolding decode mode_test
branch_test i n k j a b e h =
    go (eqb i.op 0) (eqb i.op 1) (eqb i.op 2) (eqb i.op 3) e
    (and_right (leb i.m (mode_limit i.op)) (cond (eqb i.op 3) (leb (k + suc i.m) n) true) h)
  where
    go : (b0 b1 b2 b3 : Bool)
        → cond b0 (Compute (compute_mode i.m) i.r (operand i.k1 i.n1) (operand i.k2 i.n2))
        (cond b1 (Load (load_mode i.m) i.r (operand i.k1 i.n1) (operand i.k2 i.n2))
        (cond b2 (Store (store_mode i.m) (operand i.k1 i.n1) (operand i.k2 i.n2))
        (cond b3 (Branch i.m (operand i.k1 i.n1) (operand i.k2 i.n2))
        (Fence (fence_mode i.m)))))
        ≡ Branch j a b
        → T (cond b3 (leb (k + suc i.m) n) true) → k + suc j ≤ n
    go true b1 b2 b3 e h = absurd (eqb-false 0 1 refl cc)
    go false true b2 b3 e h = absurd (eqb-false 0 1 refl cc)
    go false false true b3 e h = absurd (eqb-false 0 1 refl cc)
    go false false false true e h = let q : i.m ≡ j = cc in let g = leb→le (k + suc i.m) n h in omega arith
    go false false false false e h = absurd (eqb-false 0 1 refl cc)

code_ok : (c : Code) → T (code_test c) → CodeOk c
unfolding code_test instruction_test
code_ok c h =
    let q = all_at _ h in
    let s = leb→le c.count 16 (q 0) in
    record {
      short = s;
      lands = λ n j a b e.
          let w = there c n (Branch j a b) e in
          let l = w.0 in
          let x = instruction_at c n in
          let g = cond_true (ltb n c.count) (instruction_test c.count n x) (unused_instruction x) (lt→ltb n c.count l) (below_at _ 16 (q 2) n (omega arith)) in
          branch_test x c.count n j a b w.1 (all_at _ g 1);
    }

-- A WELL-FORMED PROGRAM
pub program_ok : (p : Program) → T (program_test p) → ProgramOk p
unfolding program_test
program_ok p h =
    let q = all_at _ h in
    let few = leb→le p.threads 4 (q 2) in
    record {
      some_thread = leb→le 1 p.threads (q 1);
      few_threads = few;
      codes = λ i l. code_ok (code_of p i) (and_left (code_test (code_of p i)) (cond (ltb i p.threads) true (eqb (code_of p i).count 0)) (below_at _ 4 (q 4) i (omega arith)));
      few_stores = leb→le (stores p) 16 (q 5);
    }
