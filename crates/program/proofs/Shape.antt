-- All that a well-formed program has, as named facts; and a program that has them is well formed.
-- Assumes nothing.
use mathlib.Core.Path.{◌≡◌}
use mathlib.Core.Logic.{◌↔◌}
use mathlib.Core.Bool.{true, cond}
use Prim.Native.Nat.{ℕ, ◌≤◌, ◌<◌}
use native.Mathlib.Omega.{arith}
use lib.Dec.{T, eqb, ltb, eqb→eq, leb→le, le→leb, ltb→lt, nltb→le, not_T}
use lib.ListN.{length, get_or}
use Rattle.program.specs.Tests.{all_of}
use Rattle.program.specs.Program.{Instruction, Code, Condition, Program, no_instruction, no_condition, instruction_at, code_of}
use Rattle.program.specs.Counts.{stores}
use Rattle.program.specs.WellFormed.{instruction_test, condition_test, unused_instruction, unused_condition, code_test, program_test}
use Rattle.program.proofs.Tests.{and_left, and_right, and_both, eq→eqb, cond_false, cond_both, end, also, all_each, all_at, below_at, below_all, below_used, below_spare, below_both}

-- at most 16 instructions, each in range; the entries after them are 0
pub record CodeShape (c : Code) : Type 0 where
  pub short : c.count ≤ 16
  pub places : length c.instructions ≡ 16
  pub in_range_lem : (k : ℕ) → k < c.count → T (instruction_test c.count k (instruction_at c k))
  pub unused : (k : ℕ) → c.count ≤ k → k < 16 → instruction_at c k ≡ no_instruction

pub record ProgramShape (p : Program) : Type 0 where
  pub version_1 : p.version ≡ 1
  pub some_thread : 1 ≤ p.threads
  pub few_threads : p.threads ≤ 4
  pub four : length p.codes ≡ 4
  pub codes_ok : (i : ℕ) → i < 4 → CodeShape (code_of p i)
  pub idle : (i : ℕ) → p.threads ≤ i → i < 4 → (code_of p i).count ≡ 0
  pub few_stores : stores p ≤ 16
  pub few_conditions : p.conditions ≤ 8
  pub eight : length p.question ≡ 8
  pub conditions_ok : (k : ℕ) → k < p.conditions → T (condition_test p.threads (get_or p.question k no_condition))
  pub unused_conditions : (k : ℕ) → p.conditions ≤ k → k < 8 → get_or p.question k no_condition ≡ no_condition

-- ---- entries that are 0
no_instruction_lem : (x : Instruction) → T (unused_instruction x) → x ≡ no_instruction
unfolding unused_instruction
no_instruction_lem x h =
    let q = all_at _ h in
    let e0 = eqb→eq x.op 0 (q 0) in
    let e1 = eqb→eq x.m 0 (q 1) in
    let e2 = eqb→eq x.r 0 (q 2) in
    let e3 = eqb→eq x.k1 0 (q 3) in
    let e4 = eqb→eq x.n1 0 (q 4) in
    let e5 = eqb→eq x.k2 0 (q 5) in
    let e6 = eqb→eq x.n2 0 (q 6) in
    λ i. record { op = e0 i; m = e1 i; r = e2 i; k1 = e3 i; n1 = e4 i; k2 = e5 i; n2 = e6 i }

is_unused_instruction : (x : Instruction) → x ≡ no_instruction → T (unused_instruction x)
unfolding unused_instruction all_of
is_unused_instruction x e = rw e tt

no_condition_lem : (x : Condition) → T (unused_condition x) → x ≡ no_condition
unfolding unused_condition
no_condition_lem x h =
    let q = all_at _ h in
    let e0 = eqb→eq x.kind 0 (q 0) in
    let e1 = eqb→eq x.thread 0 (q 1) in
    let e2 = eqb→eq x.index 0 (q 2) in
    let e3 = eqb→eq x.value 0 (q 3) in
    λ i. record { kind = e0 i; thread = e1 i; index = e2 i; value = e3 i }

is_unused_condition : (x : Condition) → x ≡ no_condition → T (unused_condition x)
unfolding unused_condition all_of
is_unused_condition x e = rw e tt

-- ---- a thread's code
code_shape : (c : Code) → T (code_test c) → CodeShape c
unfolding code_test
code_shape c h =
    let q = all_at _ h in
    let s = leb→le c.count 16 (q 0) in
    record {
      short = s;
      places = eqb→eq (length c.instructions) 16 (q 1);
      in_range_lem = below_used (λ k. instruction_test c.count k (instruction_at c k)) (λ k. unused_instruction (instruction_at c k)) c.count 16 s (q 2);
      unused = λ k a l. no_instruction_lem (instruction_at c k) (below_spare (λ j. instruction_test c.count j (instruction_at c j)) (λ j. unused_instruction (instruction_at c j)) c.count 16 (q 2) k l a);
    }

code_test_lem : (c : Code) → CodeShape c → T (code_test c)
unfolding code_test
code_test_lem c o =
    all_each
    (also (le→leb c.count 16 o.short)
    (also (eq→eqb o.places)
    (also
    (below_both (λ k. instruction_test c.count k (instruction_at c k)) (λ k. unused_instruction (instruction_at c k)) c.count 16 o.in_range_lem (λ k a l. is_unused_instruction (instruction_at c k) (o.unused k a l)))
    end)))

-- ---- the program
shape_of : (p : Program) → T (program_test p) → ProgramShape p
unfolding program_test
shape_of p h =
    let q = all_at _ h in
    let few = leb→le p.threads 4 (q 2) in
    let c8 = leb→le p.conditions 8 (q 6) in
    record {
      version_1 = eqb→eq p.version 1 (q 0);
      some_thread = leb→le 1 p.threads (q 1);
      few_threads = few;
      four = eqb→eq (length p.codes) 4 (q 3);
      codes_ok = λ i l. code_shape (code_of p i) (and_left (code_test (code_of p i)) (cond (ltb i p.threads) true (eqb (code_of p i).count 0)) (below_at _ 4 (q 4) i l));
      idle = λ i a l.
          eqb→eq (code_of p i).count 0 (cond_false (ltb i p.threads) true (eqb (code_of p i).count 0) (λ t. let z = ltb→lt i p.threads t in omega arith)
          (and_right (code_test (code_of p i)) (cond (ltb i p.threads) true (eqb (code_of p i).count 0)) (below_at _ 4 (q 4) i l)));
      few_stores = leb→le (stores p) 16 (q 5);
      few_conditions = c8;
      eight = eqb→eq (length p.question) 8 (q 7);
      conditions_ok = below_used (λ k. condition_test p.threads (get_or p.question k no_condition)) (λ k. unused_condition (get_or p.question k no_condition)) p.conditions 8 c8 (q 8);
      unused_conditions = λ k a l. no_condition_lem (get_or p.question k no_condition) (below_spare (λ j. condition_test p.threads (get_or p.question j no_condition)) (λ j. unused_condition (get_or p.question j no_condition)) p.conditions 8 (q 8) k l a);
    }

test_of : (p : Program) → ProgramShape p → T (program_test p)
unfolding program_test
test_of p o =
    all_each
    (also (eq→eqb o.version_1)
    (also (le→leb 1 p.threads o.some_thread)
    (also (le→leb p.threads 4 o.few_threads)
    (also (eq→eqb o.four)
    (also
    (below_all _ 4 (λ i l. and_both (code_test (code_of p i)) (cond (ltb i p.threads) true (eqb (code_of p i).count 0)) (code_test_lem (code_of p i) (o.codes_ok i l))
    (cond_both (ltb i p.threads) true (eqb (code_of p i).count 0) (λ t. tt) (λ t. eq→eqb (o.idle i (nltb→le i p.threads (not_T (ltb i p.threads) t)) l)))))
    (also (le→leb (stores p) 16 o.few_stores)
    (also (le→leb p.conditions 8 o.few_conditions)
    (also (eq→eqb o.eight)
    (also
    (below_both (λ k. condition_test p.threads (get_or p.question k no_condition)) (λ k. unused_condition (get_or p.question k no_condition)) p.conditions 8 o.conditions_ok
    (λ k a l. is_unused_condition (get_or p.question k no_condition) (o.unused_conditions k a l)))
    end)))))))))

-- THE TEST OF A PROGRAM: it passes exactly where the facts hold
pub program_iff : (p : Program) → T (program_test p) ↔ ProgramShape p
program_iff p = (shape_of p, test_of p)
