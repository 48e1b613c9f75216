-- A thread's code of which some instructions are read.
-- Assumes nothing.
use mathlib.Core.Path.{◌≡◌, refl, sym, ap, ap₂, ◌∙◌, subst}
use mathlib.Core.List.{List}
use Prim.Native.Nat.{ℕ, zero, suc, ◌+◌, ◌-◌, ◌≤◌, ◌<◌, zero-le}
use native.Mathlib.Nat.{not-suc-le-zero, le_refl}
use native.Mathlib.Decide.{ℕ_discrete}
use native.Mathlib.Omega.{arith}
use lib.Dec.{T}
use lib.ListN.{length, get_or, set, replicate, length-set}
use lib.Seq.{get_or-set_same, get_or-set_other}
use Rattle.program.specs.Tests.{sum_below}
use Rattle.program.specs.Program.{Instruction, Code, Program, no_instruction, no_code, instruction_at, code_of}
use Rattle.program.specs.Counts.{one_store, stores_among, stores_from, stores}
use Rattle.program.specs.WellFormed.{instruction_test}
use Rattle.program.specs.File.{with_question}

-- ---- a code of which r instructions are read
pub record Filled (r : ℕ) (c : Code) : Type 0 where
  pub short : c.count ≤ 16
  pub places : length c.instructions ≡ 16
  pub read : r ≤ c.count
  pub passed : (k : ℕ) → k < r → T (instruction_test c.count k (instruction_at c k))
  pub unread : (k : ℕ) → r ≤ k → k < 16 → instruction_at c k ≡ no_instruction

default_at : (n k : ℕ) → k < n → get_or (replicate n no_instruction) k no_instruction ≡ no_instruction
default_at n k h = go n k
  where
    go : (n k : ℕ) → get_or (replicate n no_instruction) k no_instruction ≡ no_instruction
    go zero k = refl
    go (suc n) zero = refl
    go (suc n) (suc k) = go n k

pub no_code_filled : Filled 0 no_code
no_code_filled = record { short = zero-le; places = refl; read = zero-le; passed = λ k h. absurd (not-suc-le-zero h); unread = λ k h l. default_at 16 k l }

-- one instruction more
module _ (c : Code) (k : ℕ) (x : Instruction) where
  abbrev pub more : Code
  more = record { count = c.count; instructions = set c.instructions k x }

  pub fill : Filled k c → k < c.count → T (instruction_test c.count k x) → Filled (suc k) more
  fill o h t =
      record {
        short = o.short;
        places = length-set c.instructions k x ∙ o.places;
        read = h;
        passed = λ j l. at j (ℕ_discrete j k) l;
        unread = λ j l b. get_or-set_other c.instructions k j x no_instruction (λ e. omega arith) ∙ o.unread j (omega arith) b;
      }
    where
      fits : k < length c.instructions
      fits = let a = o.short in let b = o.places in omega arith

      at : (j : ℕ) → Dec (j ≡ k) → j < suc k → T (instruction_test c.count j (instruction_at more j))
      at j (yes e) l =
          subst (λ (n : ℕ). T (instruction_test c.count n (instruction_at more n))) (sym e)
          (subst (λ (y : Instruction). T (instruction_test c.count k y)) (sym (get_or-set_same c.instructions k x no_instruction fits)) t)
      at j (no e) l = subst (λ (y : Instruction). T (instruction_test c.count j y)) (sym (get_or-set_other c.instructions k j x no_instruction e)) (o.passed j (omega arith))

-- the code of a thread whose number of instructions is known, and nothing else
pub opened : (n : ℕ) (l : List Instruction) → n ≤ 16 → l ≡ replicate 16 no_instruction → Filled 0 (record { count = n; instructions = l })
opened n l h e =
    record {
      short = h;
      places = ap length e;
      read = zero-le;
      passed = λ k z. absurd (not-suc-le-zero z);
      unread = λ k z b. ap (λ (m : List Instruction). get_or m k no_instruction) e ∙ default_at 16 k b;
    }

-- ---- stores
pub stores_none : (c : Code) → stores_among c 0 0 ≡ 0
unfolding stores_among
stores_none c = refl

pub stores_all : (c : Code) (n : ℕ) → c.count ≡ n → stores_among c 0 n ≡ stores_from c 0
unfolding stores_from
stores_all c n e = let z : n ≡ c.count - 0 = omega arith in ap (stores_among c 0) z

stores_same : (c c' : Code) (n k : ℕ) → ((j : ℕ) → k ≤ j → j < k + n → instruction_at c j ≡ instruction_at c' j) → stores_among c k n ≡ stores_among c' k n
unfolding stores_among
stores_same c c' zero k h = refl
stores_same c c' (suc n) k h = ap₂ ◌+◌ (ap one_store (h k (omega arith) (omega arith))) (stores_same c c' n (suc k) (λ j a b. h j (omega arith) (omega arith)))

stores_last : (c : Code) (n k : ℕ) → stores_among c k (suc n) ≡ stores_among c k n + one_store (instruction_at c (k + n))
unfolding stores_among
stores_last c zero k = let e : k ≡ k + 0 = omega arith in let d = ap (λ (j : ℕ). one_store (instruction_at c j)) e in omega arith
stores_last c (suc n) k =
    let r = stores_last c n (suc k) in
    let e : suc k + n ≡ k + suc n = omega arith in
    let d = ap (λ (j : ℕ). one_store (instruction_at c j)) e in
    omega arith

pub stores_next : (c : Code) (k : ℕ) → stores_among c 0 (suc k) ≡ stores_among c 0 k + one_store (instruction_at c k)
stores_next c k = let e : 0 + k ≡ k = omega arith in let d = ap (λ (j : ℕ). one_store (instruction_at c j)) e in let l = stores_last c k 0 in omega arith

pub stores_grow : (c : Code) (k n : ℕ) → k ≤ n → stores_among c 0 k ≤ stores_among c 0 n
stores_grow c k n h = let e : k + (n - k) ≡ n = omega arith in subst (λ (j : ℕ). stores_among c 0 k ≤ stores_among c 0 j) e (further (n - k))
  where
    further : (d : ℕ) → stores_among c 0 k ≤ stores_among c 0 (k + d)
    further zero = let e : k ≡ k + 0 = omega arith in subst (λ (j : ℕ). stores_among c 0 k ≤ stores_among c 0 j) e (le_refl _)
    further (suc d) =
        let r = further d in
        let l = stores_next c (k + d) in
        let e : suc (k + d) ≡ k + suc d = omega arith in
        subst (λ (j : ℕ). stores_among c 0 k ≤ stores_among c 0 j) e (omega arith)

pub stores_fill : (c : Code) (k : ℕ) (x : Instruction) → k < length c.instructions → stores_among (more c k x) 0 (suc k) ≡ stores_among c 0 k + one_store x
stores_fill c k x h =
    let a = stores_next (more c k x) k in
    let b = stores_same (more c k x) c k 0 (λ j u v. get_or-set_other c.instructions k j x no_instruction (λ e. omega arith)) in
    let d = ap one_store (get_or-set_same c.instructions k x no_instruction h) in
    omega arith

pub stores_of_lem : (q : Program) (n : ℕ) {N : ℕ} → q.threads ≡ N → sum_below (λ j. stores_from (code_of q j) 0) N ≡ stores (with_question n q.question q)
unfolding stores code_of
stores_of_lem q n e = ap (sum_below (λ j. stores_from (code_of q j) 0)) (sym e)
