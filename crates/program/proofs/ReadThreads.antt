-- The threads of a file that is read: each is in range, and its stores are counted.
-- Assumes nothing.
use mathlib.Core.Path.{◌≡◌, refl, sym, ap, ◌∙◌, subst}
use mathlib.Core.Logic.{◌≢◌}
use mathlib.Core.List.{List}
use Prim.Native.Nat.{ℕ, suc, ◌+◌, ◌*◌, ◌≤◌, ◌<◌}
use native.Mathlib.Decide.{ℕ_discrete}
use native.Mathlib.Omega.{arith}
use lib.Dec.{T, eqb, leb, leb→le}
use lib.ListN.{length, replicate, length-set}
use lib.Seq.{get_or-set_same, get_or-set_other}
use Rattle.program.specs.Tests.{sum_below}
use Rattle.program.specs.Program.{Instruction, Code, Program, no_code, no_condition, code_of}
use Rattle.program.specs.Counts.{one_store, stores_among, stores_from}
use Rattle.program.specs.WellFormed.{instruction_tests, instruction_test}
use Rattle.program.specs.Refusals.{InstructionCount, InstructionByte, StoreCount, ThreadNumber}
use Rattle.program.specs.File.{reading, byte_at, instruction_of, with_code, with_instruction, read_instruction, read_thread}
use Rattle.program.specs.Inner.{IfReading}
use Rattle.program.proofs.Counts.{sum_same}
use Rattle.program.proofs.Kept.{past_demand, past_mark, past_range, each_keeps}
use Rattle.program.proofs.Filled.{Filled, more, fill, opened, stores_none, stores_all, stores_fill}

-- ---- the program so far, of N threads
module _ (N : ℕ) where
  -- the header is read; no condition is
  pub record Head (q : Program) : Type 0 where
    pub version_1 : q.version ≡ 1
    pub threads_are : q.threads ≡ N
    pub four : length q.codes ≡ 4
    pub unasked : q.conditions ≡ 0
    pub blank : q.question ≡ replicate 8 no_condition

  -- the stores of the threads before i
  abbrev pub stores_before : Program → ℕ → ℕ
  stores_before q i = sum_below (λ j. stores_from (code_of q j) 0) i

  -- the threads before i are read, and the next record is at `at`
  pub record Before (i at s : ℕ) (q : Program) : Type 0 where
    pub head : Head q
    pub done : (j : ℕ) → j < i → Filled (code_of q j).count (code_of q j)
    pub idle : (j : ℕ) → i ≤ j → code_of q j ≡ no_code
    pub counted : s ≡ stores_before q i
    pub few : s ≤ 16
    pub place : at ≤ 4 + 148 * i

  -- and k of the n instructions of thread i
  pub record Within (i n k at s : ℕ) (q : Program) : Type 0 where
    pub head : Head q
    pub total : (code_of q i).count ≡ n
    pub done : (j : ℕ) → j < i → Filled (code_of q j).count (code_of q j)
    pub now : Filled k (code_of q i)
    pub idle : (j : ℕ) → i < j → code_of q j ≡ no_code
    pub counted : s ≡ stores_before q i + stores_among (code_of q i) 0 k
    pub few : s ≤ 16
    pub place : at ≤ 4 + 148 * i + 4 + 9 * k

  -- thread i is replaced
  module _ (i : ℕ) (c : Code) (q : Program) (low : i < 4) (h : Head q) where
    code_there : code_of (with_code i c q) i ≡ c
    unfolding code_of
    code_there = get_or-set_same q.codes i c no_code (let a = h.four in omega arith)

    code_other : (j : ℕ) → j ≢ i → code_of (with_code i c q) j ≡ code_of q j
    unfolding code_of
    code_other j n = get_or-set_other q.codes i j c no_code n

    head_kept : Head (with_code i c q)
    head_kept = record { version_1 = h.version_1; threads_are = h.threads_are; four = length-set q.codes i c ∙ h.four; unasked = h.unasked; blank = h.blank }

    done_kept : ((j : ℕ) → j < i → Filled (code_of q j).count (code_of q j)) → (j : ℕ) → j < i → Filled (code_of (with_code i c q) j).count (code_of (with_code i c q) j)
    done_kept d j l = subst (λ (x : Code). Filled x.count x) (sym (code_other j (λ e. omega arith))) (d j l)

    stores_kept : stores_before (with_code i c q) i ≡ stores_before q i
    stores_kept = sum_same (λ j. stores_from (code_of (with_code i c q) j) 0) (λ j. stores_from (code_of q j) 0) i (λ j l. ap (λ (x : Code). stores_from x 0) (code_other j (λ e. omega arith)))

  one_thread_more : (q : Program) (i : ℕ) → stores_before q (suc i) ≡ stores_before q i + stores_from (code_of q i) 0
  unfolding sum_below
  one_thread_more q i = refl

  module _ (f : List ℕ) where
    -- ---- an instruction
    one_more : (i n k at s : ℕ) (q : Program) → i < 4 → k < n → Within i n k at s q → IfReading (Within i n (suc k)) (read_instruction f i k at s q)
    unfolding read_instruction instruction_test
    one_more i n k at s q low h w =
        let x = instruction_of f at in
        let P = Within i n (suc k) in
        past_mark P f at 0x49 0x4E 7 _
        (λ l. past_range P (instruction_tests (code_of q i).count k x) InstructionByte (at + 2) _
        (λ g. past_demand P (leb (s + one_store x) 16) StoreCount (at + 2) _
        (λ d. filled_in x g (leb→le (s + one_store x) 16 d))))
      where
        filled_in : (x : Instruction) → T (instruction_test (code_of q i).count k x) → s + one_store x ≤ 16 → Within i n (suc k) (at + 9) (s + one_store x) (with_instruction i k x q)
        filled_in x g few =
            let c = code_of q i in
            let size = w.total in
            let b = fill c k x w.now (omega arith) g in
            let there = code_there i (more c k x) q low w.head in
            let sf = stores_fill c k x (let u = w.now.short in let v = w.now.places in omega arith) in
            let sk = stores_kept i (more c k x) q low w.head in
            let st = ap (λ (y : Code). stores_among y 0 (suc k)) there in
            let cn = w.counted in
            let pl = w.place in
            record {
              head = head_kept i (more c k x) q low w.head;
              total = ap (λ (y : Code). y.count) there ∙ size;
              done = done_kept i (more c k x) q low w.head w.done;
              now = subst (Filled (suc k)) (sym there) b;
              idle = λ j l. code_other i (more c k x) q low w.head j (λ u. omega arith) ∙ w.idle j l;
              counted = omega arith;
              few = few;
              place = omega arith;
            }

    -- ---- a thread
    pub thread_read : (i at s : ℕ) (q : Program) → i < 4 → Before i at s q → IfReading (Before (suc i)) (read_thread f i at s q)
    unfolding read_thread
    thread_read i at s q low w =
        let n = byte_at f (at + 3) in
        let P = Before (suc i) in
        past_mark P f at 0x54 0x48 2 _
        (λ l. past_demand P (eqb (byte_at f (at + 2)) i) ThreadNumber (at + 2) _
        (λ d. past_demand P (leb n 16) InstructionCount (at + 3) _
        (λ g. each_keeps (read_instruction f i) (Within i n) n (λ k a t r. one_more i n k a t r low) P (closed n) (reading (at + 4) s (started n)) (begun n (leb→le n 16 g)))))
      where
        started : ℕ → Program
        started n = with_code i (record { count = n; instructions = (code_of q i).instructions }) q

        begun : (n : ℕ) → n ≤ 16 → Within i n 0 (at + 4) s (started n)
        begun n h =
            let c : Code = record { count = n; instructions = (code_of q i).instructions } in
            let there = code_there i c q low w.head in
            let sk = stores_kept i c q low w.head in
            let sn = stores_none (code_of (with_code i c q) i) in
            let cn = w.counted in
            let pl = w.place in
            record {
              head = head_kept i c q low w.head;
              total = ap (λ (y : Code). y.count) there;
              done = done_kept i c q low w.head w.done;
              now = subst (Filled 0) (sym there) (opened n (code_of q i).instructions h (ap (λ (y : Code). y.instructions) (w.idle i (omega arith))));
              idle = λ j l. code_other i c q low w.head j (λ u. omega arith) ∙ w.idle j (omega arith);
              counted = omega arith;
              few = w.few;
              place = omega arith;
            }

        closed : (n a t : ℕ) (r : Program) → Within i n n a t r → Before (suc i) a t r
        closed n a t r v =
            let size = v.total in
            let short = v.now.short in
            let sa = stores_all (code_of r i) n size in
            let om = one_thread_more r i in
            let cn = v.counted in
            let pl = v.place in
            record {
              head = v.head;
              done = λ j l. each j (ℕ_discrete j i) l;
              idle = v.idle;
              counted = omega arith;
              few = v.few;
              place = omega arith;
            }
          where
            each : (j : ℕ) → Dec (j ≡ i) → j < suc i → Filled (code_of r j).count (code_of r j)
            each j (yes u) l = subst (λ (m : ℕ). Filled (code_of r m).count (code_of r m)) (sym u) (subst (λ (m : ℕ). Filled m (code_of r i)) (sym v.total) v.now)
            each j (no u) l = v.done j (omega arith)
