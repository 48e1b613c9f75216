-- Every well-formed program is read back from its file.
-- Assumes nothing.
use mathlib.Core.Path.{◌≡◌, refl, sym, ap, ap₂, ◌∙◌, subst}
use mathlib.Core.Bool.{Bool, true, false, cond, ◌&&◌}
use mathlib.Core.List.{List, [], ◌∷◌, ◌++◌, append-nil}
use Prim.Native.Nat.{ℕ, zero, suc, ◌+◌, ◌-◌, ◌≤◌, ◌<◌}
use native.Mathlib.Nat.{le_refl}
use native.Mathlib.Omega.{arith}
use lib.Dec.{T, eqb, leb, le→leb}
use borrow.Author.Tests.{eq-eqb}
use lib.ListN.{length, get_or, set, replicate, length-append}
use lib.Seq.{get_or-set_same, set-set}
use Rattle.program.specs.Tests.{all_of, sum_below}
use Rattle.program.specs.Program.{Instruction, Code, Condition, Program, no_instruction, no_code, no_condition, no_program, instruction_at, code_of}
use Rattle.program.specs.Counts.{one_store, stores_among, stores_from, stores}
use Rattle.program.specs.WellFormed.{instruction_tests, instruction_test, condition_tests, condition_test, program_test}
use Rattle.program.specs.Refusals.{Refusal, InputEnds, OtherMark, OtherVersion, ThreadCount, InstructionCount, InstructionByte, StoreCount, ConditionByte, BytesFollow, ThreadNumber}
use Rattle.program.specs.File.{refused, program, Reading, reading, byte_at, demand, marked, in_range, with_header, read_header, instruction_of, with_code, with_instruction, read_each, read_instruction, read_thread, condition_of, with_question, read_condition, read_question, read_end, read_body, read_file}
use Rattle.program.specs.Encode.{each_record, instruction_record, instruction_records, thread_record, thread_records, condition_record, condition_records, question_records, file_of}
use Rattle.program.proofs.Counts.{sum_grows}
use Rattle.program.proofs.Filled.{stores_next, stores_grow}
use Rattle.program.proofs.Tests.{and_left, and_right, and_both, eq→eqb}
use Rattle.program.proofs.First.{first, first_length, first_none, first_at, first_next, first_all}
use Rattle.program.proofs.Places.{At, at_fits, at_byte, at_first, at_second}
use Rattle.program.proofs.Shape.{ProgramShape, program_iff}

-- ---- tests that pass
demand_yes : (b : Bool) (r : Refusal) (place : ℕ) (on : Reading) → T b → demand b r place on ≡ on
demand_yes true r place on h = refl
demand_yes false r place on h = absurd h

in_range_all : (bs : List Bool) (r : Refusal) (at : ℕ) (on : Reading) → T (all_of bs) → in_range bs r at on ≡ on
unfolding in_range all_of
in_range_all [] r at on h = refl
in_range_all (b ∷ bs) r at on h = demand_yes b r at _ (and_left b (all_of bs) h) ∙ in_range_all bs r (suc at) on (and_right b (all_of bs) h)

-- a record that stands at the place is found there
module _ {f : List ℕ} {at : ℕ} (a b : ℕ) (body : List ℕ) (h : At f at (a ∷ b ∷ body)) where
  mark_found : (n : ℕ) (on : Reading) → length body ≡ n → marked f at a b n on ≡ on
  unfolding marked
  mark_found n on e =
      let fit = at_fits h in
      let first_byte = at_byte h 0 (omega arith) in
      let second-byte = at_byte h 1 (omega arith) in
      let z : at + 0 ≡ at = omega arith in
      demand_yes (leb (at + 2 + n) (length f)) InputEnds at _ (le→leb (at + 2 + n) (length f) (omega arith))
      ∙ demand_yes (eqb (byte_at f at) a && eqb (byte_at f (at + 1)) b) OtherMark at on
      (and_both (eqb (byte_at f at) a) (eqb (byte_at f (at + 1)) b) (eq→eqb (ap (byte_at f) (sym z) ∙ first_byte)) (eq→eqb second-byte))

-- ---- n records: `counted k` stores and the program `so_far k` once k of them are read
module _ {f : List ℕ} (one : ℕ → ℕ → ℕ → Program → Reading) (bytes : ℕ → List ℕ) (counted : ℕ → ℕ) (so_far : ℕ → Program) (n : ℕ)
    (reads : (k at : ℕ) → k < n → At f at (bytes k) → one k at (counted k) (so_far k) ≡ reading (at + length (bytes k)) (counted (suc k)) (so_far (suc k))) where
  read_rest : (m k at : ℕ) → k + m ≡ n → At f at (each_record bytes m k)
      → read_each one m k (reading at (counted k) (so_far k)) ≡ reading (at + length (each_record bytes m k)) (counted n) (so_far n)
  unfolding read_each each_record
  read_rest zero k at e h =
      let q : k ≡ n = omega arith in
      let a : at ≡ at + 0 = omega arith in
      λ j. reading (a j) (counted (q j)) (so_far (q j))
  read_rest (suc m) k at e h =
      let rest = each_record bytes m (suc k) in
      let l = length-append (bytes k) rest in
      let a : at + length (bytes k) + length rest ≡ at + length (bytes k ++ rest) = omega arith in
      ap (read_each one m (suc k)) (reads k at (omega arith) (at_first (bytes k) rest h))
      ∙ read_rest m (suc k) (at + length (bytes k)) (omega arith) (at_second (bytes k) rest h)
      ∙ (λ j. reading (a j) (counted n) (so_far n))

  read_each_lem : (at : ℕ) → At f at (each_record bytes n 0) → read_each one n 0 (reading at (counted 0) (so_far 0)) ≡ reading (at + length (each_record bytes n 0)) (counted n) (so_far n)
  read_each_lem at h = read_rest n 0 at (omega arith) h

-- ---- instructions
instruction_found : {f : List ℕ} {at : ℕ} (x : Instruction) → At f at (instruction_record x) → instruction_of f at ≡ x
instruction_found {f} {at} x h =
    let b2 = at_byte h 2 (omega arith) in
    let b3 = at_byte h 3 (omega arith) in
    let b4 = at_byte h 4 (omega arith) in
    let b5 = at_byte h 5 (omega arith) in
    let b6 = at_byte h 6 (omega arith) in
    let b7 = at_byte h 7 (omega arith) in
    let b8 = at_byte h 8 (omega arith) in
    λ i. record { op = b2 i; m = b3 i; r = b4 i; k1 = b5 i; n1 = b6 i; k2 = b7 i; n2 = b8 i }

read_instruction_lem : {f : List ℕ} (i k at s : ℕ) (p : Program) (x : Instruction) → At f at (instruction_record x) → T (instruction_test (code_of p i).count k x) → s + one_store x ≤ 16
    → read_instruction f i k at s p ≡ reading (at + 9) (s + one_store x) (with_instruction i k x p)
unfolding read_instruction instruction_test
read_instruction_lem {f} i k at s p x h t few =
    ap (λ (y : Instruction).
    marked f at 0x49 0x4E 7 (in_range (instruction_tests (code_of p i).count k y) InstructionByte (at + 2) (demand (leb (s + one_store y) 16) StoreCount (at + 2) (reading (at + 9) (s + one_store y) (with_instruction i k y p)))))
    (instruction_found x h)
    ∙ mark_found 0x49 0x4E (x.op ∷ x.m ∷ x.r ∷ x.k1 ∷ x.n1 ∷ x.k2 ∷ x.n2 ∷ []) h 7 _ refl
    ∙ in_range_all (instruction_tests (code_of p i).count k x) InstructionByte (at + 2) _ t
    ∙ demand_yes (leb (s + one_store x) 16) StoreCount (at + 2) _ (le→leb (s + one_store x) 16 few)

-- ---- the program, read up to a place
module _ (p : Program) (o : ProgramShape p) where
  -- the threads before i
  abbrev before : ℕ → Program
  before i = record { version = p.version; threads = p.threads; codes = first no_code i p.codes; conditions = 0; question = replicate 8 no_condition }

  -- and k instructions of thread i
  abbrev within : ℕ → ℕ → Program
  within i k = record {
    version = p.version;
    threads = p.threads;
    codes = set (first no_code i p.codes) i (record { count = (code_of p i).count; instructions = first no_instruction k (code_of p i).instructions });
    conditions = 0;
    question = replicate 8 no_condition;
  }

  -- and k conditions, after all threads
  abbrev asking : ℕ → Program
  asking k = record { version = p.version; threads = p.threads; codes = p.codes; conditions = p.conditions; question = first no_condition k p.question }

  module _ (i : ℕ) (low : i < 4) where
    room : i < length (first no_code i p.codes)
    room = let a = first_length no_code i p.codes in let b = o.four in omega arith

    code_within : (k : ℕ) → code_of (within i k) i ≡ record { count = (code_of p i).count; instructions = first no_instruction k (code_of p i).instructions }
    unfolding code_of
    code_within k = get_or-set_same (first no_code i p.codes) i _ no_code room

    -- the instructions that are not yet read are 0
    starts : with_code i (record { count = (code_of p i).count; instructions = (code_of (before i) i).instructions }) (before i) ≡ within i 0
    unfolding code_of
    starts =
        ap (λ (l : List Instruction). with_code i (record { count = (code_of p i).count; instructions = l }) (before i))
        (ap (λ (c : Code). c.instructions) (first_at no_code i i p.codes (le_refl i))
        ∙ sym (first_none no_instruction (code_of p i).instructions ∙ ap (λ (n : ℕ). replicate n no_instruction) (o.codes_ok i low).places))

    goes_on : (k : ℕ) → k < 16 → with_instruction i k (instruction_at (code_of p i) k) (within i k) ≡ within i (suc k)
    goes_on k h =
        ap (λ (c : Code). with_code i (record { count = c.count; instructions = set c.instructions k (instruction_at (code_of p i) k) }) (within i k)) (code_within k)
        ∙ ap (λ (l : List Code). record { version = p.version; threads = p.threads; codes = l; conditions = 0; question = replicate 8 no_condition })
        (set-set (first no_code i p.codes) i _ _
        ∙ ap (λ (l : List Instruction). set (first no_code i p.codes) i (record { count = (code_of p i).count; instructions = l }))
        (first_next no_instruction k (code_of p i).instructions (let q = (o.codes_ok i low).places in omega arith)))

    ends : within i (code_of p i).count ≡ before (suc i)
    unfolding code_of
    ends =
        let c = o.codes_ok i low in
        ap (λ (l : List Code). record { version = p.version; threads = p.threads; codes = l; conditions = 0; question = replicate 8 no_condition })
        (ap (λ (l : List Instruction). set (first no_code i p.codes) i (record { count = (code_of p i).count; instructions = l }))
        (first_all no_instruction (code_of p i).count (code_of p i).instructions (λ j a b. c.unused j a (let q = c.places in omega arith)))
        ∙ first_next no_code i p.codes (let q = o.four in omega arith))

  -- ---- a thread
  module _ (f : List ℕ) (i : ℕ) (low : i < 4) where
    abbrev c : Code
    c = code_of p i

    next_instruction : (k at s : ℕ) → k < c.count → At f at (instruction_record (instruction_at c k)) → s + stores_among c 0 c.count ≤ 16
        → read_instruction f i k at (s + stores_among c 0 k) (within i k) ≡ reading (at + 9) (s + stores_among c 0 (suc k)) (within i (suc k))
    next_instruction k at s kc here few =
        let x = instruction_at c k in
        let short = (o.codes_ok i low).short in
        let counts = ap (λ (d : Code). d.count) (code_within i low k) in
        let t : T (instruction_test (code_of (within i k) i).count k x) = subst (λ (m : ℕ). T (instruction_test m k x)) (sym counts) ((o.codes_ok i low).in_range_lem k kc) in
        let one = stores_next c k in
        let g = stores_grow c (suc k) c.count kc in
        let e : s + stores_among c 0 k + one_store x ≡ s + stores_among c 0 (suc k) = omega arith in
        read_instruction_lem i k at (s + stores_among c 0 k) (within i k) x here t (omega arith) ∙ (λ j. reading (at + 9) (e j) (goes_on i low k (omega arith) j))

    read_thread_lem : (at s : ℕ) → At f at (thread_record i c) → s + stores_from c 0 ≤ 16 → read_thread f i at s (before i) ≡ reading (at + length (thread_record i c)) (s + stores_from c 0) (before (suc i))
    unfolding read_thread stores_from stores_among
    read_thread_lem at s h few =
        let head : List ℕ = 0x54 ∷ 0x48 ∷ i ∷ c.count ∷ [] in
        let here = at_first head (instruction_records c) h in
        let rest = at_second head (instruction_records c) h in
        let short = (o.codes_ok i low).short in
        let b2 = at_byte here 2 (omega arith) in
        let b3 = at_byte here 3 (omega arith) in
        let z : c.count - 0 ≡ c.count = omega arith in
        let s0 : s ≡ s + 0 = omega arith in
        let few' : s + stores_among c 0 c.count ≤ 16 = subst (λ (n : ℕ). s + stores_among c 0 n ≤ 16) z few in
        let l = length-append head (instruction_records c) in
        let a1 : at + 4 + length (instruction_records c) ≡ at + length (thread_record i c) = omega arith in
        let s1 : s + stores_among c 0 c.count ≡ s + stores_among c 0 (c.count - 0) = ap (λ (n : ℕ). s + stores_among c 0 n) (sym z) in
        mark_found 0x54 0x48 (i ∷ c.count ∷ []) here 2 _ refl
        ∙ demand_yes (eqb (byte_at f (at + 2)) i) ThreadNumber (at + 2) _ (eq→eqb b2)
        ∙ ap (λ (n : ℕ). demand (leb n 16) InstructionCount (at + 3) (read_each (read_instruction f i) n 0 (reading (at + 4) s (with_code i (record { count = n; instructions = (code_of (before i) i).instructions }) (before i))))) b3
        ∙ demand_yes (leb c.count 16) InstructionCount (at + 3) _ (le→leb c.count 16 short)
        ∙ ap (λ (q : Program). read_each (read_instruction f i) c.count 0 (reading (at + 4) s q)) (starts i low)
        ∙ ap (λ (t : ℕ). read_each (read_instruction f i) c.count 0 (reading (at + 4) t (within i 0))) s0
        ∙ read_each_lem (read_instruction f i) _ (λ k. s + stores_among c 0 k) (within i) c.count (λ k a l b. next_instruction k a s l b few') (at + 4) rest
        ∙ (λ j. reading (a1 j) (s1 j) (ends i low j))

  -- ---- all threads
  -- the stores of the threads before i
  abbrev stores_before : ℕ → ℕ
  stores_before i = sum_below (λ j. stores_from (code_of p j) 0) i

  stores_so_far : (i : ℕ) → i < p.threads → stores_before i + stores_from (code_of p i) 0 ≤ 16
  unfolding stores sum_below
  stores_so_far i h =
      let g = sum_grows (λ j. stores_from (code_of p j) 0) (suc i) (p.threads - suc i) in
      let e : suc i + (p.threads - suc i) ≡ p.threads = omega arith in
      let g' = subst (λ (n : ℕ). stores_before (suc i) ≤ stores_before n) e g in
      let few = o.few_stores in
      omega arith

  module _ (f : List ℕ) where
    read_threads : (at : ℕ) → At f at (thread_records p) → read_each (read_thread f) p.threads 0 (reading at 0 (before 0)) ≡ reading (at + length (thread_records p)) (stores_before p.threads) (before p.threads)
    unfolding sum_below
    read_threads = read_each_lem (read_thread f) _ stores_before before p.threads (λ i at l h. let few = o.few_threads in read_thread_lem f i (omega arith) at (stores_before i) h (stores_so_far i l))

    -- ---- the question
    condition_found : {at : ℕ} (x : Condition) → At f at (condition_record x) → condition_of f at ≡ x
    condition_found {at} x h =
        let b2 = at_byte h 2 (omega arith) in
        let b3 = at_byte h 3 (omega arith) in
        let b4 = at_byte h 4 (omega arith) in
        let b5 = at_byte h 5 (omega arith) in
        λ i. record { kind = b2 i; thread = b3 i; index = b4 i; value = b5 i }

    abbrev condition : ℕ → Condition
    condition k = get_or p.question k no_condition

    read_condition_lem : (k at s : ℕ) → k < p.conditions → At f at (condition_record (condition k)) → read_condition f k at s (asking k) ≡ reading (at + 6) s (asking (suc k))
    unfolding read_condition condition_test
    read_condition_lem k at s h a =
        let x = condition k in
        let c8 = o.few_conditions in
        let q8 = o.eight in
        ap (λ (y : Condition). marked f at 0x43 0x4E 4 (in_range (condition_tests p.threads y) ConditionByte (at + 2) (reading (at + 6) s (with_question p.conditions (set (first no_condition k p.question) k y) (asking k))))) (condition_found x a)
        ∙ mark_found 0x43 0x4E (x.kind ∷ x.thread ∷ x.index ∷ x.value ∷ []) a 4 _ refl
        ∙ in_range_all (condition_tests p.threads x) ConditionByte (at + 2) _ (o.conditions_ok k h)
        ∙ ap (λ (l : List Condition). reading (at + 6) s (with_question p.conditions l (asking k))) (first_next no_condition k p.question (omega arith))

    -- after all threads, the codes are there; no condition is
    all_codes : with_question p.conditions (replicate 8 no_condition) (before p.threads) ≡ asking 0
    unfolding code_of
    all_codes =
        let idle : (j : ℕ) → p.threads ≤ j → j < length p.codes → get_or p.codes j no_code ≡ no_code = λ j a b. idle_code j a (let q = o.four in omega arith) in
        (λ j. record { version = p.version; threads = p.threads; codes = first_all no_code p.threads p.codes idle j; conditions = p.conditions; question = (sym (first_none no_condition p.question ∙ ap (λ (n : ℕ). replicate n no_condition) o.eight)) j })
      where
        idle_code : (j : ℕ) → p.threads ≤ j → j < 4 → get_or p.codes j no_code ≡ no_code
        idle_code j a b =
            let c = o.codes_ok j b in
            let n = o.idle j a b in
            let l : (code_of p j).instructions ≡ replicate 16 no_instruction =
            sym (first_all no_instruction 0 (code_of p j).instructions (λ k u v. c.unused k (omega arith) (let q = c.places in omega arith)))
            ∙ first_none no_instruction (code_of p j).instructions ∙ ap (λ (m : ℕ). replicate m no_instruction) c.places in
            λ i. record { count = n i; instructions = l i }

    read_question_lem : (at s : ℕ) → At f at (question_records p) → read_question f (reading at s (before p.threads)) ≡ reading (at + length (question_records p)) s (asking p.conditions)
    unfolding read_question
    read_question_lem at s h =
        let head : List ℕ = 0x51 ∷ 0x55 ∷ p.conditions ∷ [] in
        let here = at_first head (condition_records p) h in
        let rest = at_second head (condition_records p) h in
        let b2 = at_byte here 2 (omega arith) in
        let l = length-append head (condition_records p) in
        let a1 : at + 3 + length (condition_records p) ≡ at + length (question_records p) = omega arith in
        mark_found 0x51 0x55 (p.conditions ∷ []) here 1 _ refl
        ∙ ap (λ (n : ℕ). demand (leb n 8) ConditionByte (at + 2) (read_each (read_condition f) n 0 (reading (at + 3) s (with_question n (replicate 8 no_condition) (before p.threads))))) b2
        ∙ demand_yes (leb p.conditions 8) ConditionByte (at + 2) _ (le→leb p.conditions 8 o.few_conditions)
        ∙ ap (λ (q : Program). read_each (read_condition f) p.conditions 0 (reading (at + 3) s q)) all_codes
        ∙ read_each_lem (read_condition f) _ (λ k. s) asking p.conditions (λ k a l b. read_condition_lem k a s l b) (at + 3) rest
        ∙ (λ j. reading (a1 j) s (asking p.conditions))

    all_read : asking p.conditions ≡ p
    all_read = λ j. record { version = p.version; threads = p.threads; codes = p.codes; conditions = p.conditions; question = first_all no_condition p.conditions p.question (λ k a b. o.unused_conditions k a (let q = o.eight in omega arith)) j }

  -- ---- the file
  read_header_lem : (f : List ℕ) → At f 0 (0x50 ∷ 0x47 ∷ p.version ∷ p.threads ∷ []) → read_header f ≡ reading 4 0 (before 0)
  unfolding read_header
  read_header_lem f h =
      let b2 = at_byte h 2 (omega arith) in
      let b3 = at_byte h 3 (omega arith) in
      let v = o.version_1 in
      let lo = o.some_thread in
      let hi = o.few_threads in
      mark_found 0x50 0x47 (p.version ∷ p.threads ∷ []) h 2 _ refl
      ∙ ap₂ (λ (x n : ℕ). demand (eqb x 1) OtherVersion 2 (demand (leb 1 n && leb n 4) ThreadCount 3 (reading 4 0 (with_header x n no_program)))) b2 b3
      ∙ demand_yes (eqb p.version 1) OtherVersion 2 _ (eq→eqb v)
      ∙ demand_yes (leb 1 p.threads && leb p.threads 4) ThreadCount 3 _ (and_both (leb 1 p.threads) (leb p.threads 4) (le→leb 1 p.threads lo) (le→leb p.threads 4 hi))
      ∙ ap (λ (l : List Code). reading 4 0 (record { version = p.version; threads = p.threads; codes = l; conditions = 0; question = replicate 8 no_condition }))
      (sym (first_none no_code p.codes ∙ ap (λ (n : ℕ). replicate n no_code) o.four))

-- EVERY WELL-FORMED PROGRAM IS READ BACK FROM ITS FILE
pub read_back : (p : Program) → T (program_test p) → read_file (file_of p) ≡ program p
unfolding read_file read_body read_end file_of sum_below
read_back p h =
    ap (λ (x : Reading). read_end f (read_question f (read_body f x))) (read_header_lem p o f (at_first head body whole))
    ∙ ap (λ (x : Reading). read_end f (read_question f x)) (read_threads p o f 4 (at_first threads (question_records p) behind))
    ∙ ap (read_end f) (read_question_lem p o f (4 + length threads) (stores_before p o p.threads) (at_second threads (question_records p) behind))
    ∙ ap (λ (b : Bool). cond b (program (asking p o p.conditions)) (refused BytesFollow (4 + length threads + length (question_records p)))) (eq-eqb (4 + length threads + length (question_records p)) (length f) ends_there)
    ∙ ap program (all_read p o f)
  where
    o : ProgramShape p
    o = (program_iff p).0 h

    head : List ℕ
    head = 0x50 ∷ 0x47 ∷ p.version ∷ p.threads ∷ []

    threads : List ℕ
    threads = thread_records p

    body : List ℕ
    body = threads ++ question_records p

    f : List ℕ
    f = file_of p

    whole : At f 0 (head ++ body)
    whole = record { before = []; after = []; is = sym (append-nil (head ++ body)); place = refl }

    behind : At f 4 body
    behind = at_second head body whole

    ends_there : 4 + length threads + length (question_records p) ≡ length f
    ends_there = let l = length-append threads (question_records p) in omega arith
