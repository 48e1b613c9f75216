-- The cases of a reading, over plain values: what each test of a record makes of it.
-- Assumes nothing.
use mathlib.Core.Path.{◌≡◌, refl, sym, ap, ◌∙◌}
use mathlib.Core.Bool.{Bool, true, false, cond, not, ◌&&◌}
use mathlib.Core.List.{List, [], ◌∷◌}
use Prim.Native.Nat.{ℕ, suc, ◌+◌, ◌-◌, ◌≤◌, ◌<◌}
use native.Mathlib.Nat.{add-zero}
use native.Mathlib.Omega.{arith}
use lib.Dec.{eqb, leb}
use lib.ListN.{length, set}
use borrow.Author.Tests.{eq-eqb, ne_eqb, le-leb, lt-leb, leb-true, eqb-false}
use Rattle.std.specs.Prelude.{Option, Some, None, Result, Ok, Err, is_some, is_none, option_map}
use Rattle.program.specs.Tests.{all_of}
use Rattle.program.specs.Program.{Instruction, Code, Condition, Program, no_program, code_of}
use Rattle.program.specs.Counts.{one_store}
use Rattle.program.specs.WellFormed.{instruction_tests, condition_tests}
use Rattle.program.specs.Refusals.{Refusal, Refused, InputEnds, OtherMark, OtherVersion, ThreadCount, InstructionCount, InstructionByte, StoreCount, ConditionByte, ThreadNumber}
use Rattle.program.specs.File.{Reading, stopped, reading, byte_at, demand, marked, in_range, with_header, with_code, with_instruction, with_question, instruction_of, condition_of, read_header, read_each, read_instruction, read_thread, read_condition, read_question}
use Rattle.program.specs.Inner.{after, first_failing}

-- ---- a record's start
module _ (f : List ℕ) (at first second n : ℕ) (on : Reading) (in-file : at ≤ length f) where
  pub marked_short : length f - at < 2 + n → marked f at first second n on ≡ stopped InputEnds at
  unfolding marked
  marked_short h = rw (lt-leb (at + 2 + n) (length f) (omega arith))

  module _ (h : 2 + n ≤ length f - at) where
    pub marked_other : (eqb (byte_at f at) first && eqb (byte_at f (at + 1)) second) ≡ false → marked f at first second n on ≡ stopped OtherMark at
    unfolding marked
    marked_other e = rw (le-leb (at + 2 + n) (length f) (omega arith), e)

    pub marked_right : (eqb (byte_at f at) first && eqb (byte_at f (at + 1)) second) ≡ true → marked f at first second n on ≡ on
    unfolding marked
    marked_right e = rw (le-leb (at + 2 + n) (length f) (omega arith), e)

-- r is what is wrong at a record's start, if anything
abbrev pub Fault : List ℕ → ℕ → ℕ → ℕ → ℕ → Result Unit Refused → Type 0
Fault f at first second n r = (on : Reading) → marked f at first second n on ≡ after r on

-- the record is there with its body
pub mark_fits : (f : List ℕ) (at first second n : ℕ) {u : Unit} → Fault f at first second n (Ok u) → at + 2 + n ≤ length f
unfolding marked
mark_fits f at first second n e = go (leb (at + 2 + n) (length f)) refl (eqb (byte_at f at) first && eqb (byte_at f (at + 1)) second) (e (reading 0 0 no_program))
  where
    go : (b : Bool) → leb (at + 2 + n) (length f) ≡ b → (c : Bool)
        → demand b InputEnds at (demand c OtherMark at (reading 0 0 no_program)) ≡ reading 0 0 no_program → at + 2 + n ≤ length f
    go true q c k = leb-true _ _ q
    go false q c k = absurd (eqb-false 0 1 refl cc)

-- ---- a body's bytes: the first test that fails
-- on where no test fails, else stopped at the byte that fails
abbrev pub beyond : Option ℕ → Refusal → ℕ → Reading → Reading
beyond None r at on = on
beyond (Some bad) r at on = stopped r (at + bad)

pub in_range_lem : (bs : List Bool) (r : Refusal) (at : ℕ) (on : Reading) → in_range bs r at on ≡ beyond (first_failing bs) r at on
unfolding in_range first_failing
in_range_lem [] r at on = refl
in_range_lem (true ∷ bs) r at on = in_range_lem bs r (suc at) on ∙ go (first_failing bs)
  where
    go : (o : Option ℕ) → beyond o r (suc at) on ≡ beyond (option_map suc o) r at on
    go None = refl
    go (Some bad) = let e : suc at + bad ≡ at + suc bad = omega arith in ap (stopped r) e
in_range_lem (false ∷ bs) r at on = ap (stopped r) (sym (add-zero at))

-- none fails exactly where all pass
none_failing : (bs : List Bool) → is_none (first_failing bs) ≡ all_of bs
unfolding first_failing all_of
none_failing [] = refl
none_failing (true ∷ bs) = go (first_failing bs) ∙ none_failing bs
  where
    go : (o : Option ℕ) → is_none (option_map suc o) ≡ is_none o
    go None = refl
    go (Some bad) = refl
none_failing (false ∷ bs) = refl

none_by : (b : Bool) (o : Option ℕ) → is_some o ≡ not b → b ≡ is_none o
none_by true o e = rw e
none_by false o e = rw e

pub none_test : {b : Bool} {r : Option ℕ} (bs : List Bool) → is_some r ≡ not b → r ≡ first_failing bs → b ≡ all_of bs
none_test {b} {r} bs e q = none_by b r e ∙ (ap is_none q ∙ none_failing bs)

-- it is one of them
pub failing_within : (bs : List Bool) (bad : ℕ) → Some bad ≡ first_failing bs → bad < length bs
unfolding first_failing
failing_within [] bad e = absurd (eqb-false 0 1 refl cc)
failing_within (true ∷ bs) bad e = go (first_failing bs) (λ n. failing_within bs n) e
  where
    go : (o : Option ℕ) → ((n : ℕ) → Some n ≡ o → n < length bs) → Some bad ≡ option_map suc o → bad < suc (length bs)
    go None h d = absurd (eqb-false 0 1 refl cc)
    go (Some n) h d = let z : bad ≡ suc n = cc in let l = h n refl in omega arith
failing_within (false ∷ bs) bad e = let z : bad ≡ 0 = cc in omega arith

module _ (bs : List Bool) (r : Refusal) (at : ℕ) (on : Reading) where
  pub range_stops : {bad : ℕ} → Some bad ≡ first_failing bs → in_range bs r at on ≡ stopped r (at + bad)
  range_stops e = in_range_lem bs r at on ∙ rw (← e)

  pub range_goes : None ≡ first_failing bs → in_range bs r at on ≡ on
  range_goes e = in_range_lem bs r at on ∙ rw (← e)

-- ---- the program record
module _ (f : List ℕ) where
  pub header_fault : {e : Refused} → Fault f 0 0x50 0x47 2 (Err e) → read_header f ≡ stopped e.refusal e.place
  unfolding read_header
  header_fault m = m _

  module _ {u : Unit} (m : Fault f 0 0x50 0x47 2 (Ok u)) where
    pub header_3 : (byte_at f 2 ≡ 1 → ⊥) → read_header f ≡ stopped OtherVersion 2
    unfolding read_header
    header_3 v = m _ ∙ rw (ne_eqb _ _ v)

    module _ (v : byte_at f 2 ≡ 1) where
      pub header_4 : (leb 1 (byte_at f 3) && leb (byte_at f 3) 4) ≡ false → read_header f ≡ stopped ThreadCount 3
      unfolding read_header
      header_4 h = m _ ∙ rw (eq-eqb _ _ v, h)

      pub header_on : (leb 1 (byte_at f 3) && leb (byte_at f 3) 4) ≡ true → {q : Program} → q ≡ with_header (byte_at f 2) (byte_at f 3) no_program → read_header f ≡ reading 4 0 q
      unfolding read_header
      header_on h eq = m _ ∙ rw (eq-eqb _ _ v, h, eq)

-- ---- an instruction record
pub store_few : (x : Instruction) (o : ℕ) → o ≡ one_store x → o ≤ 1
unfolding one_store
store_few x o e = go (eqb x.op 2) e
  where
    go : (b : Bool) → o ≡ cond b 1 0 → o ≤ 1
    go true q = omega arith
    go false q = omega arith

module _ (f : List ℕ) (i k at s : ℕ) (p : Program) where
  pub instruction_fault : {e : Refused} → Fault f at 0x49 0x4E 7 (Err e) → read_instruction f i k at s p ≡ stopped e.refusal e.place
  unfolding read_instruction
  instruction_fault m = m _

  module _ {u : Unit} (m : Fault f at 0x49 0x4E 7 (Ok u)) {x : Instruction} (ex : x ≡ instruction_of f at) {c : Code} (ec : c ≡ code_of p i) where
    pub instruction_6 : {bad : ℕ} → Some bad ≡ first_failing (instruction_tests c.count k x) → read_instruction f i k at s p ≡ stopped InstructionByte (at + 2 + bad)
    unfolding read_instruction
    instruction_6 eb = m _ ∙ range_stops _ _ _ _ (rw (ec, ex) at eb)

    module _ (eb : None ≡ first_failing (instruction_tests c.count k x)) {o : ℕ} (eo : o ≡ one_store x) where
      good : None ≡ first_failing (instruction_tests (code_of p i).count k (instruction_of f at))
      good = rw (ec, ex) at eb

      store_is : o ≡ one_store (instruction_of f at)
      store_is = rw ex at eo

      pub instruction_7 : 16 < s + o → read_instruction f i k at s p ≡ stopped StoreCount (at + 2)
      unfolding read_instruction
      instruction_7 l = m _ ∙ (range_goes _ _ _ _ good ∙ rw (← store_is, lt-leb _ _ l))

      pub instruction_on : s + o ≤ 16 → {q : Program} → q ≡ with_instruction i k x p → read_instruction f i k at s p ≡ reading (at + 9) (s + o) q
      unfolding read_instruction
      instruction_on l eq = m _ ∙ (range_goes _ _ _ _ good ∙ rw (← store_is, le-leb _ _ l, eq, ex))

-- ---- a thread record
module _ (f : List ℕ) (i at s : ℕ) (p : Program) where
  pub thread_fault : {e : Refused} → Fault f at 0x54 0x48 2 (Err e) → read_thread f i at s p ≡ stopped e.refusal e.place
  unfolding read_thread
  thread_fault m = m _

  module _ {u : Unit} (m : Fault f at 0x54 0x48 2 (Ok u)) where
    pub thread_10 : (byte_at f (at + 2) ≡ i → ⊥) → read_thread f i at s p ≡ stopped ThreadNumber (at + 2)
    unfolding read_thread
    thread_10 h = m _ ∙ rw (ne_eqb _ _ h)

    module _ (h : byte_at f (at + 2) ≡ i) where
      pub thread_5 : 16 < byte_at f (at + 3) → read_thread f i at s p ≡ stopped InstructionCount (at + 3)
      unfolding read_thread
      thread_5 l = m _ ∙ rw (eq-eqb _ _ h, lt-leb _ _ l)

      pub thread_on : byte_at f (at + 3) ≤ 16 → {q : Program} → q ≡ with_code i (record { count = byte_at f (at + 3); instructions = (code_of p i).instructions }) p
          → read_thread f i at s p ≡ read_each (read_instruction f i) (byte_at f (at + 3)) 0 (reading (at + 4) s q)
      unfolding read_thread
      thread_on l eq = m _ ∙ rw (eq-eqb _ _ h, le-leb _ _ l, eq)

-- ---- a condition record
module _ (f : List ℕ) (k at s : ℕ) (p : Program) where
  pub condition_fault : {e : Refused} → Fault f at 0x43 0x4E 4 (Err e) → read_condition f k at s p ≡ stopped e.refusal e.place
  unfolding read_condition
  condition_fault m = m _

  module _ {u : Unit} (m : Fault f at 0x43 0x4E 4 (Ok u)) {x : Condition} (ex : x ≡ condition_of f at) where
    pub condition_8 : {bad : ℕ} → Some bad ≡ first_failing (condition_tests p.threads x) → read_condition f k at s p ≡ stopped ConditionByte (at + 2 + bad)
    unfolding read_condition
    condition_8 eb = m _ ∙ range_stops _ _ _ _ (rw ex at eb)

    pub condition_on : None ≡ first_failing (condition_tests p.threads x) → {q : Program} → q ≡ with_question p.conditions (set p.question k x) p → read_condition f k at s p ≡ reading (at + 6) s q
    unfolding read_condition
    condition_on eb eq =
        let good : None ≡ first_failing (condition_tests p.threads (condition_of f at)) = rw ex at eb in
        m _ ∙ (range_goes _ _ _ _ good ∙ rw (eq, ex))

-- ---- the question record
module _ (f : List ℕ) (at s : ℕ) (p : Program) where
  pub question_fault : {e : Refused} → Fault f at 0x51 0x55 1 (Err e) → read_question f (reading at s p) ≡ stopped e.refusal e.place
  unfolding read_question
  question_fault m = m _

  module _ {u : Unit} (m : Fault f at 0x51 0x55 1 (Ok u)) where
    pub question_8 : 8 < byte_at f (at + 2) → read_question f (reading at s p) ≡ stopped ConditionByte (at + 2)
    unfolding read_question
    question_8 h = m _ ∙ rw (lt-leb _ _ h)

    pub question_on : byte_at f (at + 2) ≤ 8 → {q : Program} → q ≡ with_question (byte_at f (at + 2)) p.question p
        → read_question f (reading at s p) ≡ read_each (read_condition f) (byte_at f (at + 2)) 0 (reading (at + 3) s q)
    unfolding read_question
    question_on h eq = m _ ∙ rw (le-leb _ _ h, eq)
