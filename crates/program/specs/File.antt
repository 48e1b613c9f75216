-- The program file, read from its first byte on, record by record. Each record begins with a mark of two bytes.
-- Assumes nothing.
use Rattle.std.specs.Prelude.{Bool, true, false, cond, ◌&&◌, List, [], ◌∷◌, ℕ, zero, suc, ◌+◌, eqb, leb, length, get_or, set}
use Rattle.program.specs.Program.{Instruction, Code, Condition, Program, no_program, code_of}
use Rattle.program.specs.Counts.{one_store}
use Rattle.program.specs.WellFormed.{instruction_tests, condition_tests}
use Rattle.program.specs.Refusals.{Refusal, InputEnds, OtherMark, OtherVersion, ThreadCount, InstructionCount, InstructionByte, StoreCount, ConditionByte, BytesFollow, ThreadNumber}

-- a program, or the refusal and its place
pub data FileAnswer : Type 0 where
  refused : Refusal → ℕ → FileAnswer
  program : Program → FileAnswer

-- how far the reading has come: the place of the next record, the stores read so far, the program so far; or a refusal, which ends it
pub data Reading : Type 0 where
  stopped : Refusal → ℕ → Reading
  reading : ℕ → ℕ → Program → Reading

-- the byte at a place
abbrev pub byte_at : List ℕ → ℕ → ℕ
byte_at f at = get_or f at 0

-- go on if the test passes, else stop with the refusal r at a place
abbrev pub demand : Bool → Refusal → ℕ → Reading → Reading
demand true r place on = on
demand false r place on = stopped r place

-- the record at a place is there with its n body bytes (else 1), and has its mark (else 2): the place of both is the record's first byte
unfoldable pub marked : List ℕ → ℕ → ℕ → ℕ → ℕ → Reading → Reading
marked f at first second n on =
    demand (leb (at + 2 + n) (length f)) InputEnds at
    (demand (eqb (byte_at f at) first && eqb (byte_at f (at + 1)) second) OtherMark at
    on)

-- the first test that fails stops with the refusal r, at the place of its byte; the first byte of the body is at `at`
unfoldable pub in_range : List Bool → Refusal → ℕ → Reading → Reading
in_range [] r at on = on
in_range (b ∷ bs) r at on = demand b r at (in_range bs r (suc at) on)

-- n records from number k on, each read by `one` from its number, the place, the stores and the program so far; a refusal ends it
unfoldable pub read_each : (ℕ → ℕ → ℕ → Program → Reading) → ℕ → ℕ → Reading → Reading
read_each one zero k x = x
read_each one (suc n) k (stopped r place) = stopped r place
read_each one (suc n) k (reading at s p) = read_each one n (suc k) (one k at s p)

-- ---- program record: 50 47, version 1 (else 3), threads 1..4 (else 4)
abbrev pub with_header : ℕ → ℕ → Program → Program
with_header v n p = record { version = v; threads = n; codes = p.codes; conditions = p.conditions; question = p.question }

unfoldable pub read_header : List ℕ → Reading
read_header f =
    let v = byte_at f 2 in
    let n = byte_at f 3 in
    marked f 0 0x50 0x47 2
    (demand (eqb v 1) OtherVersion 2
    (demand (leb 1 n && leb n 4) ThreadCount 3
    (reading 4 0 (with_header v n no_program))))

-- ---- instruction record: 49 4E, op, m, r, k1, n1, k2, n2 (6 at the first byte that is not in range, which for one that is not used is 0 alone); a 17th store: 7, at the op byte
abbrev pub instruction_of : List ℕ → ℕ → Instruction
instruction_of f at = record {
  op = byte_at f (at + 2);
  m = byte_at f (at + 3);
  r = byte_at f (at + 4);
  k1 = byte_at f (at + 5);
  n1 = byte_at f (at + 6);
  k2 = byte_at f (at + 7);
  n2 = byte_at f (at + 8);
}

abbrev pub with_code : ℕ → Code → Program → Program
with_code i c p = record { version = p.version; threads = p.threads; codes = set p.codes i c; conditions = p.conditions; question = p.question }

-- instruction k of thread i
abbrev pub with_instruction : ℕ → ℕ → Instruction → Program → Program
with_instruction i k x p = with_code i (record { count = (code_of p i).count; instructions = set (code_of p i).instructions k x }) p

unfoldable pub read_instruction : List ℕ → ℕ → ℕ → ℕ → ℕ → Program → Reading
read_instruction f i k at s p =
    let x = instruction_of f at in
    marked f at 0x49 0x4E 7
    (in_range (instruction_tests (code_of p i).count k x) InstructionByte (at + 2)
    (demand (leb (s + one_store x) 16) StoreCount (at + 2)
    (reading (at + 9) (s + one_store x) (with_instruction i k x p))))

-- ---- thread record: 54 48, number, which is the next (else 10), instructions 0..16 (else 5), which follow
unfoldable pub read_thread : List ℕ → ℕ → ℕ → ℕ → Program → Reading
read_thread f i at s p =
    let n = byte_at f (at + 3) in
    marked f at 0x54 0x48 2
    (demand (eqb (byte_at f (at + 2)) i) ThreadNumber (at + 2)
    (demand (leb n 16) InstructionCount (at + 3)
    (read_each (read_instruction f i) n 0 (reading (at + 4) s (with_code i (record { count = n; instructions = (code_of p i).instructions }) p)))))

-- ---- condition record: 43 4E, kind, thread, index, value (a byte out of range: 8)
abbrev pub condition_of : List ℕ → ℕ → Condition
condition_of f at = record { kind = byte_at f (at + 2); thread = byte_at f (at + 3); index = byte_at f (at + 4); value = byte_at f (at + 5) }

abbrev pub with_question : ℕ → List Condition → Program → Program
with_question n q p = record { version = p.version; threads = p.threads; codes = p.codes; conditions = n; question = q }

unfoldable pub read_condition : List ℕ → ℕ → ℕ → ℕ → Program → Reading
read_condition f k at s p =
    let x = condition_of f at in
    marked f at 0x43 0x4E 4
    (in_range (condition_tests p.threads x) ConditionByte (at + 2)
    (reading (at + 6) s (with_question p.conditions (set p.question k x) p)))

-- ---- question record: 51 55, conditions 0..8 (else 8), which follow
unfoldable pub read_question : List ℕ → Reading → Reading
read_question f (stopped r place) = stopped r place
read_question f (reading at s p) =
    let n = byte_at f (at + 2) in
    marked f at 0x51 0x55 1
    (demand (leb n 8) ConditionByte (at + 2)
    (read_each (read_condition f) n 0 (reading (at + 3) s (with_question n p.question p))))

-- ---- the end: bytes after the last condition are 9, at the first extra byte
unfoldable pub read_end : List ℕ → Reading → FileAnswer
read_end f (stopped r place) = refused r place
read_end f (reading at s p) = cond (eqb at (length f)) (program p) (refused BytesFollow at)

-- all threads of a program whose header is read
unfoldable pub read_body : List ℕ → Reading → Reading
read_body f (stopped r place) = stopped r place
read_body f (reading at s p) = read_each (read_thread f) p.threads 0 (reading at s p)

-- THE READING OF A FILE
unfoldable pub read_file : List ℕ → FileAnswer
read_file f = read_end f (read_question f (read_body f (read_header f)))
