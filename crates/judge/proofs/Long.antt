-- A long file is refused as its first 648 bytes are: no record that could be read ends behind them.
-- Assumes nothing.
use mathlib.Core.Path.{◌≡◌, refl, sym, ap, ◌∙◌}
use mathlib.Core.Bool.{Bool, true, false}
use mathlib.Core.List.{List, ◌++◌}
use Prim.Native.Nat.{ℕ, suc, ◌+◌, ◌*◌, ◌≤◌, ◌<◌}
use native.Mathlib.Omega.{arith}
use lib.Dec.{leb, eqb}
use lib.ListN.{length, set, take, drop, length-append, get_or-append, take-append-drop}
use lib.Seq.{length-take-le}
use borrow.Author.Tests.{le-leb, leb-true, ne_eqb}
use Rattle.std.specs.Prelude.{Result}
use Rattle.search.specs.declared.Answer.{Answer}
use Rattle.search.specs.Answers.{answer_on, area_on, Searched}
use Rattle.program.specs.declared.Instruction.{Instruction}
use Rattle.program.specs.declared.Condition.{Condition}
use Rattle.program.specs.declared.Program.{Program}
use Rattle.program.specs.Program.{code_of}
use Rattle.program.specs.Counts.{one_store}
use Rattle.program.specs.WellFormed.{instruction_tests, condition_tests}
use Rattle.program.specs.File.{Reading, stopped, reading, FileAnswer, byte_at, demand, marked, in_range, read_header, instruction_of, with_instruction, read_instruction, read_thread, condition_of, with_question, read_condition, read_question, read_end, read_body, read_file}
use Rattle.program.specs.Inner.{IfReading}
use Rattle.program.proofs.Kept.{past_demand, past_mark, past_range, each_same}
use Rattle.program.proofs.ReadThreads.{Before, thread_read}
use Rattle.program.proofs.ReadFormed.{Headed, Threaded, Whole, header_read, body_read, question_read}
use Rattle.program.specs.declared.Refusal.{Refusal}
use Rattle.program.specs.declared.Refusal.TheVariants.{InstructionCount, InstructionByte, StoreCount, ConditionByte, ThreadNumber}
use Rattle.program.specs.declared.Refused.{Refused}

-- the reading has come to place n at most
abbrev Upto : ℕ → ℕ → ℕ → Program → Type 0
Upto n at s p = at ≤ n

demand_same : (b : Bool) (r : Refusal) (place : ℕ) (on other : Reading) → (b ≡ true → on ≡ other) → demand b r place on ≡ demand b r place other
demand_same true r place on other h = h refl
demand_same false r place on other h = refl

-- ---- f, and more behind it
module _ (f g : List ℕ) where
  byte_same : (at : ℕ) → at < length f → byte_at (f ++ g) at ≡ byte_at f at
  byte_same at h = get_or-append f g 0 at h

  marked_same : (at first second m : ℕ) (on other : Reading) → at + 2 + m ≤ length f → on ≡ other → marked (f ++ g) at first second m on ≡ marked f at first second m other
  unfolding marked
  marked_same at first second m on other h e =
      let l = length-append f g in
      rw (le-leb (at + 2 + m) (length (f ++ g)) (omega arith), le-leb (at + 2 + m) (length f) h, byte_same at (omega arith), byte_same (at + 1) (omega arith), e)

  -- ---- instructions: nine bytes each
  instruction_same : (at : ℕ) → at + 9 ≤ length f → instruction_of (f ++ g) at ≡ instruction_of f at
  instruction_same at h =
      rw (byte_same (at + 2) (omega arith), byte_same (at + 3) (omega arith), byte_same (at + 4) (omega arith), byte_same (at + 5) (omega arith), byte_same (at + 6) (omega arith), byte_same (at + 7) (omega arith), byte_same (at + 8) (omega arith))

  one_same : (i k at s : ℕ) (p : Program) → at + 9 ≤ length f → read_instruction (f ++ g) i k at s p ≡ read_instruction f i k at s p
  unfolding read_instruction
  one_same i k at s p h =
      marked_same at 0x49 0x4E 7 _ _ (omega arith)
      (ap (λ (x : Instruction).
      in_range (instruction_tests (code_of p i).count k x) InstructionByte (at + 2)
      (demand (leb (s + one_store x) 16) StoreCount (at + 2)
      (reading (at + 9) (s + one_store x) (with_instruction i k x p)))) (instruction_same at h))

  one_upto : (n i k at s : ℕ) (p : Program) → at + 9 ≤ n → IfReading (Upto n) (read_instruction f i k at s p)
  unfolding read_instruction
  one_upto n i k at s p h =
      past_mark (Upto n) f at 0x49 0x4E 7 _
      (λ l. past_range (Upto n) _ InstructionByte (at + 2) _
      (λ q. past_demand (Upto n) (leb (s + one_store (instruction_of f at)) 16) StoreCount (at + 2) _ (λ r. h)))

  -- ---- threads: four bytes and at most 16 instructions each
  thread_same : (i at s : ℕ) (p : Program) → at + 148 ≤ length f → read_thread (f ++ g) i at s p ≡ read_thread f i at s p
  unfolding read_thread
  thread_same i at s p h =
      marked_same at 0x54 0x48 2 _ _ (omega arith)
      (rw (byte_same (at + 2) (omega arith), byte_same (at + 3) (omega arith))
      (demand_same (eqb (byte_at f (at + 2)) i) ThreadNumber (at + 2) _ _
      (λ d. demand_same (leb (byte_at f (at + 3)) 16) InstructionCount (at + 3) _ _
      (λ e. let few = leb-true (byte_at f (at + 3)) 16 e in
      each_same (read_instruction f i) (λ k. Upto (at + 4 + 9 * k)) (byte_at f (at + 3)) (λ k a t q l u. one_upto (at + 4 + 9 * suc k) i k a t q (omega arith))
      (read_instruction (f ++ g) i) (λ k a t q l u. one_same i k a t q (omega arith)) _ (omega arith)))))

  -- ---- the header, and the threads that it says
  header_same : 4 ≤ length f → read_header (f ++ g) ≡ read_header f
  unfolding read_header
  header_same h = marked_same 0 0x50 0x47 2 _ _ (omega arith) (rw (byte_same 2 (omega arith), byte_same 3 (omega arith)))

  body_same : (x : Reading) → IfReading Headed x → 596 ≤ length f → read_body (f ++ g) x ≡ read_body f x
  unfolding read_body
  body_same (stopped r place) h l = refl
  body_same (reading at s p) h l =
      let N = p.threads in
      let few = h.1 in
      each_same (read_thread f) (Before N) N (λ i a t q b. thread_read N f i a t q (omega arith))
      (read_thread (f ++ g)) (λ i a t q b w. let u = w.place in thread_same i a t q (omega arith)) (reading at s p) h.2

  -- ---- the question: three bytes and at most eight conditions of six bytes
  asked_same : (at : ℕ) → at + 6 ≤ length f → condition_of (f ++ g) at ≡ condition_of f at
  asked_same at h = rw (byte_same (at + 2) (omega arith), byte_same (at + 3) (omega arith), byte_same (at + 4) (omega arith), byte_same (at + 5) (omega arith))

  condition_same : (k at s : ℕ) (p : Program) → at + 6 ≤ length f → read_condition (f ++ g) k at s p ≡ read_condition f k at s p
  unfolding read_condition
  condition_same k at s p h =
      marked_same at 0x43 0x4E 4 _ _ (omega arith)
      (ap (λ (x : Condition). in_range (condition_tests p.threads x) ConditionByte (at + 2) (reading (at + 6) s (with_question p.conditions (set p.question k x) p))) (asked_same at h))

  condition_upto : (n k at s : ℕ) (p : Program) → at + 6 ≤ n → IfReading (Upto n) (read_condition f k at s p)
  unfolding read_condition
  condition_upto n k at s p h = past_mark (Upto n) f at 0x43 0x4E 4 _ (λ l. past_range (Upto n) _ ConditionByte (at + 2) _ (λ q. h))

  question_same : (x : Reading) → IfReading Threaded x → 647 ≤ length f → read_question (f ++ g) x ≡ read_question f x
  unfolding read_question
  question_same (stopped r place) h l = refl
  question_same (reading at s p) h l =
      let few = h.2 in
      let u = h.3.place in
      marked_same at 0x51 0x55 1 _ _ (omega arith)
      (rw (byte_same (at + 2) (omega arith))
      (demand_same (leb (byte_at f (at + 2)) 8) ConditionByte (at + 2) _ _
      (λ e. let short = leb-true (byte_at f (at + 2)) 8 e in
      each_same (read_condition f) (λ k. Upto (at + 3 + 6 * k)) (byte_at f (at + 2)) (λ k a t q b v. condition_upto (at + 3 + 6 * suc k) k a t q (omega arith))
      (read_condition (f ++ g)) (λ k a t q b v. condition_same k a t q (omega arith)) _ (omega arith))))

  -- ---- the end: bytes are left over, with g or without
  end_same : (x : Reading) → IfReading Whole x → 647 < length f → read_end (f ++ g) x ≡ read_end f x
  unfolding read_end
  end_same (stopped r place) h l = refl
  end_same (reading at s p) h l = let u = h.1 in let n = length-append f g in rw (ne_eqb at (length (f ++ g)) (λ e. omega arith), ne_eqb at (length f) (λ e. omega arith))

  more_same : 647 < length f → read_file (f ++ g) ≡ read_file f
  unfolding read_file
  more_same l =
      let b = body_read f (read_header f) (header_read f) in
      ap (λ (x : Reading). read_end (f ++ g) (read_question (f ++ g) (read_body (f ++ g) x))) (header_same (omega arith))
      ∙ ap (λ (x : Reading). read_end (f ++ g) (read_question (f ++ g) x)) (body_same (read_header f) (header_read f) (omega arith))
      ∙ ap (read_end (f ++ g)) (question_same (read_body f (read_header f)) b (omega arith))
      ∙ end_same (read_question f (read_body f (read_header f))) (question_read f (read_body f (read_header f)) b) l

-- A LONG FILE HAS THE ANSWER OF ITS FIRST n BYTES, from 648 on
pub long_file : (f : List ℕ) (n : ℕ) → 647 < n → n ≤ length f → read_file (take n f) ≡ read_file f
long_file f n l h =
    let t = length-take-le n f h in
    sym (more_same (take n f) (drop n f) (omega arith)) ∙ ap read_file (take-append-drop n f)

-- so the search on its first n bytes answers what the rules say of the whole
pub long_answer : {f : List ℕ} {b : ℕ} {area after : List ℕ} {r : Result Answer Refused} (n : ℕ) → 647 < n → n ≤ length f → Searched (take n f) b area r after → Searched f b area r after
long_answer {f} {b} {area} {after} {r} n l h s =
    let e = long_file f n l h in
    record { answer = s.answer ∙ ap (λ (y : FileAnswer). answer_on y b area) e; lent = s.lent ∙ ap (λ (y : FileAnswer). area_on y b area) e }
