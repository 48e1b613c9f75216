-- The cursor from record to record: what it stands for, that a reading stays within the file, and a loop over records.
-- Assumes nothing.
use mathlib.Core.Path.{◌≡◌, refl, sym, ap, subst, ◌∙◌}
use mathlib.Core.Bool.{◌&&◌}
use mathlib.Core.List.{List}
use Prim.Native.Nat.{ℕ, zero, suc, ◌+◌, ◌-◌, ◌≤◌, ◌<◌}
use native.Mathlib.Omega.{arith}
use lib.Dec.{eqb, leb, leb→le}
use lib.ListN.{length}
use borrow.Author.Tests.{eq-eqb, ne_eqb, eqb-false}
use Rattle.std.specs.Prelude.{Result, Ok, Err}
use Rattle.program.specs.declared.Program.{Program}
use Rattle.program.specs.Counts.{one_store}
use Rattle.program.specs.File.{refused, program, Reading, stopped, reading, byte_at, read_header, read_each, read_instruction, read_thread, read_body, read_condition, read_question, read_end, read_file, instruction_of}
use Rattle.program.specs.Answers.{file_read}
use Rattle.program.specs.Inner.{IfReading}
use Rattle.program.proofs.Tests.{and_right}
use Rattle.program.proofs.Kept.{past_demand, past_mark, past_range, each_keeps}
use Rattle.program.specs.declared.Refusal.{Refusal}
use Rattle.program.specs.declared.Refusal.TheVariants.{OtherVersion, ThreadCount, InstructionCount, InstructionByte, StoreCount, ConditionByte, BytesFollow, ThreadNumber}
use Rattle.program.specs.declared.Refused.{Refused}
use Rattle.file_cursor.specs.Cursors.{Cursor, cursor_of, reading_of, Inside, Standing}

-- ---- what an answer says of the reading that it stands for
pub refused_by : (x : Reading) (e : Refused) → Err e ≡ cursor_of x → x ≡ stopped e.refusal e.place
refused_by (stopped r place) e q = let z : e ≡ record { refusal = r; place = place } = cc in ap (λ (y : Refused). stopped y.refusal y.place) (sym z)
refused_by (reading at s p) e q = absurd (eqb-false 0 1 refl cc)

pub goes_by : (x : Reading) (c : Cursor) → Ok c ≡ cursor_of x → x ≡ reading_of c
goes_by (stopped r place) c q = absurd (eqb-false 0 1 refl cc)
goes_by (reading at s p) c q = let z : c ≡ record { at = at; stores = s; program = p } = cc in ap reading_of (sym z)

-- it stands for any reading that is the same
pub as_read : {r : Result Cursor Refused} {x y : Reading} → r ≡ cursor_of x → y ≡ x → r ≡ cursor_of y
as_read e q = e ∙ ap cursor_of (sym q)

-- ---- a loop: n records by the step for one
-- where a loop stands: the readings ahead of it are those that were ahead at its start
pub record Ahead (f : List ℕ) (step : ℕ → ℕ → ℕ → Program → Reading) (n : ℕ) (start : Cursor) (k : ℕ) (c : Cursor) : Type 0 where
  pub bound : k ≤ n
  pub inside : Standing f c
  pub rest : read_each step n 0 (reading_of start) ≡ read_each step (n - k) k (reading_of c)

module _ (f : List ℕ) (step : ℕ → ℕ → ℕ → Program → Reading) where
  -- each step stays within the file
  abbrev pub Keeps : Type 0
  Keeps = (k at s : ℕ) (p : Program) → Inside f at s p → IfReading (Inside f) (step k at s p)

  each_stopped : (n k : ℕ) (r : Refusal) (place : ℕ) → read_each step n k (stopped r place) ≡ stopped r place
  unfolding read_each
  each_stopped zero k r place = refl
  each_stopped (suc n) k r place = refl

  pub within_each : Keeps → (n : ℕ) (x : Reading) → IfReading (Inside f) x → IfReading (Inside f) (read_each step n 0 x)
  within_each h n = each_keeps step (λ k. Inside f) n (λ k at s p l. h k at s p) (Inside f) (λ at s p w. w)

  module _ (n : ℕ) where
    pub ahead_start : (c : Cursor) → Standing f c → Ahead f step n c 0 c
    ahead_start c h =
        let e : n ≡ n - 0 = omega arith in
        record { bound = omega arith; inside = h; rest = ap (λ (m : ℕ). read_each step m 0 (reading_of c)) e }

    module _ (start : Cursor) (k : ℕ) (c : Cursor) (a : Ahead f step n start k c) where
      pub ahead_end : n ≤ k → Ok c ≡ cursor_of (read_each step n 0 (reading_of start))
      unfolding read_each
      ahead_end h =
          let e : n - k ≡ 0 = omega arith in
          as_read refl (a.rest ∙ ap (λ (m : ℕ). read_each step m k (reading_of c)) e)

      turned : k < n → read_each step n 0 (reading_of start) ≡ read_each step (n - (k + 1)) (k + 1) (step k c.at c.stores c.program)
      unfolding read_each
      turned l =
          let m : n - k ≡ suc (n - (k + 1)) = omega arith in
          let j : suc k ≡ k + 1 = omega arith in
          a.rest
          ∙ (ap (λ (t : ℕ). read_each step t k (reading_of c)) m
          ∙ ap (λ (t : ℕ). read_each step (n - (k + 1)) t (step k c.at c.stores c.program)) j)

      pub ahead_stops : k < n → (e : Refused) → Err e ≡ cursor_of (step k c.at c.stores c.program) → Err e ≡ cursor_of (read_each step n 0 (reading_of start))
      ahead_stops l e q =
          as_read refl (turned l ∙ (ap (read_each step (n - (k + 1)) (k + 1)) (refused_by _ e q) ∙ each_stopped (n - (k + 1)) (k + 1) e.refusal e.place))

      pub ahead_turn : Keeps → k < n → (d : Cursor) → Ok d ≡ cursor_of (step k c.at c.stores c.program) → Ahead f step n start (k + 1) d
      ahead_turn h l d q =
          let z = goes_by _ d q in
          record {
            bound = omega arith;
            inside = subst (IfReading (Inside f)) z (h k c.at c.stores c.program a.inside);
            rest = turned l ∙ ap (read_each step (n - (k + 1)) (k + 1)) z;
          }

-- ---- each record keeps within the file
module _ (f : List ℕ) where
  pub header_within : IfReading (Inside f) (read_header f)
  unfolding read_header
  header_within =
      let v = byte_at f 2 in
      let n = byte_at f 3 in
      past_mark (Inside f) f 0 0x50 0x47 2 _
      (λ l. past_demand (Inside f) (eqb v 1) OtherVersion 2 _
      (λ q. past_demand (Inside f) (leb 1 n && leb n 4) ThreadCount 3 _
      (λ r. record { place = omega arith; stores = omega arith; threads = leb→le n 4 (and_right (leb 1 n) (leb n 4) r) })))

  pub instruction_within : (i : ℕ) → Keeps f (read_instruction f i)
  unfolding read_instruction
  instruction_within i k at s p h =
      let t = s + one_store (instruction_of f at) in
      past_mark (Inside f) f at 0x49 0x4E 7 _
      (λ l. past_range (Inside f) _ InstructionByte (at + 2) _
      (λ q. past_demand (Inside f) (leb t 16) StoreCount (at + 2) _
      (λ r. record { place = omega arith; stores = leb→le t 16 r; threads = h.threads })))

  pub thread_within : Keeps f (read_thread f)
  unfolding read_thread
  thread_within i at s p h =
      let n = byte_at f (at + 3) in
      past_mark (Inside f) f at 0x54 0x48 2 _
      (λ l. past_demand (Inside f) (eqb (byte_at f (at + 2)) i) ThreadNumber (at + 2) _
      (λ q. past_demand (Inside f) (leb n 16) InstructionCount (at + 3) _
      (λ r. within_each f (read_instruction f i) (instruction_within i) n _ (record { place = omega arith; stores = h.stores; threads = h.threads }))))

  pub condition_within : Keeps f (read_condition f)
  unfolding read_condition
  condition_within k at s p h =
      past_mark (Inside f) f at 0x43 0x4E 4 _
      (λ l. past_range (Inside f) _ ConditionByte (at + 2) _ (λ q. record { place = omega arith; stores = h.stores; threads = h.threads }))

  pub body_within : (c : Cursor) → Standing f c → IfReading (Inside f) (read_body f (reading_of c))
  unfolding read_body
  body_within c w = within_each f (read_thread f) thread_within c.program.threads (reading_of c) w

-- ---- the end, and the whole
module _ (f : List ℕ) (c : Cursor) where
  pub end_good : c.at ≡ length f → read_end f (reading_of c) ≡ program c.program
  unfolding read_end
  end_good h = rw (eq-eqb _ _ h)

  pub end_9 : (c.at ≡ length f → ⊥) → read_end f (reading_of c) ≡ refused BytesFollow c.at
  unfolding read_end
  end_9 h = rw (ne_eqb _ _ h)

-- a part that goes on from a cursor is within the file if it keeps within
pub onward : (f : List ℕ) (x : Reading) (c : Cursor) → Ok c ≡ cursor_of x → IfReading (Inside f) x → Standing f c
onward f x c e w = subst (IfReading (Inside f)) (goes_by x c e) w

-- a part that is refused ends the reading with its refusal
module _ (f : List ℕ) where
  pub header_ends : (e : Refused) → Err e ≡ cursor_of (read_header f) → file_read (read_file f) ≡ Err e
  unfolding read_file read_question read_body read_end
  header_ends e q = ap (λ (x : Reading). file_read (read_end f (read_question f (read_body f x)))) (refused_by _ e q)

  module _ (h : Cursor) (eh : Ok h ≡ cursor_of (read_header f)) where
    pub body_ends : (e : Refused) → Err e ≡ cursor_of (read_body f (reading_of h)) → file_read (read_file f) ≡ Err e
    unfolding read_file read_question read_end
    body_ends e q = ap (λ (x : Reading). file_read (read_end f (read_question f x))) (ap (read_body f) (goes_by _ h eh) ∙ refused_by _ e q)

    module _ (b : Cursor) (eb : Ok b ≡ cursor_of (read_body f (reading_of h))) where
      asked : read_question f (read_body f (read_header f)) ≡ read_question f (reading_of b)
      asked = ap (read_question f) (ap (read_body f) (goes_by _ h eh) ∙ goes_by _ b eb)

      pub question_ends : (e : Refused) → Err e ≡ cursor_of (read_question f (reading_of b)) → file_read (read_file f) ≡ Err e
      unfolding read_file read_end
      question_ends e q = ap (λ (x : Reading). file_read (read_end f x)) (asked ∙ refused_by _ e q)

      pub read_through : (c : Cursor) → Ok c ≡ cursor_of (read_question f (reading_of b)) → file_read (read_file f) ≡ file_read (read_end f (reading_of c))
      unfolding read_file
      read_through c q = ap (λ (x : Reading). file_read (read_end f x)) (asked ∙ goes_by _ c q)
