-- What is read is well formed, and no file that is read is longer than 647 bytes.
-- Assumes nothing.
use mathlib.Core.Path.{◌≡◌, refl, sym, ap, ◌∙◌, subst}
use mathlib.Core.Bool.{Bool, true, false, cond, ◌&&◌}
use mathlib.Core.List.{List}
use Prim.Native.Nat.{ℕ, zero, suc, ◌+◌, ◌*◌, ◌≤◌, ◌<◌, zero-le}
use native.Mathlib.Nat.{not-suc-le-zero}
use native.Mathlib.Decide.{ℕ_discrete, dec_lt}
use native.Mathlib.Omega.{arith}
use lib.Dec.{T, eqb, leb, eqb→eq, leb→le}
use lib.ListN.{length, get_or, set, replicate, length-set}
use lib.Seq.{get_or-set_same, get_or-set_other}
use borrow.Author.Tests.{eqb-false}
use Rattle.program.specs.Tests.{sum_below}
use Rattle.program.specs.Program.{Code, Condition, Program, no_code, no_condition, no_program, code_of}
use Rattle.program.specs.Counts.{stores}
use Rattle.program.specs.WellFormed.{condition_tests, condition_test, program_test}
use Rattle.program.specs.Refusals.{OtherVersion, ThreadCount, ConditionByte, BytesFollow}
use Rattle.program.specs.File.{refused, program, Reading, stopped, reading, byte_at, with_header, read_header, condition_of, with_question, read_condition, read_thread, read_question, read_end, read_body, read_file}
use Rattle.program.specs.Inner.{IfReading}
use Rattle.program.proofs.Tests.{and_left, and_right}
use Rattle.program.proofs.Shape.{CodeShape, ProgramShape, program_iff}
use Rattle.program.proofs.Kept.{past_demand, past_mark, past_range, each_keeps}
use Rattle.program.proofs.Filled.{Filled, no_code_filled, stores_of_lem}
use Rattle.program.proofs.ReadThreads.{stores_before, Before, thread_read}

-- ---- where the reading goes on: after the header, after the threads, and after the question
abbrev pub Headed : ℕ → ℕ → Program → Type 0
Headed at s p = (1 ≤ p.threads) × (p.threads ≤ 4) × Before p.threads 0 at s p

abbrev pub Threaded : ℕ → ℕ → Program → Type 0
Threaded at s p = (N : ℕ) × (1 ≤ N) × (N ≤ 4) × Before N N at s p

abbrev pub Whole : ℕ → ℕ → Program → Type 0
Whole at s p = ProgramShape p × (at ≤ 647)

module _ (N : ℕ) (f : List ℕ) where
  -- ---- the question
  -- the threads are read, and k of the n conditions
  record Asked (n k at s : ℕ) (q : Program) : Type 0 where
    version_1 : q.version ≡ 1
    threads_are : q.threads ≡ N
    four : length q.codes ≡ 4
    done : (j : ℕ) → j < N → Filled (code_of q j).count (code_of q j)
    idle : (j : ℕ) → N ≤ j → code_of q j ≡ no_code
    few : stores q ≤ 16
    total : q.conditions ≡ n
    eight : length q.question ≡ 8
    passed : (j : ℕ) → j < k → T (condition_test N (get_or q.question j no_condition))
    unread : (j : ℕ) → k ≤ j → j < 8 → get_or q.question j no_condition ≡ no_condition
    place : at ≤ 4 + 148 * N + 3 + 6 * k

  condition_read : (n k at s : ℕ) (q : Program) → n ≤ 8 → k < n → Asked n k at s q → IfReading (Asked n (suc k)) (read_condition f k at s q)
  unfolding read_condition condition_test code_of stores
  condition_read n k at s q small h w =
      let x = condition_of f at in
      let P = Asked n (suc k) in
      past_mark P f at 0x43 0x4E 4 _
      (λ l. past_range P (condition_tests q.threads x) ConditionByte (at + 2) _
      (λ g. filled_in x (subst (λ (u : ℕ). T (condition_test u x)) w.threads_are g)))
    where
      filled_in : (x : Condition) → T (condition_test N x) → Asked n (suc k) (at + 6) s (with_question q.conditions (set q.question k x) q)
      filled_in x g =
          let pl = w.place in
          let e8 = w.eight in
          record {
            version_1 = w.version_1;
            threads_are = w.threads_are;
            four = w.four;
            done = w.done;
            idle = w.idle;
            few = w.few;
            total = w.total;
            eight = length-set q.question k x ∙ w.eight;
            passed = λ j l. each j (ℕ_discrete j k) l;
            unread = λ j l b. get_or-set_other q.question k j x no_condition (λ u. omega arith) ∙ w.unread j (omega arith) b;
            place = omega arith;
          }
        where
          each : (j : ℕ) → Dec (j ≡ k) → j < suc k → T (condition_test N (get_or (set q.question k x) j no_condition))
          each j (yes u) l =
              subst (λ (m : ℕ). T (condition_test N (get_or (set q.question k x) m no_condition))) (sym u)
              (subst (λ (y : Condition). T (condition_test N y)) (sym (get_or-set_same q.question k x no_condition (let e8 = w.eight in omega arith))) g)
          each j (no u) l = subst (λ (y : Condition). T (condition_test N y)) (sym (get_or-set_other q.question k j x no_condition u)) (w.passed j (omega arith))

  -- ---- the program, well formed, from at most 647 bytes
  shape : (n a t : ℕ) (r : Program) → 1 ≤ N → N ≤ 4 → n ≤ 8 → Asked n n a t r → ProgramShape r
  shape n a t r lo hi small w =
      let th = w.threads_are in
      let tot = w.total in
      record {
        version_1 = w.version_1;
        some_thread = omega arith;
        few_threads = omega arith;
        four = w.four;
        codes_ok = λ i l. code_ok i (dec_lt i N);
        idle = λ i l b. ap (λ (c : Code). c.count) (w.idle i (omega arith));
        few_stores = w.few;
        few_conditions = omega arith;
        eight = w.eight;
        conditions_ok = λ k l. subst (λ (u : ℕ). T (condition_test u (get_or r.question k no_condition))) (sym th) (w.passed k (omega arith));
        unused_conditions = λ k l b. w.unread k (omega arith) b;
      }
    where
      full : (c : Code) → Filled c.count c → CodeShape c
      full c o = record { short = o.short; places = o.places; in_range_lem = o.passed; unused = o.unread }

      code_ok : (i : ℕ) → Dec (i < N) → CodeShape (code_of r i)
      code_ok i (yes l) = full (code_of r i) (w.done i l)
      code_ok i (no l) = subst CodeShape (sym (w.idle i (omega arith))) (full no_code no_code_filled)

  asked_read : (at s : ℕ) (q : Program) → 1 ≤ N → N ≤ 4 → Before N N at s q → IfReading Whole (read_question f (reading at s q))
  unfolding read_question code_of
  asked_read at s q lo hi w =
      let n = byte_at f (at + 2) in
      past_mark Whole f at 0x51 0x55 1 _
      (λ l. past_demand Whole (leb n 8) ConditionByte (at + 2) _
      (λ d. let small = leb→le n 8 d in
      each_keeps (read_condition f) (Asked n) n (λ k a t r. condition_read n k a t r small) Whole
      (λ a t r v. (shape n a t r lo hi small v, let pl = v.place in omega arith)) (reading (at + 3) s (with_question n q.question q)) (begun n)))
    where
      begun : (n : ℕ) → Asked n 0 (at + 3) s (with_question n q.question q)
      begun n =
          let pl = w.place in
          record {
            version_1 = w.head.version_1;
            threads_are = w.head.threads_are;
            four = w.head.four;
            done = w.done;
            idle = w.idle;
            few = subst (λ (u : ℕ). u ≤ 16) (w.counted ∙ counted_all n) w.few;
            total = refl;
            eight = ap length w.head.blank;
            passed = λ j l. absurd (not-suc-le-zero l);
            unread = λ j l b. ap (λ (y : List Condition). get_or y j no_condition) w.head.blank ∙ blank_at 8 j;
            place = omega arith;
          }
        where
          counted_all : (n : ℕ) → stores_before N q N ≡ stores (with_question n q.question q)
          counted_all n = stores_of_lem q n w.head.threads_are

          blank_at : (n j : ℕ) → get_or (replicate n no_condition) j no_condition ≡ no_condition
          blank_at zero j = refl
          blank_at (suc n) zero = refl
          blank_at (suc n) (suc j) = blank_at n j

-- ---- the whole file
pub header_read : (f : List ℕ) → IfReading Headed (read_header f)
unfolding read_header sum_below code_of
header_read f =
    let v = byte_at f 2 in
    let n = byte_at f 3 in
    past_mark Headed f 0 0x50 0x47 2 _
    (λ l. past_demand Headed (eqb v 1) OtherVersion 2 _
    (λ d. past_demand Headed (leb 1 n && leb n 4) ThreadCount 3 _
    (λ g. (leb→le 1 n (and_left (leb 1 n) (leb n 4) g), leb→le n 4 (and_right (leb 1 n) (leb n 4) g), begun v n (eqb→eq v 1 d)))))
  where
    no_codes : (j n : ℕ) → get_or (replicate n no_code) j no_code ≡ no_code
    no_codes j zero = refl
    no_codes zero (suc n) = refl
    no_codes (suc j) (suc n) = no_codes j n

    begun : (v n : ℕ) → v ≡ 1 → Before n 0 4 0 (with_header v n no_program)
    begun v n e1 =
        record {
          head = record { version_1 = e1; threads_are = refl; four = refl; unasked = refl; blank = refl };
          done = λ j l. absurd (not-suc-le-zero l);
          idle = λ j l. no_codes j 4;
          counted = refl;
          few = zero-le;
          place = omega arith;
        }

pub body_read : (f : List ℕ) (x : Reading) → IfReading Headed x → IfReading Threaded (read_body f x)
unfolding read_body
body_read f (stopped number place) h = tt
body_read f (reading at s q) h =
    let N = q.threads in
    let few = h.1 in
    each_keeps (read_thread f) (Before N) N (λ i a t r l. thread_read N f i a t r (omega arith)) Threaded (λ a t r w. (N, h.0, h.1, w)) (reading at s q) h.2

pub question_read : (f : List ℕ) (x : Reading) → IfReading Threaded x → IfReading Whole (read_question f x)
unfolding read_question
question_read f (stopped number place) h = tt
question_read f (reading at s q) h = asked_read h.0 f at s q h.1 h.2 h.3

end_read : (f : List ℕ) (x : Reading) (p : Program) → IfReading Whole x → read_end f x ≡ program p → ProgramShape p × (length f ≤ 647)
unfolding read_end
end_read f (stopped n place) p w e = absurd (eqb-false 0 1 refl cc)
end_read f (reading at s q) p w e = go (eqb at (length f)) refl e
  where
    go : (b : Bool) → eqb at (length f) ≡ b → cond b (program q) (refused BytesFollow at) ≡ program p → ProgramShape p × (length f ≤ 647)
    go true g h =
        let d : q ≡ p = cc in
        let l = eqb→eq at (length f) (subst T (sym g) tt) in
        let short = w.1 in
        (subst ProgramShape d w.0, omega arith)
    go false g h = absurd (eqb-false 0 1 refl cc)

read_shape : (f : List ℕ) (p : Program) → read_file f ≡ program p → ProgramShape p × (length f ≤ 647)
unfolding read_file
read_shape f p e = end_read f (read_question f (read_body f (read_header f))) p (question_read f (read_body f (read_header f)) (body_read f (read_header f) (header_read f))) e

-- WHAT IS READ IS WELL FORMED
pub read_formed : (f : List ℕ) (p : Program) → read_file f ≡ program p → T (program_test p)
read_formed f p e = (program_iff p).1 (read_shape f p e).0

-- NO FILE THAT IS READ IS LONGER THAN 647 BYTES
pub longest : (f : List ℕ) (p : Program) → read_file f ≡ program p → length f ≤ 647
longest f p e = (read_shape f p e).1
