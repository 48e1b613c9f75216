-- What the answer of the whole visit says: the answer to the question, and the area afterwards.
-- Assumes nothing.
use mathlib.Core.Path.{◌≡◌, refl, sym, ap, subst, ◌∙◌}
use mathlib.Core.List.{List, ◌++◌}
use Prim.Native.Nat.{ℕ, ◌+◌, ◌-◌, ◌*◌, ◌≤◌, ◌<◌}
use native.Mathlib.Omega.{arith}
use lib.ListN.{length, drop}
use borrow.Author.Tests.{lt-ltb, le-ltb}
use Rattle.std.specs.Prelude.{Result, Ok, Err}
use Rattle.program.specs.declared.Program.{Program}
use Rattle.program.specs.Counts.{size}
use Rattle.program.specs.File.{FileAnswer, read_file}
use Rattle.program.specs.Answers.{file_read}
use Rattle.machine.specs.State.{fresh}
use Rattle.encode_bytes.specs.Places.{put}
use Rattle.theory_sequences.specs.Sequences.{upto, wanted}
use Rattle.theory_sequences.specs.Answer as sequences
use Rattle.theory_sequences.proofs.Scan.{answer_told, scan_same, asked_wanted}
use Rattle.theory_sequences.specs.Scan.{Scan, going, found, out, scan, told, noted_of, asking, done_at}
use Rattle.step.specs.Step.{Step}
use Rattle.trace_record.specs.Trace.{trace_bytes}
use Rattle.step.proofs.Bound.{potential_fresh}
use Rattle.program.proofs.Answered.{read_good, read_refused}
use Rattle.program.specs.declared.Refusal.TheVariants.{ShortArea}
use Rattle.program.specs.declared.Refused.{Refused}
use Rattle.search_sequences.specs.OfProgram.{stepping, sequences_of, answer_to}
use Rattle.search.specs.Answers.{Allowed, Forbidden, NotFinished, Answer, answer_of, area_of, refusal, answer_on, area_on, SearchedWithin, cleared, table_on}
use Rattle.search.specs.Inner.{AnswersOn}
use Rattle.search_arrivals.specs.declared.Ran.{Ran}
use Rattle.search_arrivals.specs.declared.Ran.TheVariants.{Going, Found, Out}
use Rattle.search_arrivals.specs.declared.Aim.TheVariants.{Question}
use Rattle.search_arrivals.specs.Visits.{acts, visiting, Reports}
use Rattle.search_arrivals.proofs.Acting.{visiting_same}
use Rattle.search_outcomes.specs.declared.Sheet.{Sheet}
use Rattle.search_outcomes.specs.Table.{Notes}
use Rattle.step.specs.Outcome.{asked}
use Rattle.trace_record.proofs.Writing.{trace_length}

-- ---- the search from the fresh machine gives the answer
told_answer : (p : Program) (b : ℕ) (n : Notes) → told b (visiting p Question fresh b n) ≡ answer_to p b
unfolding visiting acts answer_to sequences_of
told_answer p b n =
    ap (λ (k : ℕ). told b (scan (done_at (stepping p) (asking (λ x. asked p x)) fresh) (upto (stepping p) k fresh) b n)) (potential_fresh p)
    ∙ ap (told b) (scan_same (done_at (stepping p) (asking (λ x. asked p x)) fresh) (asking (wanted (stepping p) fresh)) (λ q c m. asked_wanted (stepping p) fresh q c m) (upto (stepping p) (size p) fresh) b n)
    ∙ answer_told (wanted (stepping p) fresh) (upto (stepping p) (size p) fresh) b n

put_first : (q : List Step) (a : List ℕ) → put 0 (trace_bytes q) a ≡ trace_bytes q ++ drop (6 * length q) a
unfolding put
put_first q a = let w = trace_length q in let e : 0 + length (trace_bytes q) ≡ 6 * length q = omega arith in ap (λ (n : ℕ). trace_bytes q ++ drop n a) e

module _ (p : Program) (b : ℕ) (r : Ran) (old new : List ℕ) (sheet sheet' : Sheet) (t : Reports 0 (visiting p Question fresh b (old, sheet)) r (new, sheet')) where
  -- the answer, by the one that the visit gave
  ended : Ran → Answer
  ended (Going c) = record { verdict = Forbidden; count = b - c; steps = 0 }
  ended (Found c n) = record { verdict = Allowed; count = b - c; steps = n }
  ended Out = record { verdict = NotFinished; count = b; steps = 0 }

  -- nothing is noted where the question is asked
  unnoted : (o : Scan Step Notes) → visiting p Question fresh b (old, sheet) ≡ o → noted_of o ≡ (old, sheet)
  unnoted o e = ap (λ (v : Scan Step Notes). noted_of v) (sym e) ∙ visiting_same p fresh b (old, sheet)

  told_is : AnswersOn p b (ended r) old new
  unfolding ended
  told_is = go (visiting p Question fresh b (old, sheet)) refl t
    where
      go : (o : Scan Step Notes) → visiting p Question fresh b (old, sheet) ≡ o → Reports 0 o r (new, sheet') → AnswersOn p b (ended r) old new
      go (going c n) e u =
          let w : answer_to p b ≡ sequences.forbidden (b - c) = sym (told_answer p b (old, sheet)) ∙ ap (told b) e in
          record { answer = ap ended u.answer ∙ ap answer_of (sym w); lent = ap (λ (m : Notes). m.0) (u.lent ∙ unnoted (going c n) e) ∙ ap (λ (a : sequences.Answer Step). area_of a old) (sym w) }
      go (found c q n) e u =
          let w : answer_to p b ≡ sequences.allowed (b - c) q = sym (told_answer p b (old, sheet)) ∙ ap (told b) e in
          let k : 0 + length q ≡ length q = omega arith in
          record {
            answer = ap ended u.answer ∙ ap (λ (j : ℕ). record { verdict = Allowed; count = b - c; steps = j }) k ∙ ap answer_of (sym w);
            lent =
                ap (λ (m : Notes). m.0) u.lent ∙ ap (λ (m : Notes). put 0 (trace_bytes q) m.0) (unnoted (found c q n) e)
                ∙ put_first q old ∙ ap (λ (a : sequences.Answer Step). area_of a old) (sym w);
          }
      go (out n) e u =
          let w : answer_to p b ≡ sequences.unfinished b = sym (told_answer p b (old, sheet)) ∙ ap (told b) e in
          record { answer = ap ended u.answer ∙ ap answer_of (sym w); lent = ap (λ (m : Notes). m.0) (u.lent ∙ unnoted (out n) e) ∙ ap (λ (a : sequences.Answer Step). area_of a old) (sym w) }

  pub told_forbidden : (c : ℕ) → r ≡ Going c → AnswersOn p b (record { verdict = Forbidden; count = b - c; steps = 0 }) old new
  unfolding ended
  told_forbidden c e = subst (λ (a : Ran). AnswersOn p b (ended a) old new) e told_is

  pub told_allowed : (c n : ℕ) → r ≡ Found c n → AnswersOn p b (record { verdict = Allowed; count = b - c; steps = n }) old new
  unfolding ended
  told_allowed c n e = subst (λ (a : Ran). AnswersOn p b (ended a) old new) e told_is

  pub told_unfinished : r ≡ Out → AnswersOn p b (record { verdict = NotFinished; count = b; steps = 0 }) old new
  unfolding ended
  told_unfinished e = subst (λ (a : Ran). AnswersOn p b (ended a) old new) e told_is

-- ---- a program file
module _ (f : List ℕ) (b : ℕ) (area table : List ℕ) (r : Result Program Refused) (e : r ≡ file_read (read_file f)) where
  -- what a search answers and leaves, where the file is read as y
  told_on : (y : FileAnswer) → read_file f ≡ y → (a : Result Answer Refused) (new table' : List ℕ) → a ≡ answer_on y b area → new ≡ area_on y b area → table' ≡ table_on y area table → SearchedWithin f b area table a new table'
  told_on y g a new table' answer lent lent_table =
      record {
        searched = record { answer = answer ∙ sym (ap (λ (z : FileAnswer). answer_on z b area) g); lent = lent ∙ sym (ap (λ (z : FileAnswer). area_on z b area) g) };
        lent_table = lent_table ∙ sym (ap (λ (z : FileAnswer). table_on z area table) g);
      }

  pub area_short : {p : Program} → r ≡ Ok p → length area < 480 → (a : Result Answer Refused) → a ≡ refusal ShortArea 0 → SearchedWithin f b area table a area table
  area_short h l a q = told_on _ (read_good _ r e h) a area table (q ∙ rw (lt-ltb (length area) 480 l)) (rw (lt-ltb (length area) 480 l)) (rw (lt-ltb (length area) 480 l))

  pub area_long : {p : Program} → r ≡ Ok p → 480 ≤ length area → (a : Answer) (new table' : List ℕ) → AnswersOn p b a area new → table' ≡ cleared table → SearchedWithin f b area table (Ok a) new table'
  area_long h l a new table' q c =
      told_on _ (read_good _ r e h) (Ok a) new table' (ap Ok q.answer ∙ rw (le-ltb (length area) 480 l)) (q.lent ∙ rw (le-ltb (length area) 480 l)) (c ∙ rw (le-ltb (length area) 480 l))

  pub file_refused : {d : Refused} → r ≡ Err d → (a : Result Answer Refused) → a ≡ Err d → SearchedWithin f b area table a area table
  file_refused h a q = told_on _ (read_refused _ r e h) a area table q refl refl
