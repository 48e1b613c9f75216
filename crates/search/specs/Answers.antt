-- The answer of a search on a program file for the code: verdict, count and how many steps the trace has; and the lent area afterwards.
-- Assumes nothing.
use Rattle.std.specs.Prelude.{◌≡◌, cond, List, ◌++◌, ℕ, ◌*◌, ltb, length, drop, replicate, Result, Ok, Err}
use Rattle.program.specs.File.{FileAnswer, refused, program, read_file}
use Rattle.program.specs.declared.Refusal.{Refusal}
use Rattle.program.specs.declared.Refusal.TheVariants.{ShortArea}
use Rattle.program.specs.declared.Refused.{Refused}
use Rattle.step.specs.Step.{Step}
use Rattle.trace_record.specs.Trace.{trace_bytes}
use Rattle.theory_sequences.specs.Answer as sequences
use Rattle.search_sequences.specs.OfProgram.{answer_to}
pub use Rattle.search.specs.declared.Verdict.{Verdict}
pub use Rattle.search.specs.declared.Verdict.TheVariants.{Allowed, Forbidden, NotFinished}
pub use Rattle.search.specs.declared.Answer.{Answer}

-- verdict, count and how many steps the trace has: none unless allowed
abbrev pub answer_of : sequences.Answer Step → Answer
answer_of (sequences.allowed n q) = record { verdict = Allowed; count = n; steps = length q }
answer_of (sequences.forbidden n) = record { verdict = Forbidden; count = n; steps = 0 }
answer_of (sequences.unfinished n) = record { verdict = NotFinished; count = n; steps = 0 }

-- the lent area afterwards: where allowed, the trace is at its front, 6 bytes for each step; every other byte is what it was, and without a trace all are
abbrev pub area_of : sequences.Answer Step → List ℕ → List ℕ
area_of (sequences.allowed n q) area = trace_bytes q ++ drop (6 * length q) area
area_of (sequences.forbidden n) area = area
area_of (sequences.unfinished n) area = area

-- a refusal, and its place
abbrev pub refusal : Refusal → ℕ → Result Answer Refused
refusal r place = Err (record { refusal = r; place = place })

-- the file's refusal, 1 to 10, before that of the area, 30: it has fewer than 480 bytes
abbrev pub answer_on : FileAnswer → ℕ → List ℕ → Result Answer Refused
answer_on (refused r place) b area = refusal r place
answer_on (program p) b area = cond (ltb (length area) 480) (refusal ShortArea 0) (Ok (answer_of (answer_to p b)))

abbrev pub area_on : FileAnswer → ℕ → List ℕ → List ℕ
area_on (refused r place) b area = area
area_on (program p) b area = cond (ltb (length area) 480) area (area_of (answer_to p b) area)

-- THE SEARCH on a program file with budget b and a lent area: the answer, and the area afterwards
pub record Searched (file : List ℕ) (b : ℕ) (area : List ℕ) (r : Result Answer Refused) (after : List ℕ) : Type 0 where
  pub answer : r ≡ answer_on (read_file file) b area
  pub lent : after ≡ area_on (read_file file) b area

-- a table that was lent, all 0
abbrev pub cleared : List ℕ → List ℕ
cleared t = replicate (length t) 0

-- a refused search leaves the lent table unwritten, any other all 0
abbrev pub table_on : FileAnswer → List ℕ → List ℕ → List ℕ
table_on (refused r place) area table = table
table_on (program p) area table = cond (ltb (length area) 480) table (cleared table)

-- THE SEARCH WITHIN A TABLE that is lent besides: whatever it is, answer and area are those of the search
pub record SearchedWithin (file : List ℕ) (b : ℕ) (area table : List ℕ) (r : Result Answer Refused) (after tableAfter : List ℕ) : Type 0 where
  pub searched : Searched file b area r after
  pub lent_table : tableAfter ≡ table_on (read_file file) area table
