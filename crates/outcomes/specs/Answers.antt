-- The answer of a listing on a program file for the code: verdict, count and how many outcomes there are; and the lent table afterwards.
-- Assumes nothing.
use Rattle.std.specs.Prelude.{◌≡◌, Bool, true, false, cond, List, map, ℕ, ◌*◌, ltb, length, replicate, Result, Ok, Err}
use Rattle.program.specs.File.{FileAnswer, refused, program, read_file}
use Rattle.program.specs.declared.Refused.{Refused}
use Rattle.theory_sequences.specs.Listing.{Listing, finished, unfinished}
use Rattle.encode_bytes.specs.Places.{put}
use Rattle.search_sequences.specs.OfProgram.{listing_to}
use Rattle.search_outcomes.specs.Rows.{row_width, capacity, row_bytes, entry_bytes}
pub use Rattle.outcomes.specs.declared.Verdict.{Verdict}
pub use Rattle.outcomes.specs.declared.Verdict.TheVariants.{Finished, TooMany, NotFinished}
pub use Rattle.outcomes.specs.declared.Answer.{Answer}

-- no outcome is listed: too many, or not finished
abbrev pub nothing_listed : Verdict → ℕ → Answer
nothing_listed v n = record { verdict = v; count = n; number = 0 }

-- the answer where there is room for so many outcomes: too many (40), with the number of all sequences, where there are more
abbrev pub answer_of : ℕ → Listing (List ℕ) → Answer
answer_of room (finished n e) = cond (ltb room (length e)) (nothing_listed TooMany n) (record { verdict = Finished; count = n; number = length e })
answer_of room (unfinished n) = nothing_listed NotFinished n

-- a table whose entries are all 0; bytes that make no whole entry are as they were
abbrev pub emptied : Bool → List ℕ → List ℕ
emptied wide t = put 0 (replicate (row_width wide * capacity wide t) 0) t

-- the table afterwards: the outcomes that are listed stand at its front, each with its place; every other entry is 0
abbrev pub table_of : Bool → Listing (List ℕ) → List ℕ → List ℕ
table_of wide (finished n e) t = cond (ltb (capacity wide t) (length e)) (emptied wide t) (put 0 (row_bytes (map (entry_bytes wide) e)) (emptied wide t))
table_of wide (unfinished n) t = emptied wide t

-- the file's refusal, 1 to 10, comes first, and leaves the table unwritten
abbrev pub answer_on : Bool → FileAnswer → ℕ → List ℕ → Result Answer Refused
answer_on wide (refused r place) b t = Err (record { refusal = r; place = place })
answer_on wide (program p) b t = Ok (answer_of (capacity wide t) (listing_to p b))

abbrev pub table_on : Bool → FileAnswer → ℕ → List ℕ → List ℕ
table_on wide (refused r place) b t = t
table_on wide (program p) b t = table_of wide (listing_to p b) t

-- THE LISTING on a program file with budget b and a lent table, whose entries are wide or not: the answer, and the table afterwards
pub record ListedIn (wide : Bool) (file : List ℕ) (b : ℕ) (t : List ℕ) (r : Result Answer Refused) (after : List ℕ) : Type 0 where
  pub answer : r ≡ answer_on wide (read_file file) b t
  pub lent : after ≡ table_on wide (read_file file) b t

-- without a table of machines: narrow entries
abbrev pub Listed : List ℕ → ℕ → List ℕ → Result Answer Refused → List ℕ → Type 0
Listed = ListedIn false

-- a refused file leaves the table of machines unwritten, any other leaves it all 0
abbrev pub machines_on : FileAnswer → List ℕ → List ℕ
machines_on (refused r place) m = m
machines_on (program p) m = replicate (length m) 0

-- THE LISTING WITHIN A TABLE OF MACHINES that is lent besides, and wide entries: whatever that table is, answer and outcomes are those of the listing
pub record ListedWithin (file : List ℕ) (b : ℕ) (t machines : List ℕ) (r : Result Answer Refused) (after machinesAfter : List ℕ) : Type 0 where
  pub listed : ListedIn true file b t r after
  pub lent_machines : machinesAfter ≡ machines_on (read_file file) machines
