-- What the listing of a program that has been read promises the calls on files.
-- Assumes nothing.
use Rattle.std.specs.Prelude.{◌≡◌, Bool, List, ℕ, length, replicate}
use Rattle.program.specs.declared.Program.{Program}
use Rattle.search_sequences.specs.OfProgram.{listing_to}
use Rattle.search_outcomes.specs.Rows.{capacity}
use Rattle.outcomes.specs.Answers.{Answer, answer_of, table_of}

-- the answer on a program, and both tables afterwards
pub record ListsOn (p : Program) (wide : Bool) (b : ℕ) (t machines : List ℕ) (r : Answer) (after machinesAfter : List ℕ) : Type 0 where
  pub answer : r ≡ answer_of (capacity wide t) (listing_to p b)
  pub lent : after ≡ table_of wide (listing_to p b) t
  pub lent_machines : machinesAfter ≡ replicate (length machines) 0
