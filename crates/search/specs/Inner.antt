-- What the search on a program that has been read promises the calls on files.
-- Assumes nothing.
use Rattle.std.specs.Prelude.{◌≡◌, List, ℕ}
use Rattle.program.specs.declared.Program.{Program}
use Rattle.search_sequences.specs.OfProgram.{answer_to}
use Rattle.search.specs.Answers.{Answer, answer_of, area_of}

-- the answer on a program, and the area afterwards
pub record AnswersOn (p : Program) (b : ℕ) (r : Answer) (area after : List ℕ) : Type 0 where
  pub answer : r ≡ answer_of (answer_to p b)
  pub lent : after ≡ area_of (answer_to p b) area
