-- Ten small programs with known answers, P1 to P10: the budget, verdict, count and trace of each.
-- Assumes nothing.
use Rattle.std.specs.Prelude.{◌≡◌, List, [], ◌∷◌, map, ℕ}
use Rattle.program.specs.declared.Instruction.{Instruction}
use Rattle.program.specs.declared.Program.{Program}
use Rattle.step.specs.Step.{Step}
use Rattle.step.specs.Order.{execution, promise}
use Rattle.theory_sequences.specs.Answer.{Answer, allowed, forbidden, unfinished}
use Rattle.search_sequences.specs.OfProgram.{answer_to}
use Rattle.cases_verdicts.specs.Written.{con, load, store, register_is, location_is, program}

-- a program with a budget, and what is to be answered
pub record Case : Type 0 where
  pub asks : Program
  pub budget : ℕ
  pub answers : Answer Step

abbrev pub case : Program → ℕ → Answer Step → Case
case p b o = record { asks = p; budget = b; answers = o }

-- ALL ARE RIGHT: the answers under the definitions are those to be answered
unfoldable pub Right : List Case → Type 0
Right cs = map (λ (c : Case). answer_to c.asks c.budget) cs ≡ map (λ (c : Case). c.answers) cs

-- S: a store of 1 to location 0
abbrev pub S : List Instruction
S = store (con 0) (con 1) ∷ []

-- D: the same store, then a load of location 0 into r0
abbrev pub D : List Instruction
D = store (con 0) (con 1) ∷ load 0 (con 0) ∷ []

-- E: the store in thread 0, the load in thread 1
abbrev pub E : List (List Instruction)
E = S ∷ (load 0 (con 0) ∷ []) ∷ []

abbrev pub cases : List Case
cases =
    case (program ([] ∷ []) []) 1 (allowed 1 [])
    ∷ case (program ([] ∷ []) []) 0 (unfinished 0)
    ∷ case (program (S ∷ []) (location_is 0 1 ∷ [])) 3 (allowed 3 (promise 0 0 1 ∷ execution 0 1 ∷ []))
    ∷ case (program (S ∷ []) (location_is 0 0 ∷ [])) 3 (forbidden 3)
    ∷ case (program (S ∷ []) (location_is 0 0 ∷ [])) 2 (unfinished 2)
    ∷ case (program (D ∷ []) (register_is 0 0 0 ∷ [])) 4 (forbidden 4)
    ∷ case (program E (register_is 1 0 1 ∷ [])) 5 (allowed 5 (promise 0 0 1 ∷ execution 0 1 ∷ execution 1 1 ∷ []))
    ∷ case (program E (register_is 1 0 0 ∷ [])) 4 (allowed 4 (promise 0 0 1 ∷ execution 0 1 ∷ execution 1 0 ∷ []))
    ∷ case (program E (register_is 1 0 2 ∷ [])) 12 (forbidden 12)
    ∷ case (program E (register_is 1 0 2 ∷ [])) 11 (unfinished 11)
    ∷ []
