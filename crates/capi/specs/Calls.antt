-- What each call returns and leaves in the areas that it is lent, for every input.
-- Assumes nothing.
use Rattle.std.specs.Prelude.{true, false, cond, List, [], ◌∷◌, ◌++◌, ℕ, eqb, ltb, length, drop}
use Rattle.program.specs.File.{read_file}
use Rattle.program.specs.Answers.{file_read}
use Rattle.certify.specs.Answers.{certify}
use Rattle.step.specs.Step.{Step, step}
use Rattle.step.specs.Answers.{stepped}
use Rattle.trace_replay.specs.Answers.{replay}
use Rattle.search.specs.Answers.{answer_on, area_on, table_on}
use Rattle.outcomes.specs.Answers.{answer_on as listedOn, table_on as outcomesOn, machines_on}
use Rattle.encode_program.specs.Value.{program_of}
use Rattle.encode_machine.specs.Value.{machine_of}
use Rattle.encode_answers.specs.Value.{read_bytes, stepped_bytes, certified_bytes, replayed_bytes, searched_bytes, within_bytes, listed_bytes, listed_within_bytes}

-- the number that a call returns, and the area after it
pub record Called : Type 0 where
  pub number : ℕ
  pub area : List ℕ

abbrev pub called : ℕ → List ℕ → Called
called n area = record { number = n; area = area }

-- the answer's bytes, and what stood behind them
abbrev pub with_answer : List ℕ → List ℕ → Called
with_answer bytes area = called 0 (bytes ++ drop (length bytes) area)

-- an area shorter than n bytes: 1, and nothing is written
abbrev pub on_area : ℕ → List ℕ → Called → Called
on_area n area on = cond (ltb (length area) n) (called 1 area) on

-- a value of another length than n: 2, and nothing is written
abbrev pub on_value : ℕ → List ℕ → List ℕ → Called → Called
on_value n value area on = cond (eqb (length value) n) on (called 2 area)

-- ---- the calls
unfoldable pub read_call : List ℕ → List ℕ → Called
read_call file area = on_area 495 area (with_answer (read_bytes (file_read (read_file file))) area)

unfoldable pub step_call : List ℕ → List ℕ → Step → List ℕ → Called
step_call p x k area =
    on_area 342 area
    (on_value 487 p area
    (on_value 341 x area
    (with_answer (stepped_bytes (machine_of x) (stepped (step (program_of p) (machine_of x) k))) area)))

unfoldable pub certify_call : List ℕ → List ℕ → ℕ → List ℕ → Called
certify_call p x i area =
    on_area 36 area
    (on_value 487 p area
    (on_value 341 x area
    (with_answer (certified_bytes (certify (program_of p) (machine_of x) i)) area)))

unfoldable pub replay_call : List ℕ → List ℕ → List ℕ → Called
replay_call file trace area = on_area 357 area (with_answer (replayed_bytes (replay file trace)) area)

-- what a call returns and leaves in the answer area, and every area that it is lent besides, after it
pub record CalledBeside : Type 0 where
  pub call : Called
  pub beside : List (List ℕ)

abbrev pub called_beside : ℕ → List ℕ → List (List ℕ) → CalledBeside
called_beside n area beside = record { call = called n area; beside = beside }

-- an answer area shorter than n bytes: 1, and nothing is written in any area
abbrev pub on_areas : ℕ → List ℕ → Called → List (List ℕ) → List (List ℕ) → CalledBeside
on_areas n area on before after =
    record {
      call = on_area n area on;
      beside = cond (ltb (length area) n) before after;
    }

-- ---- the calls that are lent areas besides
unfoldable pub search_call : List ℕ → ℕ → List ℕ → List ℕ → CalledBeside
search_call file budget trace area =
    on_areas 12 area (with_answer (searched_bytes (answer_on (read_file file) budget trace)) area)
    (trace ∷ [])
    (area_on (read_file file) budget trace ∷ [])

unfoldable pub within_call : List ℕ → ℕ → List ℕ → List ℕ → List ℕ → CalledBeside
within_call file budget trace table area =
    on_areas 16 area (with_answer (within_bytes (answer_on (read_file file) budget trace)) area)
    (trace ∷ table ∷ [])
    (area_on (read_file file) budget trace ∷ table_on (read_file file) trace table ∷ [])

unfoldable pub outcomes_call : List ℕ → ℕ → List ℕ → List ℕ → CalledBeside
outcomes_call file budget outcomes area =
    on_areas 16 area (with_answer (listed_bytes (listedOn false (read_file file) budget outcomes)) area)
    (outcomes ∷ [])
    (outcomesOn false (read_file file) budget outcomes ∷ [])

unfoldable pub outcomes_within_call : List ℕ → ℕ → List ℕ → List ℕ → List ℕ → CalledBeside
outcomes_within_call file budget outcomes table area =
    on_areas 24 area (with_answer (listed_within_bytes (listedOn true (read_file file) budget outcomes)) area)
    (outcomes ∷ table ∷ [])
    (outcomesOn true (read_file file) budget outcomes ∷ machines_on (read_file file) table ∷ [])
