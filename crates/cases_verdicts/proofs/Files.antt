-- The programs of P1 to P10 are what the reader gives for their files: computed.
-- Assumes nothing.
use mathlib.Core.Path.{◌≡◌, refl}
use mathlib.Core.List.{map}
use Rattle.program.specs.Program.{code_of}
use Rattle.program.specs.Counts.{one_store}
use Rattle.program.specs.WellFormed.{mode_limit, mode_test, register_test, kind_test, number_test}
use Rattle.program.specs.File.{program, marked, in_range, read_each, read_header, read_instruction, read_thread, read_condition, read_question, read_end, read_body, read_file}
use Rattle.cases_verdicts.specs.Cases.{Case, cases}
use Rattle.cases_verdicts.specs.Files.{files}

-- THE FILES OF P1 TO P10: each is read as the program of its case
pub read_cases : map read_file files ≡ map (λ (c : Case). program c.asks) cases
unfolding code_of one_store mode_limit mode_test register_test kind_test number_test marked in_range read_each read_header read_instruction read_thread read_condition read_question read_end read_body read_file
read_cases = refl
