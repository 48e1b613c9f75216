-- The programs that the reader gives are the well-formed ones, and its longest file has 647 bytes.
-- Assumes nothing.
use mathlib.Core.Path.{◌≡◌, refl}
use mathlib.Core.Logic.{◌↔◌}
use mathlib.Core.List.{List}
use Prim.Native.Nat.{ℕ}
use lib.Dec.{T}
use lib.ListN.{length, replicate}
use Rattle.program.specs.Tests.{all_of, below, sum_below}
use Rattle.program.specs.Program.{Program, no_condition, code_of}
use Rattle.program.specs.Counts.{one_store, stores_among, stores_from, stores}
use Rattle.program.specs.WellFormed.{mode_limit, mode_test, register_test, kind_test, number_test, instruction_test, condition_test, unused_instruction, unused_condition, code_test, program_test}
use Rattle.program.specs.File.{program, read_file}
use Rattle.program.specs.Encode.{each_record, file_of}
use Rattle.program.proofs.ReadBack.{read_back}
use Rattle.program.proofs.ReadFormed.{read_formed}

-- WELL FORMED IS EXACTLY: a program that some file is read as
pub formed_iff : (p : Program) → T (program_test p) ↔ (f : List ℕ) × (read_file f ≡ program p)
formed_iff p = (λ h. (file_of p, read_back p h), λ r. read_formed r.0 p r.1)

-- four threads of 16 fences, and eight conditions
abbrev largest : Program
largest = record {
  version = 1;
  threads = 4;
  codes = replicate 4 (record { count = 16; instructions = replicate 16 (record { op = 4; m = 0; r = 0; k1 = 0; n1 = 0; k2 = 0; n2 = 0 }) });
  conditions = 8;
  question = replicate 8 no_condition;
}

largest_formed : T (program_test largest)
unfolding all_of below sum_below code_of one_store stores_among stores_from stores mode_limit mode_test register_test kind_test number_test instruction_test condition_test unused_instruction unused_condition code_test program_test
largest_formed = tt

-- 647 BYTES ARE READ
pub attained : (read_file (file_of largest) ≡ program largest) × (length (file_of largest) ≡ 647)
unfolding code_of each_record file_of
attained = (read_back largest largest_formed, refl)
