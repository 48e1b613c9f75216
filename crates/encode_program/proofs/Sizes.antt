-- What is read from bytes, and what is well formed, has the lengths that decoding after encoding asks for.
-- Assumes nothing.
use mathlib.Core.Path.{◌≡◌}
use mathlib.Core.List.{List}
use Prim.Native.Nat.{ℕ}
use lib.Dec.{T}
use lib.ListN.{length, drop}
use Rattle.program.specs.declared.Code.{Code}
use Rattle.program.specs.declared.Program.{Program}
use Rattle.program.specs.Program.{no_code, code_of}
use Rattle.program.specs.WellFormed.{program_test}
use Rattle.program.proofs.Shape.{program_iff}
use Rattle.encode_bytes.proofs.Entries.{entries_length, entries_each}
use Rattle.encode_program.specs.Value.{code_from, program_of}
use Rattle.encode_program.specs.Sized.{SizedProgram}

-- ---- what is read from bytes
code_sized : (b : List ℕ) → length (code_from b).instructions ≡ 16
unfolding code_from
code_sized b = entries_length _ 7 16 (drop 1 b)

pub program_sized : (b : List ℕ) → SizedProgram (program_of b)
unfolding program_of code_of
program_sized b =
    record {
      codes = entries_length code_from 113 4 (drop 2 b);
      instructions = λ i l. entries_each code_from 113 (λ (c : Code). length c.instructions ≡ 16) code_sized 4 (drop 2 b) i no_code l;
      question = entries_length _ 4 8 (drop 455 b);
    }

-- ---- what is well formed
pub formed_program_sized : (p : Program) → T (program_test p) → SizedProgram p
formed_program_sized p t = let o = (program_iff p).0 t in record { codes = o.four; instructions = λ i l. (o.codes_ok i l).places; question = o.eight }
