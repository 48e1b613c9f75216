-- A program as 487 bytes: version, threads, 4 × (instruction count, 16 × 7 bytes), condition count, 8 × 4 bytes.
-- Assumes nothing.
use Rattle.std.specs.Prelude.{List, [], ◌∷◌, ◌++◌, ℕ, get_or, drop}
use Rattle.program.specs.declared.Instruction.{Instruction}
use Rattle.program.specs.declared.Code.{Code}
use Rattle.program.specs.declared.Condition.{Condition}
use Rattle.program.specs.declared.Program.{Program}
use Rattle.program.specs.Program.{no_condition, instruction_at, code_of}
use Rattle.program.specs.File.{byte_at}
use Rattle.encode_bytes.specs.Lists.{joined, entries}

-- ---- the bytes of a program
-- 7 bytes
abbrev pub instruction_bytes : Instruction → List ℕ
instruction_bytes x = x.op ∷ x.m ∷ x.r ∷ x.k1 ∷ x.n1 ∷ x.k2 ∷ x.n2 ∷ []

-- 113 bytes
unfoldable pub code_bytes : Code → List ℕ
code_bytes c = c.count ∷ joined (λ k. instruction_bytes (instruction_at c k)) 0 16

-- 4 bytes
abbrev pub condition_bytes : Condition → List ℕ
condition_bytes q = q.kind ∷ q.thread ∷ q.index ∷ q.value ∷ []

-- A PROGRAM VALUE
unfoldable pub program_bytes : Program → List ℕ
program_bytes p =
    (p.version ∷ p.threads ∷ [])
    ++ (joined (λ i. code_bytes (code_of p i)) 0 4
    ++ (p.conditions
    ∷ joined (λ k. condition_bytes (get_or p.question k no_condition)) 0 8))

-- ---- the program of such bytes: each part is read from the start of the bytes that are left
abbrev pub instruction_from : List ℕ → Instruction
instruction_from b = record { op = byte_at b 0; m = byte_at b 1; r = byte_at b 2; k1 = byte_at b 3; n1 = byte_at b 4; k2 = byte_at b 5; n2 = byte_at b 6 }

unfoldable pub code_from : List ℕ → Code
code_from b = record { count = byte_at b 0; instructions = entries instruction_from 7 16 (drop 1 b) }

abbrev pub condition_from : List ℕ → Condition
condition_from b = record { kind = byte_at b 0; thread = byte_at b 1; index = byte_at b 2; value = byte_at b 3 }

-- THE PROGRAM OF A PROGRAM VALUE
unfoldable pub program_of : List ℕ → Program
program_of b =
    record {
      version = byte_at b 0;
      threads = byte_at b 1;
      codes = entries code_from 113 4 (drop 2 b);
      conditions = byte_at b 454;
      question = entries condition_from 4 8 (drop 455 b);
    }
