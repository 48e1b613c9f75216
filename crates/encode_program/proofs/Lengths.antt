-- The length of a program value, whatever the program.
-- Assumes nothing.
use mathlib.Core.Path.{◌≡◌, refl, ap}
use Prim.Native.Nat.{suc}
use native.Mathlib.Omega.{arith}
use lib.ListN.{length, get_or, length-append}
use Rattle.program.specs.declared.Code.{Code}
use Rattle.program.specs.declared.Program.{Program}
use Rattle.program.specs.Program.{no_condition, code_of}
use Rattle.encode_bytes.specs.Lists.{joined}
use Rattle.encode_bytes.proofs.Entries.{joined_length}
use Rattle.encode_program.specs.Value.{code_bytes, condition_bytes, program_bytes}

pub code_length : (c : Code) → length (code_bytes c) ≡ 113
unfolding code_bytes
code_length c = ap suc (joined_length _ 7 (λ j. refl) 0 16)

module _ (p : Program) where
  pub codes_length : length (joined (λ i. code_bytes (code_of p i)) 0 4) ≡ 452
  codes_length = joined_length _ 113 (λ i. code_length (code_of p i)) 0 4

  pub question_length : length (joined (λ k. condition_bytes (get_or p.question k no_condition)) 0 8) ≡ 32
  question_length = joined_length _ 4 (λ k. refl) 0 8

  pub program_length : length (program_bytes p) ≡ 487
  unfolding program_bytes
  program_length = simp length-append (omega (arith, codes_length, question_length))
