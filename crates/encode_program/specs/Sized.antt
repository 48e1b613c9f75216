-- The lengths of a program's arrays: every value of the code has them, a list of the definitions need not.
-- Assumes nothing.
use Rattle.std.specs.Prelude.{◌≡◌, ℕ, ◌<◌, length}
use Rattle.program.specs.declared.Program.{Program}
use Rattle.program.specs.Program.{code_of}

pub record SizedProgram (p : Program) : Type 0 where
  pub codes : length p.codes ≡ 4
  pub instructions : (i : ℕ) → i < 4 → length (code_of p i).instructions ≡ 16
  pub question : length p.question ≡ 8
