-- Answers that meet the reader's contract coincide.
-- Assumes nothing.
use mathlib.Core.Path.{◌≡◌, sym, ◌∙◌}
use mathlib.Core.List.{List}
use Prim.Native.Nat.{ℕ}
use Rattle.std.specs.Prelude.{Result}
use Rattle.program.specs.Refusals.{Refused}
use Rattle.program.specs.File.{read_file}
use Rattle.program.specs.declared.Program.{Program}
use Rattle.program.specs.Answers.{file_read}

pub read_coincide : (f : List ℕ) (r r' : Result Program Refused) → r ≡ file_read (read_file f) → r' ≡ file_read (read_file f) → r ≡ r'
read_coincide f r r' e e' = e ∙ sym e'
