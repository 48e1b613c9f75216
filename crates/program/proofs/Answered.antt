-- The answer of the reader, read backwards.
-- Assumes nothing.
use mathlib.Core.Path.{◌≡◌, refl, ap}
use borrow.Author.Tests.{eqb-false}
use Rattle.std.specs.Prelude.{Result, Ok, Err}
use Rattle.program.specs.declared.Program.{Program}
use Rattle.program.specs.Refusals.{Refused}
use Rattle.program.specs.File.{FileAnswer, refused, program}
use Rattle.program.specs.Answers.{file_read}

pub read_good : (a : FileAnswer) (r : Result Program Refused) → r ≡ file_read a → {p : Program} → r ≡ Ok p → a ≡ program p
read_good (refused n place) r e h = absurd (eqb-false 0 1 refl cc)
read_good (program q) r e {p} h = let z : q ≡ p = cc in ap program z

pub read_refused : (a : FileAnswer) (r : Result Program Refused) → r ≡ file_read a → {d : Refused} → r ≡ Err d → a ≡ refused d.refusal d.place
read_refused (refused n place) r e {d} h = let z : record { refusal = n; place = place } ≡ d = cc in ap (λ (y : Refused). refused y.refusal y.place) z
read_refused (program q) r e h = absurd (eqb-false 0 1 refl cc)
