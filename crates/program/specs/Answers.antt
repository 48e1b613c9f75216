-- The answer of a reading for the code: the program, or the refusal and its place.
-- Assumes nothing.
use Rattle.std.specs.Prelude.{Result, Ok, Err}
use Rattle.program.specs.Program.{Program}
use Rattle.program.specs.Refusals.{Refused}
use Rattle.program.specs.File.{FileAnswer, refused, program}

abbrev pub file_read : FileAnswer → Result Program Refused
file_read (refused r place) = Err (record { refusal = r; place = place })
file_read (program p) = Ok p
