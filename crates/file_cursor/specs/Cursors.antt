-- The cursor that goes from record to record.
-- Assumes nothing.
use Rattle.std.specs.Prelude.{List, ℕ, ◌≤◌, length, Result, Ok, Err}
use Rattle.program.specs.declared.Program.{Program}
use Rattle.program.specs.File.{Reading, stopped, reading}
use Rattle.program.specs.declared.Refused.{Refused}
pub use Rattle.file_cursor.specs.declared.Cursor.{Cursor}

-- the cursor that stands for a reading, or its refusal; and the reading that a cursor stands for
abbrev pub cursor_of : Reading → Result Cursor Refused
cursor_of (stopped r place) = Err (record { refusal = r; place = place })
cursor_of (reading at s p) = Ok (record { at = at; stores = s; program = p })

abbrev pub reading_of : Cursor → Reading
reading_of c = reading c.at c.stores c.program

-- a reading that goes on is within the file, and has at most 16 stores and 4 threads
pub record Inside (f : List ℕ) (at s : ℕ) (p : Program) : Type 0 where
  pub place : at ≤ length f
  pub stores : s ≤ 16
  pub threads : p.threads ≤ 4

abbrev pub Standing : List ℕ → Cursor → Type 0
Standing f c = Inside f c.at c.stores c.program
