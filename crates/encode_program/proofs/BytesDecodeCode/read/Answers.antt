-- A code read from its bytes: the count, then the instructions.
-- Assumes nothing.
use native.Mathlib.Nat.{add-zero}
use lib.Seq.{get_or-drop, drop-drop}
use Rattle.encode_program.specs.Value.{code_from}
use Rattle.encode_program.proofs.BytesDecodeCode.read.Goals as goal

pub returns : goal.returns
unfolding code_from
returns c = rw (c.each_from.ensures, get_or-drop, add-zero, drop-drop)
