-- A code's bytes: the count, then the instructions.
-- Assumes nothing.
use native.Mathlib.Omega.{arith}
use Rattle.program.specs.Program.{no_instruction}
use Rattle.encode_bytes.proofs.Putting.{put_then}
use Rattle.encode_program.specs.Value.{code_bytes}
use Rattle.encode_program.proofs.Lengths.{code_length}
use Rattle.encode_program.proofs.BytesEncodeCode.put.Goals as goal

pub returns : goal.returns
unfolding code_bytes
returns c = record { written = put_then _ _ _ _ _ c.put_bytes.ensures (c.put_each.ensures no_instruction) (omega arith) (omega arith); wide = code_length c.args.c.now }
