-- `encode_program::put_program` meets its contract: part after part.
-- Assumes nothing.
use native.Mathlib.Omega.{arith}
use Rattle.program.specs.Program.{no_code, no_condition, code_of}
use Rattle.encode_bytes.specs.Lists.{joined}
use Rattle.encode_bytes.proofs.Putting.{put_then}
use Rattle.encode_program.specs.Value.{code_bytes, program_bytes}
use Rattle.encode_program.proofs.Lengths.{codes_length}
use Rattle.encode_program.proofs.put_program.Goals as goal

pub returns : goal.returns
unfolding program_bytes code_of
returns c =
    put_then _ _ _ _ _ c.put_bytes.ensures
    (put_then _ _ (joined (λ i. code_bytes (code_of c.args.p i)) 0 4) _ _ (c.put_each.ensures no_code)
    (put_then _ _ _ _ _ c.put_bytes-2.ensures
    (c.put_each-2.ensures no_condition)
    (omega arith) (omega arith))
    (omega (arith, codes_length c.args.p)) (omega arith))
    (omega arith) (omega arith)
