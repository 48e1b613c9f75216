-- `certify_straight::halts` meets its contract.
-- Assumes nothing.
use Rattle.std.proofs.Common.{sym, ap}
use Rattle.program.specs.Program.{instruction_at}
use Rattle.certify_straight.proofs.Plain.{halts_op}
use Rattle.certify_straight.proofs.Walking.{goes_op}
use Rattle.certify_straight.proofs.halts.Goals as goal

pub returns : goal.returns
returns c = λ s at. (halts_op c.args.c s _ (ap (instruction_at c.args.c) (sym at)), goes_op c.args.c _ c.requires.1 s at)
