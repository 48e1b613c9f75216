-- `program::Instruction::decode` meets its contract: one case for each op.
-- Assumes nothing.
use native.Mathlib.Omega.{arith}
use borrow.Author.Tests.{ne_eqb}
use Rattle.program.specs.Program.{decode}
use Rattle.program.proofs.Instruction.decode.Goals as goal

pub returns-in-0 : goal.returns-in-0
unfolding decode
returns-in-0 c =
    rw (
      c.compute_mode.ensures,
      c.in-0.is,
      c.operand_of-b.ensures,
      c.operand_of-a.ensures,
    )

pub returns-in-1 : goal.returns-in-1
unfolding decode
returns-in-1 c =
    rw (
      c.load_mode.ensures,
      c.in-1.is,
      c.operand_of-b.ensures,
      c.operand_of-a.ensures,
    )

pub returns-in-2 : goal.returns-in-2
unfolding decode
returns-in-2 c =
    rw (
      c.store_mode.ensures,
      c.in-2.is,
      c.operand_of-b.ensures,
      c.operand_of-a.ensures,
    )

pub returns-in-3 : goal.returns-in-3
unfolding decode
returns-in-3 c = rw (c.in-3.is, c.operand_of-b.ensures, c.operand_of-a.ensures)

pub returns-in_default : goal.returns-in_default
unfolding decode
returns-in_default c =
    simp (
      c.fence_mode.ensures,
      ne_eqb c.args.self.op 0 (omega arith),
      ne_eqb c.args.self.op 1 (omega arith),
      ne_eqb c.args.self.op 2 (omega arith),
      ne_eqb c.args.self.op 3 (omega arith),
    )
