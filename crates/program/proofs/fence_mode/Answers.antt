-- `program::fence_mode` meets its contract: one case for each number.
-- Assumes nothing.
use native.Mathlib.Omega.{arith}
use borrow.Author.Tests.{ne_eqb}
use Rattle.program.specs.Program.{fence_mode}
use Rattle.program.proofs.fence_mode.Goals as goal

pub returns-in-0 : goal.returns-in-0
unfolding fence_mode
returns-in-0 c = rw c.in-0.is

pub returns-in-1 : goal.returns-in-1
unfolding fence_mode
returns-in-1 c = rw c.in-1.is

pub returns-in-2 : goal.returns-in-2
unfolding fence_mode
returns-in-2 c = rw c.in-2.is

pub returns-in_default : goal.returns-in_default
unfolding fence_mode
returns-in_default c = simp (ne_eqb c.args.m 0 (omega arith), ne_eqb c.args.m 1 (omega arith), ne_eqb c.args.m 2 (omega arith))
