-- `certify_straight::result` meets its contract: one case for each mode.
-- Assumes nothing.
use Rattle.std.proofs.Common.{arith, eq-eqb, ne_eqb}
use Rattle.program.specs.Program.{compute_mode}
use Rattle.machine.specs.Rules.{combine}
use Rattle.certify_straight.proofs.result.Goals as goal

pub returns-in-0 : goal.returns-in-0
unfolding combine compute_mode
returns-in-0 c = rw c.in-0.is c.wrapping_add_u8.ensures.value

pub returns-in-1 : goal.returns-in-1
unfolding combine compute_mode
returns-in-1 c = rw c.in-1.is (let d = c.wrapping_sub_u8.ensures.value in omega arith)

pub returns-in-2 : goal.returns-in-2
unfolding combine compute_mode
returns-in-2 c = rw c.in-2.is

pub returns-then-x-y : goal.returns-then-x-y
unfolding combine compute_mode
returns-then-x-y c =
    simp (ne_eqb c.args.m 0 (omega arith), ne_eqb c.args.m 1 (omega arith), ne_eqb c.args.m 2 (omega arith), eq-eqb _ _ c.if-x-y.true)

pub returns-else-x-y : goal.returns-else-x-y
unfolding combine compute_mode
returns-else-x-y c =
    simp (ne_eqb c.args.m 0 (omega arith), ne_eqb c.args.m 1 (omega arith), ne_eqb c.args.m 2 (omega arith), ne_eqb _ _ c.if-x-y.false)
