-- `certify_straight::fenced` meets its contract: one case for each mode.
-- Assumes nothing.
use Rattle.std.proofs.Common.{arith, ne_eqb}
use Rattle.program.specs.Program.{fence_mode}
use Rattle.certify_straight.proofs.fenced.Goals as goal

pub returns-in-0 : goal.returns-in-0
unfolding fence_mode
returns-in-0 c = rw (c.raise_w_new.ensures, c.raise_r_new.ensures, c.larger-v.ensures, c.in-0.is)

pub returns-in-1 : goal.returns-in-1
unfolding fence_mode
returns-in-1 c = rw (c.raise_w_new-in-1.ensures, c.raise_r_new-in-1.ensures, c.in-1.is)

pub returns-in-2 : goal.returns-in-2
unfolding fence_mode
returns-in-2 c = rw (c.raise_w_new-in-2.ensures, c.in-2.is)

pub returns-in_default : goal.returns-in_default
unfolding fence_mode
returns-in_default c =
    simp (c.raise_r_new-in_default.ensures, ne_eqb c.args.m 0 (omega arith), ne_eqb c.args.m 1 (omega arith), ne_eqb c.args.m 2 (omega arith))
