-- `certify_trail::passed` meets its contract: the loop puts one step after the other before those that are written.
-- Assumes nothing.
use native.Mathlib.Omega.{arith}
use Rattle.certify_trail.proofs.Written.{passed_more, passed_all}
use Rattle.certify_trail.proofs.passed.Goals as goal

pub loop-preserved : goal.loop-preserved
loop-preserved c = λ l t r. passed_more (omega (arith, c.loop-test.true)) c.preceded-r.ensures (c.loop.invariant l t r)

pub returns : goal.returns
returns c = λ l t r. passed_all (omega (arith, c.loop-test.false)) (c.loop.invariant l t r)
