-- `step::thread_step` meets its contract.
-- Assumes nothing.
use Rattle.step.proofs.Stepping.{kind_execute_22, kind_execute, kind_22, kind_promise}
use native.Mathlib.Omega.{arith}
use Rattle.step.proofs.thread_step.Goals as goal

pub returns-then-k-ne0 : goal.returns-then-k-ne0
returns-then-k-ne0 c = kind_execute_22 _ _ _ _ c.if-k-eq0.true c.if-k-ne0.true

pub returns-then-k-eq0 : goal.returns-then-k-eq0
returns-then-k-eq0 c = kind_execute _ _ _ _ c.execute_step.result c.if-k-eq0.true c.if-k-ne0.false c.execute_step.ensures

pub returns-then-k-ne1 : goal.returns-then-k-ne1
returns-then-k-ne1 c = kind_22 _ _ _ _ c.if-k-eq0.false c.if-k-ne1.true

pub returns : goal.returns
returns c = kind_promise _ _ _ _ c.promise_step.result c.if-k-ne1.false (omega (arith, c.struct_known-2-1.given)) c.promise_step.ensures
