-- `search_tries::attempt` meets its contract.
-- Assumes nothing.
use native.Mathlib.Omega.{arith}
use Rattle.std.specs.Prelude.{Ok}
use Rattle.step.proofs.Stepping.{kind_execute}
use Rattle.search_tries.proofs.Worth.{is_promise, promise_kept}
use Rattle.search_tries.proofs.attempt.Goals as goal

pub returns-then-k-eq0 : goal.returns-then-k-eq0
returns-then-k-eq0 c =
    (kind_execute _ _ _ _ c.execute_at.result.moved c.if-k-eq0.true (c.requires.2.0 c.if-k-eq0.true) c.execute_at.ensures.0, c.execute_at.ensures.1)

pub promise_kept-y-requires : goal.promise_kept-y-requires
promise_kept-y-requires c =
    let o = c.requires in
    let z = o.4 (is_promise c.args.k o.2 c.if-k-eq0.false) in
    (z.0, (z.1, o.0.promises_in))

pub returns : goal.returns
returns c =
    let o = c.requires in
    let e = is_promise c.args.k o.2 c.if-k-eq0.false in
    (promise_kept _ _ _ _ e o.3 o.4 (omega arith) (Ok c.promise_kept-y.result) c.promise_kept-y.ensures, o.5)
