-- `file_range::mode_ok` meets its contract.
-- Assumes nothing.
use mathlib.Core.Path.{◌≡◌, ap}
use Prim.Native.Nat.{ℕ, suc, ◌+◌}
use native.Mathlib.Omega.{arith}
use lib.Dec.{leb}
use borrow.Author.Tests.{eq-eqb, ne_eqb, le-leb, lt-leb}
use Rattle.program.specs.WellFormed.{mode_test}
use Rattle.file_range.proofs.mode_ok.Goals as goal

pub returns-then-mode_limit-m : goal.returns-then-mode_limit-m
unfolding mode_test
returns-then-mode_limit-m c = rw (← c.mode_limit.ensures, lt-leb _ _ c.if-mode_limit-m.true)

pub returns-then-op-eq3 : goal.returns-then-op-eq3
unfolding mode_test
returns-then-op-eq3 c =
    let a = c.args in
    let e : leb (a.k + a.m + 1) a.n ≡ leb (a.k + suc a.m) a.n = ap (λ (x : ℕ). leb x a.n) (omega arith) in
    rw (← c.mode_limit.ensures, le-leb _ _ c.if-mode_limit-m.false, eq-eqb _ _ c.if-op-eq3.true) e

pub returns-else-op-eq3 : goal.returns-else-op-eq3
unfolding mode_test
returns-else-op-eq3 c = rw (← c.mode_limit.ensures, le-leb _ _ c.if-mode_limit-m.false, ne_eqb _ _ c.if-op-eq3.false)
