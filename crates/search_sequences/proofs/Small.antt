-- A well-formed program is small: no sequence of it has more than 80 steps.
-- Assumes nothing.
use mathlib.Core.Path.{◌≡◌, refl}
use Prim.Native.Nat.{ℕ, zero, suc, ◌*◌, ◌≤◌}
use native.Mathlib.Omega.{arith}
use lib.Dec.{T}
use Rattle.program.specs.declared.Program.{Program}
use Rattle.program.specs.Program.{code_of}
use Rattle.program.specs.Tests.{sum_below}
use Rattle.program.specs.Counts.{instructions, size}
use Rattle.program.specs.WellFormed.{program_test}
use Rattle.program.proofs.Counts.{sum_le}
use Rattle.program.proofs.Formed.{program_ok}

sixteen_each : (n : ℕ) → sum_below (λ i. 16) n ≡ 16 * n
unfolding sum_below
sixteen_each zero = refl
sixteen_each (suc n) = let r = sixteen_each n in omega arith

-- a program has at most 64 instructions and 16 stores
pub size_small : (p : Program) → T (program_test p) → size p ≤ 80
unfolding size instructions
size_small p h =
    let o = program_ok p h in
    let a = sum_le (λ i. (code_of p i).count) (λ i. 16) p.threads (λ i l. (o.codes i l).short) in
    let b = sixteen_each p.threads in
    let c = o.few_threads in
    let d = o.few_stores in
    omega arith
