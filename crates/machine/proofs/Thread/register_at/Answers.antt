-- `machine::Thread::register_at` meets its contract: past the registers stands the fresh one.
-- Assumes nothing.
use mathlib.Core.Path.{◌≡◌, sym, ◌∙◌}
use native.Mathlib.Omega.{arith}
use lib.ListN.{length, get_or-eq_default}
use Rattle.program.proofs.Arrays.{length_mapped}
use Rattle.machine.specs.State.{fresh_register}
use Rattle.machine.proofs.Thread.register_at.Goals as goal

pub returns-else-n-lt8 : goal.returns-else-n-lt8
returns-else-n-lt8 c =
    let s = c.args.self in
    let h : length s.registers ≡ 8 = search length_mapped depth 7 in
    (λ i. record { value = c.default.ensures.0 i; view = c.default.ensures.1 i }) ∙ sym (get_or-eq_default s.registers fresh_register (omega arith))
