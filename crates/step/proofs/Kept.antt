-- The fresh machine is well formed, and an accepted step keeps a machine well formed.
-- Assumes nothing.
use mathlib.Core.Path.{◌≡◌}
use lib.Dec.{T}
use Rattle.program.specs.WellFormed.{program_test}
use Rattle.program.proofs.Formed.{ProgramOk, program_ok}
use Rattle.machine.specs.State.{fresh}
use Rattle.machine.specs.WellFormed.{machine_test}
use Rattle.machine.proofs.Formed.{MachineOk, machine_iff}
use Rattle.machine.proofs.Kept.{fresh_ok, executed_ok, promised_ok}
use Rattle.certify_runs.specs.Below.{Program, Machine}
use Rattle.step.specs.Step.{Step, accepted, step}
use Rattle.step.specs.Reached.{Reached, start, on}
use Rattle.step.proofs.Backwards.{Did, executed, promised, did}
use Rattle.step.proofs.Bound.{well_formed}

-- THE FRESH MACHINE IS WELL FORMED, for a program that is
pub fresh_formed : (p : Program) → T (program_test p) → T (machine_test p fresh)
fresh_formed p h = (machine_iff p (program_ok p h).few_threads fresh).1 (fresh_ok p)

kept_did : (p : Program) (x : Machine) → ProgramOk p → MachineOk p x → {k : Step} {x' : Machine} → Did p x k x' → MachineOk p x'
kept_did p x po mo (executed {i} {t} c s h g e q) = executed_ok p x i t c s po mo h g e
kept_did p x po mo (promised {i} {l} {v} h low byte room q) = promised_ok p x i l v mo po.few_threads h low room

-- KEPT: an accepted step keeps a machine well formed
pub kept : (p : Program) (x x' : Machine) (k : Step) → step p x k ≡ accepted x' → T (machine_test p x')
kept p x x' k e =
    let w = well_formed p x x' k e in
    (machine_iff p w.0.few_threads x').1 (kept_did p x w.0 w.1 (did p x x' k e).2)

-- so every machine that is reached is well formed
pub reached_formed : (p : Program) → T (program_test p) → {x : Machine} → Reached p x → T (machine_test p x)
reached_formed p h start = fresh_formed p h
reached_formed p h (on {x = x} k y r e) = kept p x y k e
