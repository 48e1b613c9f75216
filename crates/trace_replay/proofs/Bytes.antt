-- The trace of steps that are accepted in turn is a file of bytes.
-- Assumes nothing.
use mathlib.Core.Path.{◌≡◌}
use mathlib.Core.List.{List}
use Prim.Native.Nat.{ℕ, zero, suc, ◌<◌}
use native.Mathlib.Omega.{arith}
use Rattle.program.specs.declared.Program.{Program}
use Rattle.program.specs.File.{byte_at}
use Rattle.program.proofs.Formed.{ProgramOk}
use Rattle.machine.specs.declared.Machine.{Machine}
use Rattle.machine.proofs.Formed.{MachineOk}
use Rattle.machine.proofs.Effects.{effect_time}
use Rattle.step.specs.Step.{Step, accepted, step}
use Rattle.trace_record.specs.Trace.{trace_bytes}
use Rattle.step.proofs.Backwards.{Did, executed, promised, did}
use Rattle.step.proofs.Bound.{well_formed}
use Rattle.trace_replay.specs.InTurn.{InTurn, no_step, a_step}

-- each part of a step is a byte
record StepBytes (k : Step) : Type 0 where
  kind_byte : k.kind < 256
  thread_byte : k.thread < 256
  a_byte : k.a < 256
  b_byte : k.b < 256

did_bytes : (p : Program) (x : Machine) → ProgramOk p → MachineOk p x → {k : Step} {y : Machine} → Did p x k y → StepBytes k
did_bytes p x po mo (executed {i} {t} c s h g e q) =
    let time = effect_time e in
    let room = mo.memory_ok.room in
    let few = po.few_threads in
    record { kind_byte = omega arith; thread_byte = omega arith; a_byte = omega arith; b_byte = omega arith }
did_bytes p x po mo (promised {i} {l} {v} h low byte room q) =
    let few = po.few_threads in
    record { kind_byte = omega arith; thread_byte = omega arith; a_byte = omega arith; b_byte = byte }

accepted_bytes : (p : Program) (x : Machine) (k : Step) (y : Machine) → step p x k ≡ accepted y → StepBytes k
accepted_bytes p x k y e = let w = well_formed p x y k e in did_bytes p x w.0 w.1 (did p x y k e).2

-- BYTES: every number of the trace is below 256
pub in_turn_bytes : (p : Program) {x y : Machine} {q : List Step} → InTurn p x q y → (j : ℕ) → byte_at (trace_bytes q) j < 256
unfolding trace_bytes
in_turn_bytes p no_step j = omega arith
in_turn_bytes p (a_step k z e more) zero = omega arith
in_turn_bytes p (a_step k z e more) (suc zero) = omega arith
in_turn_bytes p {x} (a_step k z e more) (suc (suc zero)) = (accepted_bytes p x k z e).kind_byte
in_turn_bytes p {x} (a_step k z e more) (suc (suc (suc zero))) = (accepted_bytes p x k z e).thread_byte
in_turn_bytes p {x} (a_step k z e more) (suc (suc (suc (suc zero)))) = (accepted_bytes p x k z e).a_byte
in_turn_bytes p {x} (a_step k z e more) (suc (suc (suc (suc (suc zero))))) = (accepted_bytes p x k z e).b_byte
in_turn_bytes p (a_step k z e more) (suc (suc (suc (suc (suc (suc j)))))) = in_turn_bytes p more j
