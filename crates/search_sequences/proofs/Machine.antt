-- The machine of a program takes steps as the theory of sequences asks.
-- Assumes nothing.
use mathlib.Core.Path.{◌≡◌, refl}
use mathlib.Core.Option.{some}
use native.Mathlib.Omega.{arith}
use borrow.Author.Tests.{eqb-false}
use Rattle.program.specs.declared.Program.{Program}
use Rattle.machine.specs.declared.Machine.{Machine}
use Rattle.machine.proofs.Effects.{effect_time}
use Rattle.program.proofs.Formed.{ProgramOk}
use Rattle.machine.proofs.Formed.{MachineOk}
use Rattle.theory_sequences.specs.Sequences.{Among}
use Rattle.theory_sequences.specs.Lawful.{Lawful}
use Rattle.step.specs.Step.{Step, Decision, rejected, accepted, step, taken}
use Rattle.step.specs.Order.{every_step}
use Rattle.step.proofs.Backwards.{Did, executed, promised, did}
use Rattle.step.proofs.Bound.{lowers, well_formed}
use Rattle.step.specs.Inner.{potential}
use Rattle.search_sequences.specs.OfProgram.{stepping}
use Rattle.search_sequences.proofs.Steps.{less_asym, rising, execution_tried, promise_tried}

-- a step is taken exactly if it is accepted
pub taken_accepted : (o : Decision) (x : Machine) → taken o ≡ some x → o ≡ accepted x
taken_accepted (rejected n) x e = absurd (eqb-false 0 1 refl cc)
taken_accepted (accepted y) x e = cc

tried_did : (p : Program) (x : Machine) → ProgramOk p → MachineOk p x → {k : Step} {y : Machine} → Did p x k y → Among k every_step
tried_did p x po mo (executed {i} {t} c s h g e q) =
    let a = effect_time e in
    let b = mo.memory_ok.room in
    let few = po.few_threads in
    execution_tried i t (omega arith) (omega arith)
tried_did p x po mo (promised {i} {l} {v} h low byte room q) = let few = po.few_threads in promise_tried i l v (omega arith) low byte

-- every accepted step is tried
pub tried : (p : Program) (x : Machine) (k : Step) (y : Machine) → step p x k ≡ accepted y → Among k every_step
tried p x k y e = let w = well_formed p x y k e in tried_did p x w.0 w.1 (did p x y k e).2

abbrev pub lawful : (p : Program) → Lawful (stepping p)
lawful p =
    record {
      less_asym = less_asym;
      rising = rising;
      tried = λ x k y e. tried p x k y (taken_accepted (step p x k) y e);
      bound = potential p;
      falls = λ x k y e. lowers p x y k (taken_accepted (step p x k) y e);
    }
