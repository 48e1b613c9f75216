-- `capi::blyskota_step` meets its contract.
-- Assumes nothing.
use mathlib.Core.Path.{ap}
use native.Mathlib.Omega.{arith}
use Rattle.std.specs.Prelude.{Result}
use Rattle.program.specs.declared.Refusal.{Refusal}
use Rattle.machine.specs.declared.Machine.{Machine}
use Rattle.step.specs.Step.{step}
use Rattle.step.specs.Answers.{stepped}
use Rattle.encode_answers.specs.Value.{stepped_bytes}
use Rattle.capi.proofs.Called.{short, other_program, other_machine, answer_of_values}
use Rattle.capi.specs.Calls.{step_call}
use Rattle.capi.proofs.blyskota_step.Goals as goal

pub returns-then-answer-lt342 : goal.returns-then-answer-lt342
unfolding step_call
returns-then-answer-lt342 c = short 342 _ _ (omega arith)

pub returns-then-program-ne487 : goal.returns-then-program-ne487
unfolding step_call
returns-then-program-ne487 c = let a = c.args in other_program 342 a.program.now a.machine.now a.answer.now _ c.if-answer-lt342.false c.if-program-ne487.true

pub returns-then-machine-ne341 : goal.returns-then-machine-ne341
unfolding step_call
returns-then-machine-ne341 c =
    let a = c.args in other_machine 342 a.program.now a.machine.now a.answer.now _ c.if-answer-lt342.false c.if-program-ne487.false c.if-machine-ne341.true

pub returns : goal.returns
unfolding step_call
returns c =
    let x = c.machine_of-x.result in
    answer_of_values 342 (λ (r : Machine × Result Machine Refusal). stepped_bytes r.0 r.1) _ _ (x, c.step.result) c.if-answer-lt342.false c.put_stepped.ensures (λ q y k. (y, stepped (step q y k))) _ _ _ _ _ c.if-program-ne487.false c.if-machine-ne341.false c.program_of.ensures c.machine_of-x.ensures
    (ap (λ (r : Result Machine Refusal). (x, r)) c.step.ensures)
