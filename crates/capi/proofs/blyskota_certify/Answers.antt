-- `capi::blyskota_certify` meets its contract.
-- Assumes nothing.
use native.Mathlib.Omega.{arith}
use Rattle.certify.specs.Answers.{certify}
use Rattle.encode_answers.specs.Value.{certified_bytes}
use Rattle.capi.proofs.Called.{short, other_program, other_machine, answer_of_values}
use Rattle.capi.specs.Calls.{certify_call}
use Rattle.capi.proofs.blyskota_certify.Goals as goal

pub returns-then-answer-lt36 : goal.returns-then-answer-lt36
unfolding certify_call
returns-then-answer-lt36 c = short 36 _ _ (omega arith)

pub returns-then-program-ne487 : goal.returns-then-program-ne487
unfolding certify_call
returns-then-program-ne487 c = let a = c.args in other_program 36 a.program.now a.machine.now a.answer.now _ c.if-answer-lt36.false c.if-program-ne487.true

pub returns-then-machine-ne341 : goal.returns-then-machine-ne341
unfolding certify_call
returns-then-machine-ne341 c = let a = c.args in other_machine 36 a.program.now a.machine.now a.answer.now _ c.if-answer-lt36.false c.if-program-ne487.false c.if-machine-ne341.true

pub returns : goal.returns
unfolding certify_call
returns c =
    answer_of_values 36 certified_bytes _ _ _ c.if-answer-lt36.false c.put_certified.ensures certify _ _ _ _ _ c.if-program-ne487.false c.if-machine-ne341.false c.program_of.ensures c.machine_of.ensures c.certify.ensures
