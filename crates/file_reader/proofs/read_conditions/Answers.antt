-- `file_reader::read_conditions` meets its contract.
-- Assumes nothing.
use mathlib.Core.Path.{◌∙◌}
use native.Mathlib.Omega.{arith}
use Rattle.program.proofs.PassedOn.{passed_on}
use Rattle.file_cursor.proofs.Cursors.{ahead_start, ahead_stops, ahead_turn, ahead_end, condition_within}
use Rattle.file_reader.proofs.read_conditions.Goals as goal

pub loop-k-init : goal.loop-k-init
loop-k-init c = ahead_start _ _ _ _ c.requires.1

pub read_condition-requires : goal.read_condition-requires
read_condition-requires c = (omega (arith, c.requires.0, c.loop-k-test.true), c.loop-k.invariant.inside)

pub returns-in_err-c : goal.returns-in_err-c
returns-in_err-c c = passed_on _ _ c.from_residual.ensures.1 ∙ ahead_stops _ _ _ _ _ _ c.loop-k.invariant c.loop-k-test.true _ c.in_err-c.ensures

pub loop-k-preserved : goal.loop-k-preserved
loop-k-preserved c = ahead_turn _ _ _ _ _ _ c.loop-k.invariant (condition_within _) c.loop-k-test.true _ c.in_ok-c.ensures

pub returns : goal.returns
returns c = ahead_end _ _ _ _ _ _ c.loop-k.invariant c.loop-k-test.false
