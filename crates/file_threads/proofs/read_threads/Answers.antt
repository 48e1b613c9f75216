-- `file_threads::read_threads` meets its contract.
-- Assumes nothing.
use mathlib.Core.Path.{◌∙◌}
use native.Mathlib.Omega.{arith}
use Rattle.program.proofs.PassedOn.{passed_on}
use Rattle.file_cursor.proofs.Cursors.{ahead_start, ahead_stops, ahead_turn, ahead_end, thread_within}
use Rattle.file_threads.proofs.read_threads.Goals as goal

pub loop-i-init : goal.loop-i-init
loop-i-init c = ahead_start _ _ _ _ c.requires.1

pub read_thread-requires : goal.read_thread-requires
read_thread-requires c = (omega (arith, c.requires.0, c.loop-i-test.true), c.loop-i.invariant.inside)

pub returns-in_err-c : goal.returns-in_err-c
returns-in_err-c c = passed_on _ _ c.from_residual.ensures.1 ∙ ahead_stops _ _ _ _ _ _ c.loop-i.invariant c.loop-i-test.true _ c.in_err-c.ensures

pub loop-i-preserved : goal.loop-i-preserved
loop-i-preserved c = ahead_turn _ _ _ _ _ _ c.loop-i.invariant (thread_within _) c.loop-i-test.true _ c.in_ok-c.ensures

pub returns : goal.returns
returns c = ahead_end _ _ _ _ _ _ c.loop-i.invariant c.loop-i-test.false
