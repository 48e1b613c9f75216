-- `certify_window::next_kept` meets its contract.
-- Assumes nothing.
use Prim.Native.Nat.{◌-◌}
use Rattle.certify_window.specs.Window.{NextKept}
use Rattle.certify_window.proofs.next_kept.Given as goal

abbrev pub invariant-loop-u : goal.invariant-loop-u
invariant-loop-u l = NextKept l.m l.p l.l l.v l.t l.u

abbrev pub decreases-loop-u : goal.decreases-loop-u
decreases-loop-u l = 17 - l.u
