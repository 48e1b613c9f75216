-- `certify_cares::Cares::and` meets its contract: register by register the cares are joined.
-- Assumes nothing.
use mathlib.Core.Path.{◌≡◌}
use lib.ListN.{length}
use Rattle.certify_cares.proofs.Agreeing.{Joined}
use Rattle.certify_cares.proofs.Cares.and.Given as goal

abbrev pub invariant-loop-j : goal.invariant-loop-j
invariant-loop-j l = (length l.of ≡ 8) × Joined l.initial.of l.other.of l.of l.j
