-- `certify_ahead::fewer_stores` meets its contract.
-- Assumes nothing.
use mathlib.Core.Path.{◌≡◌}
use Prim.Native.Nat.{◌+◌, ◌≤◌}
use Rattle.program.specs.Counts.{stores_from}
use Rattle.certify_ahead.proofs.fewer_stores.Given as goal

abbrev pub invariant-loop-at : goal.invariant-loop-at
invariant-loop-at l = (l.found + stores_from l.c l.at ≡ stores_from l.c l.n) × (l.found ≤ l.at)
