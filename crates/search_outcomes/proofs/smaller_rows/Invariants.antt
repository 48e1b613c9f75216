-- `search_outcomes::smaller_rows` meets its contract: a row that is smaller has all rows before it smaller, and one that is not has none behind it smaller.
-- Assumes nothing.
use Prim.Native.Nat.{◌-◌}
use Rattle.search_outcomes.proofs.Halving.{Halving}
use Rattle.search_outcomes.proofs.smaller_rows.Given as goal

abbrev pub invariant-loop-low : goal.invariant-loop-low
invariant-loop-low l = Halving l.w l.n l.area l.key l.low l.high

abbrev pub decreases-loop-low : goal.decreases-loop-low
decreases-loop-low l = l.high - l.low
