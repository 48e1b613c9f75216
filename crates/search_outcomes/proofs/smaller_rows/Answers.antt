-- `search_outcomes::smaller_rows` meets its contract: a row that is smaller has all rows before it smaller, and one that is not has none behind it smaller.
-- Assumes nothing.
use Prim.Native.Nat.{◌+◌, ◌-◌, ◌/◌}
use native.Mathlib.Omega.{arith}
use Rattle.search_outcomes.proofs.Halving.{key_within, halving_none, halving_low, halving_high, halving_all}
use Rattle.search_outcomes.proofs.smaller_rows.Goals as goal

pub loop-low-init : goal.loop-low-init
loop-low-init c = halving_none

pub overflow_mul-w : goal.overflow_mul-w
overflow_mul-w c = let q = key_within c.requires.0 (c.loop-low.low + (c.loop-low.high - c.loop-low.low) / 2) (omega arith) in omega arith

pub is_smaller-requires : goal.is_smaller-requires
is_smaller-requires c = let p = c.requires in (key_within p.0 _ (omega arith), p.1)

pub loop-low-preserved-then-is_smaller : goal.loop-low-preserved-then-is_smaller
loop-low-preserved-then-is_smaller c = halving_low c.loop-low.invariant c.requires.0 _ (omega arith) (omega arith) _ c.is_smaller.ensures c.if-is_smaller.true

pub loop-low-preserved : goal.loop-low-preserved
loop-low-preserved c = halving_high c.loop-low.invariant c.requires.0 _ (omega arith) (omega arith) _ c.is_smaller.ensures c.if-is_smaller.false

pub returns : goal.returns
returns c = halving_all c.loop-low.invariant c.loop-low-test.false
