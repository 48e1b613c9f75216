-- `search_outcomes::put_row` meets its contract: the outcome, then its place.
-- Assumes nothing.
use native.Mathlib.Omega.{arith}
use Rattle.encode_bytes.proofs.Putting.{put_then}
use Rattle.search_outcomes.proofs.Rows.{width_least}
use Rattle.search_outcomes.proofs.put_row.Goals as goal

pub put_bytes-requires : goal.put_bytes-requires
put_bytes-requires c = let l = width_least c.args.wide in let n = c.requires.1 in omega arith

pub put_u64-requires : goal.put_u64-requires
put_u64-requires c = let l = rw c.if-wide.true at c.requires.0 in let q = c.put_bytes.auto.area in omega arith

pub put_u32-requires : goal.put_u32-requires
put_u32-requires c = let l = rw c.if-wide.false at c.requires.0 in let q = c.put_bytes.auto.area in omega arith

pub returns-then-wide : goal.returns-then-wide
returns-then-wide c = rw c.if-wide.true (put_then _ _ _ _ _ c.put_bytes.ensures c.put_u64.ensures (let e = c.requires.1 in omega arith) (omega arith))

pub returns-else-wide : goal.returns-else-wide
returns-else-wide c = rw c.if-wide.false (put_then _ _ _ _ _ c.put_bytes.ensures c.put_u32.ensures (let e = c.requires.1 in omega arith) (omega arith))
