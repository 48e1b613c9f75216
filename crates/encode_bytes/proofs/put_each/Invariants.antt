-- `encode_bytes::put_each` meets its contract: the loop writes entry after entry.
-- Assumes nothing.
use mathlib.Core.Path.{◌≡◌}
use mathlib.Core.List.{List}
use lib.ListN.{get_or}
use Prim.Native.Nat.{ℕ, ◌+◌, ◌-◌, ◌*◌}
use Rattle.encode_bytes.specs.Lists.{joined}
use Rattle.encode_bytes.specs.Places.{put}
use Rattle.encode_bytes.proofs.put_each.Given as goal

-- what is written, and the entries that are left, are all entries
abbrev pub invariant-loop-x : goal.invariant-loop-x
invariant-loop-x g l =
    record {
      place : l.to ≡ l.at + g.F.Encode.WIDTH * l.x-index;
      rest : (d : g.row.T.Denot) → let f : ℕ → List ℕ = λ k. g.F.Encode.bytes (get_or l.xs k d) in put l.to (joined f l.x-index (g.row.N - l.x-index)) l.area ≡ put l.at (joined f 0 g.row.N) l.initial.area;
    }
