-- What a look-up has found: the bytes of a slot are those of the key, and the key is the machine's.
-- Assumes nothing.
use mathlib.Core.Path.{◌≡◌, ap, ◌∙◌}
use mathlib.Core.List.{List}
use Prim.Native.Nat.{ℕ, ◌+◌, ◌*◌, ◌/◌, ◌≤◌, ◌<◌}
use native.Mathlib.Omega.{arith}
use lib.ListN.{length, take, drop}
use lib.Seq.{take_at}
use Rattle.machine.specs.declared.Machine.{Machine}
use Rattle.encode_machine.specs.Value.{machine_bytes}
use Rattle.encode_machine.proofs.Lengths.{machine_length}
use Rattle.encode_bytes.specs.Places.{put}
use Rattle.search_table.specs.Table.{key_at}

pub within_table : (n slot : ℕ) → slot < n / 349 → 349 * slot + 349 ≤ n
within_table n slot h = omega arith

-- the key's first bytes are the machine's
pub key_there : (t : List ℕ) (slot : ℕ) (x : Machine) (a key : List ℕ) → key ≡ put 0 (machine_bytes x) a → take 341 (drop (349 * slot) t) ≡ take 341 key → key_at t slot ≡ machine_bytes x
unfolding key_at put
key_there t slot x a key e same = same ∙ ap (take 341) e ∙ take_at (machine_bytes x) (drop (0 + length (machine_bytes x)) a) 341 (machine_length x)
