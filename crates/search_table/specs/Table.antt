-- A table of machines in bytes: slots of 349 bytes, a machine's 341 and a count of eight; a slot with count 0 is free.
-- Assumes nothing.
use Rattle.std.specs.Prelude.{◌≡◌, List, ◌++◌, ℕ, ◌+◌, ◌*◌, ◌≤◌, length, take, drop}
use Rattle.machine.specs.declared.Machine.{Machine}
use Rattle.encode_machine.specs.Value.{machine_bytes, machine_of}
use Rattle.encode_bytes.specs.Inner.{word64_from}
use Rattle.encode_bytes.specs.Places.{put}
use Rattle.encode_bytes.specs.Numbers.{word64}
pub use Rattle.search_table.specs.declared.Seen.{Seen}

-- the machine's bytes in slot j
unfoldable pub key_at : List ℕ → ℕ → List ℕ
key_at t j = take 341 (drop (349 * j) t)

-- the count in slot j, 0 where the slot is free
unfoldable pub count_at : List ℕ → ℕ → ℕ
count_at t j = word64_from (drop (349 * j + 341) t)

-- K holds of the machine and the count of every slot that is not free
unfoldable pub EverySlot : (Machine → ℕ → Type 0) → List ℕ → Type 0
EverySlot K t = (j : ℕ) → 349 * j + 349 ≤ length t → (count_at t j ≡ 0 → ⊥) → K (machine_of (key_at t j)) (count_at t j)

-- slot j with x and n in it
unfoldable pub slot_with : ℕ → Machine → ℕ → List ℕ → List ℕ
slot_with j x n t = put (349 * j) (machine_bytes x ++ word64 n) t

-- the slot of x: one of the table's, and a count other than 0 is one that stands there, beside x
pub record Sought (x : Machine) (t : List ℕ) (r : Seen) : Type 0 where
  pub within : 349 * r.slot + 349 ≤ length t
  pub there : (r.count ≡ 0 → ⊥) → (key_at t r.slot ≡ machine_bytes x) × (count_at t r.slot ≡ r.count)
