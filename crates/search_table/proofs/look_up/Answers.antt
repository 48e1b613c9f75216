-- `search_table::look_up` meets its contract: the key is the machine's bytes, and a slot that has the same has its count.
-- Assumes nothing.
use mathlib.Core.Path.{sym}
use Rattle.search_table.specs.Table.{count_at}
use Rattle.search_table.proofs.Seeking.{within_table, key_there}
use Rattle.search_table.proofs.look_up.Goals as goal

pub returns-then-same : goal.returns-then-same
unfolding count_at
returns-then-same c =
    let w = within_table _ _ c.slot_of-slot.ensures in
    record { within = w; there = λ h. (key_there _ _ _ _ _ c.put_machine.ensures (c.same.ensures c.if-same.true), sym c.u64_at-count.ensures) }
