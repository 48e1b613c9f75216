-- A memory with one message more.
-- Assumes nothing.
use mathlib.Core.Path.{◌≡◌, ap, ◌∙◌}
use Prim.Native.Nat.{ℕ, ◌+◌, ◌-◌, ◌≤◌, ◌<◌}
use native.Mathlib.Omega.{arith}
use lib.ListN.{length, get_or, set}
use lib.Seq.{get_or-set_same, get_or-set_other}
use Rattle.machine.specs.State.{Message, Memory, no_message, message_at, append}

-- the messages that stand stay
pub message_stays : (m : Memory) (w : Message) (t : ℕ) → 0 < t → t ≤ m.count → message_at (append m w) t ≡ message_at m t
message_stays m w t h k = get_or-set_other m.messages m.count (t - 1) w no_message (λ e. omega arith)

-- the newest is the one appended
pub message_new : (m : Memory) (w : Message) → m.count < length m.messages → message_at (append m w) (m.count + 1) ≡ w
message_new m w h =
    let e : m.count + 1 - 1 ≡ m.count = omega arith in
    ap (λ (n : ℕ). get_or (set m.messages m.count w) n no_message) e ∙ get_or-set_same m.messages m.count w no_message h
