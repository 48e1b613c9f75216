-- `certify_window::next_message` meets its contract.
-- Assumes nothing.
use mathlib.Core.Path.{◌≡◌}
use Prim.Native.Nat.{ℕ, ◌-◌, ◌≤◌, ◌<◌}
use lib.ListN.{get_or}
use Rattle.machine.specs.State.{no_message}
use Rattle.certify_window.proofs.next_message.Given as goal

abbrev pub invariant-loop-u : goal.invariant-loop-u
invariant-loop-u l = (l.t ≤ l.u) × ((v : ℕ) → l.t < v → v ≤ l.u → (get_or l.m.messages (v - 1) no_message).location ≡ l.l → ⊥)
