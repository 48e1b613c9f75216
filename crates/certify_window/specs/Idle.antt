-- Loads of locations without a message, which leave coherence low.
-- Assumes nothing.
use Rattle.std.specs.Prelude.{◌≡◌, ◌⊎◌, ℕ, ◌+◌, ◌≤◌, ◌<◌}
use Rattle.theory_views.specs.Views.{view_at}
use Rattle.machine.specs.Rules.{value_of, address, read_view}
use Rattle.certify_runs.specs.Below.{Operand, LoadMode, Instr, Load, Memory, Thread}
use Rattle.certify_under.specs.Vacant.{Vacant}

-- IDLES: at time 0 the instruction loads from a location without a message, with no view but its pre-view; and in the thread y after it, coherence there is at a time of the memory, and before the hole if there is one
pub record Idles (x : Instr) (m : Memory) (s : Thread) (t : ℕ) (y : Thread) (hole : ℕ) : Type 0 where
  pub mode : LoadMode
  pub register : ℕ
  pub a : Operand
  pub b : Operand
  pub is_load : x ≡ Load mode register a b
  pub at_zero : t ≡ 0
  pub vacant : Vacant m (address (value_of s a + value_of s b))
  pub unseen : read_view s (address (value_of s a + value_of s b)) 0 ≡ 0
  pub known : view_at y.coherence (address (value_of s a + value_of s b)) ≤ m.count
  pub early : (hole ≡ 0) ⊎ (view_at y.coherence (address (value_of s a + value_of s b)) < hole)
