-- Tries of one instruction at times in turn: when a further one is in vain, and which times are passed over.
-- Assumes nothing.
use Rattle.std.specs.Prelude.{◌≡◌, false, List, ℕ, ◌+◌, ◌≤◌, ◌<◌, T, get_or}
use Rattle.machine.specs.State.{has}
use Rattle.machine.specs.Rules.{value_of, address, read_value, read_view}
use Rattle.certify_runs.specs.Below.{Operand, LoadMode, Instr, Load, Memory, Thread}
use Rattle.certify_cares.specs.Cares.{Agrees}

-- how much of what the load left in its register counted after the try at time u; 3 where it was not tried
abbrev pub counted_at : List ℕ → ℕ → ℕ
counted_at counted u = get_or counted u 3

-- a time before t that was tried at l, with a view no larger than t's and a value that is the same as far as it counted
pub record Doubled (m : Memory) (s : Thread) (l : ℕ) (counted : List ℕ) (t : ℕ) : Type 0 where
  pub time : ℕ
  pub before : time < t
  pub tried : counted_at counted time ≡ 3 → ⊥
  pub low : read_view s l time ≤ read_view s l t
  pub alike : Agrees (counted_at counted time) (read_value m time) (read_value m t)

-- the instruction is a load, and there is such a time for its location
pub record Vain (m : Memory) (s : Thread) (x : Instr) (counted : List ℕ) (t : ℕ) : Type 0 where
  pub mode : LoadMode
  pub register : ℕ
  pub a : Operand
  pub b : Operand
  pub is_load : x ≡ Load mode register a b
  pub doubled : Doubled m s (address (value_of s a + value_of s b)) counted t

-- time u of a load at l is no better than time t before it: its view is not smaller, and its value is the same as far as the care asks
pub record NoBetter (m : Memory) (s : Thread) (l t care u : ℕ) : Type 0 where
  pub later : t < u
  pub low : read_view s l t ≤ read_view s l u
  pub alike : Agrees care (read_value m t) (read_value m u)

-- no other time than u is left out of the set
abbrev pub LeftOut : ℕ → ℕ → ℕ → Type 0
LeftOut p u r = (v : ℕ) → T (has p v) → has r v ≡ false → u ≡ v

-- every time that is left out of the set is no better than time t
abbrev pub PassedOver : Memory → Thread → ℕ → ℕ → ℕ → ℕ → ℕ → Type 0
PassedOver m s l t care later r = (u : ℕ) → T (has later u) → has r u ≡ false → NoBetter m s l t care u
