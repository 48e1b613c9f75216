-- Cares: how much of what each register holds a failure rests on.
-- Assumes nothing.
use Rattle.std.specs.Prelude.{◌≡◌, false, List, ℕ, ◌+◌, ◌/◌, ◌%◌, ◌^◌, ◌≤◌, ◌<◌, get_or}
use Rattle.machine.specs.State.{fresh_register}
use Rattle.program.specs.declared.Instruction.{Instruction}
use Rattle.program.specs.declared.Operand.{Operand}
use Rattle.program.specs.Program.{no_instruction, operand}
use Rattle.machine.specs.Rules.{address, value_of}
use Rattle.machine.specs.declared.Thread.{Thread}
pub use Rattle.certify_cares.specs.declared.before.Step.{Step}

-- location l is in a set of locations: bit l is 1
abbrev pub Marked : ℕ → ℕ → Type 0
Marked set l = set / 2 ^ l % 2 ≡ 1

-- the code k allows the value y instead of another: 0 allows any, 256 + e any but e, 512 + e those from e on, 768 + e those below e; no other code allows one
pub data Coded (k y : ℕ) : Type 0 where
  free : k ≡ 0 → Coded k y
  other : 256 ≤ k → k < 512 → (k ≡ 256 + y % 256 → ⊥) → Coded k y
  above : 512 ≤ k → k < 768 → k ≤ 512 + y → Coded k y
  below : 768 + y < k → Coded k y

-- two values, x of a thread that failed and y of another, are the same as far as the care k asks: its code allows y, and as an address y is of x's location or of none in its set
pub data Agrees (k x y : ℕ) : Type 0 where
  same : x ≡ y → Agrees k x y
  alike : Coded (k % 65536) y → (Marked (k / 65536) (address y) → address x ≡ address y) → Agrees k x y

-- the care for register j; one past the eight counts with its value
abbrev pub care_of : List ℕ → ℕ → ℕ
care_of cares j = get_or cares j 2

-- what register j holds
abbrev pub held : Thread → ℕ → ℕ
held s j = (get_or s.registers j fresh_register).value

-- the registers of two threads agree
abbrev pub Agreeing : List ℕ → Thread → Thread → Type 0
Agreeing cares s s' = (j : ℕ) → Agrees (care_of cares j) (held s j) (held s' j)

-- all but register r
abbrev pub AgreeingBut : List ℕ → ℕ → Thread → Thread → Type 0
AgreeingBut cares r s s' = (j : ℕ) → (j ≡ r → ⊥) → Agrees (care_of cares j) (held s j) (held s' j)

-- COVERS: threads that agree by the first cares agree by the second
pub record Covers (cares cares' : List ℕ) : Type 0 where
  pub agreeing : (s s' : Thread) → Agreeing cares s s' → Agreeing cares' s s'

-- the operands of an instruction
abbrev pub first_of : Instruction → Operand
first_of i = operand i.k1 i.n1

abbrev pub second_of : Instruction → Operand
second_of i = operand i.k2 i.n2

-- what stands past the steps
abbrev pub no_step : Step
no_step = record { instruction = no_instruction; first = 0; second = 0; earlier = false }

-- TELLS: the step has what the operands of its instruction hold in the thread
pub record Tells (e : Step) (s : Thread) : Type 0 where
  pub first_held : e.first ≡ value_of s (first_of e.instruction)
  pub second_held : e.second ≡ value_of s (second_of e.instruction)
