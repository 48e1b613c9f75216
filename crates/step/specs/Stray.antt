-- A machine that is astray: what a search must not pass over in silence.
-- Assumes nothing.
use Rattle.std.specs.Prelude.{Bool, false, not, ℕ, ◌+◌, ◌%◌, ltb}
use Rattle.std.proofs.Math.Option.{Option, none, some}
use Rattle.program.specs.Tests.{below}
use Rattle.program.specs.Program.{instr_at, code_of}
use Rattle.machine.specs.State.{thread_of}
use Rattle.machine.specs.Below.{Operand, Compute, Load, Store, Branch, Fence}
use Rattle.machine.specs.Rules.{value_of}
use Rattle.certify_runs.specs.Below.{Program, Instr, Thread, Machine}

-- the address of a load: the sum of both operands, a byte, so it wraps at 256; that of a store is the value of its operand
abbrev pub sum_of : Thread → Operand → Operand → ℕ
sum_of s a b = (value_of s a + value_of s b) % 256

-- an address below 16 is a location; one of 16 or more is none: the instruction strays
abbrev pub is_location : ℕ → Bool
is_location l = ltb l 16

unfoldable pub strays : Instr → Thread → Bool
strays (Compute k r a b) s = false
strays (Load k r a b) s = not (is_location (sum_of s a b))
strays (Store k a d) s = not (is_location (value_of s a))
strays (Branch n a b) s = false
strays (Fence k) s = false

-- the next instruction, if there is one, strays
abbrev pub strays_next : Thread → Option Instr → Bool
strays_next s none = false
strays_next s (some c) = strays c s

-- that of thread i
unfoldable pub thread_strays : Program → Machine → ℕ → Bool
thread_strays p x i = strays_next (thread_of x i) (instr_at (code_of p i) (thread_of x i).position)

-- ASTRAY: the next instruction of some thread strays
unfoldable pub astray : Program → Machine → Bool
astray p x = not (below (λ i. not (thread_strays p x i)) p.threads)
