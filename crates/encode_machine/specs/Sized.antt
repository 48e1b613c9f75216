-- The lengths of a machine's arrays: every value of the code has them, a list of the definitions need not.
-- Assumes nothing.
use Rattle.std.specs.Prelude.{◌≡◌, ℕ, ◌<◌, length}
use Rattle.machine.specs.declared.Thread.{Thread}
use Rattle.machine.specs.declared.Machine.{Machine}
use Rattle.machine.specs.State.{thread_of}

pub record SizedThread (s : Thread) : Type 0 where
  pub registers : length s.registers ≡ 8
  pub coherence : length s.coherence ≡ 16
  pub forward : length s.forward ≡ 16

pub record SizedMachine (x : Machine) : Type 0 where
  pub messages : length x.memory.messages ≡ 16
  pub threads : length x.threads ≡ 4
  pub each : (i : ℕ) → i < 4 → SizedThread (thread_of x i)
