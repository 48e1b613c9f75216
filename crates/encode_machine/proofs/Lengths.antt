-- The length of a machine value, whatever the machine.
-- Assumes nothing.
use mathlib.Core.Path.{◌≡◌, refl, ap, ◌∙◌}
use mathlib.Core.List.{[], ◌∷◌}
use Prim.Native.Nat.{suc}
use native.Mathlib.Omega.{arith}
use lib.ListN.{length, get_or, length-append}
use Rattle.theory_views.specs.Views.{view_at}
use Rattle.machine.specs.declared.Memory.{Memory}
use Rattle.machine.specs.declared.Thread.{Thread}
use Rattle.machine.specs.declared.Machine.{Machine}
use Rattle.machine.specs.State.{fresh_register, fresh_forward, thread_of}
use Rattle.encode_bytes.specs.Lists.{joined}
use Rattle.encode_bytes.proofs.Entries.{joined_length}
use Rattle.encode_machine.specs.Value.{memory_bytes, register_bytes, forward_bytes, thread_bytes, machine_bytes}

pub memory_length : (m : Memory) → length (memory_bytes m) ≡ 49
unfolding memory_bytes
memory_length m = ap suc (joined_length _ 3 (λ j. refl) 0 16)

module _ (s : Thread) where
  pub registers_length : length (joined (λ k. register_bytes (get_or s.registers k fresh_register)) 0 8) ≡ 16
  registers_length = joined_length _ 2 (λ k. refl) 0 8

  pub coherence_length : length (joined (λ k. view_at s.coherence k ∷ []) 0 16) ≡ 16
  coherence_length = joined_length _ 1 (λ k. refl) 0 16

  pub forward_length : length (joined (λ k. forward_bytes (get_or s.forward k fresh_forward)) 0 16) ≡ 32
  forward_length = joined_length _ 2 (λ k. refl) 0 16

  pub thread_length : length (thread_bytes s) ≡ 73
  unfolding thread_bytes
  thread_length = simp length-append (omega (arith, registers_length, coherence_length, forward_length))

module _ (x : Machine) where
  pub threads_length : length (joined (λ i. thread_bytes (thread_of x i)) 0 4) ≡ 292
  threads_length = joined_length _ 73 (λ i. thread_length (thread_of x i)) 0 4

  pub machine_length : length (machine_bytes x) ≡ 341
  unfolding machine_bytes
  machine_length = length-append (memory_bytes x.memory) _ ∙ omega (arith, memory_length x.memory, threads_length)
