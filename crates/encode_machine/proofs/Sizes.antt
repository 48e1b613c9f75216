-- What is read from bytes, and what is well formed, has the lengths that decoding after encoding asks for.
-- Assumes nothing.
use mathlib.Core.Path.{refl, sym, subst}
use mathlib.Core.List.{List}
use Prim.Native.Nat.{ℕ}
use native.Mathlib.Decide.{dec_lt}
use native.Mathlib.Omega.{arith}
use lib.ListN.{drop}
use Rattle.program.specs.declared.Program.{Program}
use Rattle.program.proofs.Shape.{program_iff}
use Rattle.machine.specs.declared.Machine.{Machine}
use Rattle.machine.specs.State.{fresh_thread}
use Rattle.machine.specs.Inner.{Formed}
use Rattle.machine.proofs.Formed.{machine_iff}
use Rattle.encode_bytes.proofs.Entries.{entries_length, entries_each}
use Rattle.encode_machine.specs.Value.{memory_from, thread_from, machine_of}
use Rattle.encode_machine.specs.Sized.{SizedThread, SizedMachine}

-- ---- what is read from bytes
thread_sized : (b : List ℕ) → SizedThread (thread_from b)
unfolding thread_from
thread_sized b = record { registers = entries_length _ 2 8 (drop 1 b); coherence = entries_length _ 1 16 (drop 17 b); forward = entries_length _ 2 16 (drop 33 b) }

pub machine_sized : (b : List ℕ) → SizedMachine (machine_of b)
unfolding machine_of memory_from
machine_sized b =
    record {
      messages = entries_length _ 3 16 (drop 1 b);
      threads = entries_length thread_from 73 4 (drop 49 b);
      each = λ i l. entries_each thread_from 73 SizedThread thread_sized 4 (drop 49 b) i fresh_thread l;
    }

-- ---- what is well formed
fresh_sized : SizedThread fresh_thread
unfolding fresh_thread
fresh_sized = record { registers = refl; coherence = refl; forward = refl }

pub formed_machine_sized : (p : Program) (x : Machine) → Formed p x → SizedMachine x
formed_machine_sized p x f =
    let few = ((program_iff p).0 f.program_formed).few_threads in
    let o = (machine_iff p few x).0 f.machine_formed in
    record {
      messages = o.memory_ok.places;
      threads = o.four;
      each =
          λ i l.
          elim (dec_lt i p.threads) [
            | yes h ↦ record { registers = (o.states i h).registers; coherence = (o.states i h).locations; forward = (o.states i h).forwards }
            | no h ↦ subst SizedThread (sym (o.unused i (omega arith))) fresh_sized
          ];
    }
