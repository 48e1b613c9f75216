-- A machine value: decoding after encoding, and encoding after decoding, change nothing.
-- Assumes nothing.
use mathlib.Core.Path.{◌≡◌, refl, sym, ap, ap₂, ◌∙◌}
use mathlib.Core.List.{List, [], ◌∷◌, ◌++◌, append_assoc, append-nil}
use Prim.Native.Nat.{ℕ, ◌+◌, ◌*◌, ◌/◌, ◌%◌, ◌≤◌}
use native.Mathlib.Omega.{arith}
use lib.ListN.{length, get_or, drop, length-drop, drop_of_length-le}
use lib.Seq.{drop-cons, drop_at}
use Rattle.program.specs.File.{byte_at}
use Rattle.theory_views.specs.Views.{view_at}
use Rattle.machine.specs.State.{no_message, fresh_register, fresh_forward, fresh_thread, thread_of}
use Rattle.machine.specs.declared.Memory.{Memory}
use Rattle.machine.specs.declared.Thread.{Thread}
use Rattle.machine.specs.declared.Machine.{Machine}
use Rattle.encode_bytes.specs.Lists.{joined, entries}
use Rattle.encode_bytes.specs.Inner.{AllBytes}
use Rattle.encode_bytes.specs.Numbers.{word16, word16_from}
use Rattle.encode_machine.specs.Value.{message_bytes, memory_bytes, register_bytes, forward_bytes, views_bytes, thread_bytes, machine_bytes, message_from, memory_from, register_from, forward_from, views_from, thread_from, machine_of}
use Rattle.encode_machine.specs.Sized.{SizedThread, SizedMachine}
use Rattle.encode_machine.proofs.Lengths.{memory_length, registers_length, coherence_length, forward_length, thread_length}
use Rattle.encode_bytes.proofs.Entries.{run_again, bytes_drop, part_then, part_at, drop_part, entries_back, entries_again}

-- ---- decoding after encoding
memory_back : (m : Memory) → length m.messages ≡ 16 → (rest : List ℕ) → memory_from (memory_bytes m ++ rest) ≡ m
unfolding memory_from memory_bytes
memory_back m l rest =
    let e = entries_back message_bytes message_from 3 (λ x. refl) m.messages no_message (λ j h r. refl) 16 0 (sym l) rest in
    λ i. record { count = m.count; messages = e i }

thread_back : (s : Thread) → SizedThread s → (rest : List ℕ) → thread_from (thread_bytes s ++ rest) ≡ s
unfolding thread_from thread_bytes
thread_back s z rest =
    let w : List ℕ = word16 s.promises in
    let v : List ℕ = views_bytes s.views in
    let f : List ℕ = joined (λ k. forward_bytes (get_or s.forward k fresh_forward)) 0 16 in
    let c : List ℕ = joined (λ k. view_at s.coherence k ∷ []) 0 16 in
    let r : List ℕ = joined (λ k. register_bytes (get_or s.registers k fresh_register)) 0 8 in
    let b : List ℕ = s.position ∷ ((r ++ (c ++ (f ++ (v ++ w)))) ++ rest) in
    let d17 : drop 17 b ≡ (c ++ (f ++ (v ++ w))) ++ rest = drop_part 1 16 b r (c ++ (f ++ (v ++ w))) rest refl (registers_length s) in
    let d33 : drop 33 b ≡ (f ++ (v ++ w)) ++ rest = drop_part 17 16 b c (f ++ (v ++ w)) rest d17 (coherence_length s) in
    let d65 : drop 65 b ≡ (v ++ w) ++ rest = drop_part 33 32 b f (v ++ w) rest d33 (forward_length s) in
    let d71 : drop 71 b ≡ w ++ rest = drop_part 65 6 b v w rest d65 refl in
    let registers : entries register_from 2 8 (drop 1 b) ≡ s.registers =
    ap (entries register_from 2 8) (append_assoc r (c ++ (f ++ (v ++ w))) rest)
    ∙ entries_back register_bytes register_from 2 (λ x. refl) s.registers fresh_register (λ j h q. refl) 8 0 (sym z.registers) ((c ++ (f ++ (v ++ w))) ++ rest)
    in
    let coherence : entries (λ a. byte_at a 0) 1 16 (drop 17 b) ≡ s.coherence =
    ap (entries (λ a. byte_at a 0) 1 16) (d17 ∙ append_assoc c (f ++ (v ++ w)) rest)
    ∙ entries_back (λ a. a ∷ []) (λ a. byte_at a 0) 1 (λ x. refl) s.coherence 0 (λ j h q. refl) 16 0 (sym z.coherence) ((f ++ (v ++ w)) ++ rest)
    in
    let forward : entries forward_from 2 16 (drop 33 b) ≡ s.forward =
    ap (entries forward_from 2 16) (d33 ∙ append_assoc f (v ++ w) rest)
    ∙ entries_back forward_bytes forward_from 2 (λ x. refl) s.forward fresh_forward (λ j h q. refl) 16 0 (sym z.forward) ((v ++ w) ++ rest)
    in
    let views : views_from (drop 65 b) ≡ s.views = ap views_from d65 in
    let number : s.promises % 256 + 256 * (s.promises / 256) ≡ s.promises = omega arith in
    let promises : word16_from (drop 71 b) ≡ s.promises = ap word16_from d71 ∙ number in
    λ i. record { position = s.position; registers = registers i; coherence = coherence i; forward = forward i; views = views i; promises = promises i }

pub machine_back : (x : Machine) → SizedMachine x → machine_of (machine_bytes x) ≡ x
unfolding machine_of machine_bytes
machine_back x z =
    let ts : List ℕ = joined (λ i. thread_bytes (thread_of x i)) 0 4 in
    let m : List ℕ = memory_bytes x.memory in
    let memory : memory_from (m ++ ts) ≡ x.memory = memory_back x.memory z.messages ts in
    let threads : entries thread_from 73 4 (drop 49 (m ++ ts)) ≡ x.threads =
    ap (entries thread_from 73 4) (drop_at m ts 49 (memory_length x.memory) ∙ sym (append-nil ts))
    ∙ entries_back thread_bytes thread_from 73 thread_length x.threads fresh_thread (λ j h r. thread_back (thread_of x j) (z.each j (let q = z.threads in omega arith)) r) 4 0 (sym z.threads) []
    in
    λ i. record { memory = memory i; threads = threads i }

-- ---- encoding after decoding
memory_again : (b : List ℕ) → 49 ≤ length b → AllBytes b → memory_bytes (memory_from b) ++ drop 49 b ≡ b
unfolding memory_from memory_bytes
memory_again b h o =
    let ms : List ℕ = joined (λ k. message_bytes (get_or (entries message_from 3 16 (drop 1 b)) k no_message)) 0 16 in
    let e = entries_again message_bytes message_from 3 no_message (λ c l q. run_again c 0 3 l) 16 (drop 1 b) (rw (length-drop 1 b) (omega arith)) (bytes_drop 1 b o) in
    ap (λ (x : List ℕ). byte_at b 0 ∷ x) (part_at 1 48 b ms e) ∙ sym (drop-cons b 0 0 (omega arith))

-- two bytes, read as a number and written again
word_again : (b : List ℕ) → 2 ≤ length b → AllBytes b → word16 (word16_from b) ++ drop 2 b ≡ b
word_again b h o =
    let low : (byte_at b 0 + 256 * byte_at b 1) % 256 ≡ byte_at b 0 = omega (arith, o 0) in
    let high : (byte_at b 0 + 256 * byte_at b 1) / 256 ≡ byte_at b 1 = omega (arith, o 0) in
    ap₂ (λ (x y : ℕ). x ∷ y ∷ drop 2 b) low high ∙ run_again b 0 2 h

thread_again : (b : List ℕ) → 73 ≤ length b → AllBytes b → thread_bytes (thread_from b) ++ drop 73 b ≡ b
unfolding thread_from thread_bytes
thread_again b h o =
    let w : List ℕ = word16 (word16_from (drop 71 b)) in
    let v : List ℕ = views_bytes (views_from (drop 65 b)) in
    let f : List ℕ = joined (λ k. forward_bytes (get_or (entries forward_from 2 16 (drop 33 b)) k fresh_forward)) 0 16 in
    let c : List ℕ = joined (λ k. view_at (entries (λ a. byte_at a 0) 1 16 (drop 17 b)) k ∷ []) 0 16 in
    let r : List ℕ = joined (λ k. register_bytes (get_or (entries register_from 2 8 (drop 1 b)) k fresh_register)) 0 8 in
    let er : r ++ drop 17 b ≡ drop 1 b =
    part_at 1 16 b r (entries_again register_bytes register_from 2 fresh_register (λ a l q. run_again a 0 2 l) 8 (drop 1 b) (rw (length-drop 1 b) (omega arith)) (bytes_drop 1 b o))
    in
    let ec : c ++ drop 33 b ≡ drop 17 b =
    part_at 17 16 b c (entries_again (λ a. a ∷ []) (λ a. byte_at a 0) 1 0 (λ a l q. run_again a 0 1 l) 16 (drop 17 b) (rw (length-drop 17 b) (omega arith)) (bytes_drop 17 b o))
    in
    let ef : f ++ drop 65 b ≡ drop 33 b =
    part_at 33 32 b f (entries_again forward_bytes forward_from 2 fresh_forward (λ a l q. run_again a 0 2 l) 16 (drop 33 b) (rw (length-drop 33 b) (omega arith)) (bytes_drop 33 b o))
    in
    let ev : v ++ drop 71 b ≡ drop 65 b = part_at 65 6 b v (run_again (drop 65 b) 0 6 (rw (length-drop 65 b) (omega arith))) in
    let ew : w ++ drop 73 b ≡ drop 71 b = part_at 71 2 b w (word_again (drop 71 b) (rw (length-drop 71 b) (omega arith)) (bytes_drop 71 b o)) in
    let rest : List ℕ = drop 73 b in
    part_then (byte_at b 0 ∷ []) (r ++ (c ++ (f ++ (v ++ w)))) rest (drop 1 b) b (run_again b 0 1 (omega arith))
    (part_then r (c ++ (f ++ (v ++ w))) rest (drop 17 b) (drop 1 b) er
    (part_then c (f ++ (v ++ w)) rest (drop 33 b) (drop 17 b) ec
    (part_then f (v ++ w) rest (drop 65 b) (drop 33 b) ef
    (part_then v w rest (drop 71 b) (drop 65 b) ev ew))))

pub machine_again : (b : List ℕ) → length b ≡ 341 → AllBytes b → machine_bytes (machine_of b) ≡ b
unfolding machine_of machine_bytes
machine_again b l o =
    let ts : List ℕ = joined (λ i. thread_bytes (get_or (entries thread_from 73 4 (drop 49 b)) i fresh_thread)) 0 4 in
    let e : ts ++ drop 341 b ≡ drop 49 b =
    part_at 49 292 b ts (entries_again thread_bytes thread_from 73 fresh_thread thread_again 4 (drop 49 b) (rw (length-drop 49 b) (omega arith)) (bytes_drop 49 b o))
    in
    let end : [] ≡ drop 341 b = sym (drop_of_length-le b {i = 341} (omega arith)) in
    sym (append-nil (memory_bytes (memory_from b) ++ ts)) ∙ ap (λ (x : List ℕ). (memory_bytes (memory_from b) ++ ts) ++ x) end
    ∙ part_then (memory_bytes (memory_from b)) ts (drop 341 b) (drop 49 b) b (memory_again b (omega arith) o) e
