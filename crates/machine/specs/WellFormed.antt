-- Well formed: a machine of a program, as refusal 20 asks.
-- Assumes nothing.
use Rattle.std.specs.Prelude.{Bool, not, cond, ◌&&◌, ◌||◌, [], ◌∷◌, ℕ, suc, ◌^◌, eqb, leb, ltb, length, get_or}
use Rattle.theory_views.specs.Views.{view_at}
use Rattle.program.specs.Tests.{all_of, below}
use Rattle.program.specs.Program.{code_of}
use Rattle.machine.specs.Below.{Code, Program}
use Rattle.machine.specs.State.{Message, Memory, Views, Thread, Machine, fresh_register, fresh_forward, thread_of, message_at, has}

-- a message is to one of 16 locations, by a thread of the program
unfoldable pub message_test : ℕ → Message → Bool
message_test threads w = all_of (ltb w.location 16 ∷ ltb w.thread threads ∷ [])

unfoldable pub unused_message : Message → Bool
unused_message w = all_of (eqb w.location 0 ∷ eqb w.value 0 ∷ eqb w.thread 0 ∷ [])

-- at most 16 messages; the entries after them are 0
unfoldable pub memory_test : ℕ → Memory → Bool
memory_test threads m =
    all_of
    (leb m.count 16
    ∷ eqb (length m.messages) 16
    ∷ below (λ k. cond (ltb k m.count) (message_test threads (message_at m (suc k))) (unused_message (message_at m (suc k)))) 16
    ∷ [])

-- every view is at most the message count n
unfoldable pub views_test : ℕ → Views → Bool
views_test n w = all_of (leb w.rOld n ∷ leb w.wOld n ∷ leb w.rNew n ∷ leb w.wNew n ∷ leb w.cap n ∷ leb w.rel n ∷ [])

-- a promise at time t is at a message of thread i
unfoldable pub own_test : ℕ → Memory → ℕ → ℕ → Bool
own_test i m p t = not (has p t) || eqb (message_at m t).thread i

-- thread i, with code c, on memory m: its position is no further than its end; no view and no forward time is past the newest message;
-- what it has promised are messages of its own
unfoldable pub thread_test : Code → ℕ → Memory → Thread → Bool
thread_test c i m s =
    let n = m.count in
    all_of
    (leb s.position c.count
    ∷ eqb (length s.registers) 8
    ∷ below (λ k. leb (get_or s.registers k fresh_register).view n) 8
    ∷ eqb (length s.coherence) 16
    ∷ below (λ k. leb (view_at s.coherence k) n) 16
    ∷ eqb (length s.forward) 16
    ∷ below (λ k. let w = get_or s.forward k fresh_forward in leb w.time n && leb w.view n) 16
    ∷ views_test n s.views
    ∷ ltb s.promises (2 ^ n)
    ∷ below (λ k. own_test i m s.promises (suc k)) n
    ∷ [])

-- all entries of an unused thread are 0
unfoldable pub unused_thread : Thread → Bool
unused_thread s =
    all_of
    (eqb s.position 0
    ∷ eqb (length s.registers) 8
    ∷ below (λ k. let w = get_or s.registers k fresh_register in eqb w.value 0 && eqb w.view 0) 8
    ∷ eqb (length s.coherence) 16
    ∷ below (λ k. eqb (view_at s.coherence k) 0) 16
    ∷ eqb (length s.forward) 16
    ∷ below (λ k. let w = get_or s.forward k fresh_forward in eqb w.time 0 && eqb w.view 0) 16
    ∷ views_test 0 s.views
    ∷ eqb s.promises 0
    ∷ [])

-- A MACHINE OF PROGRAM p
unfoldable pub machine_test : Program → Machine → Bool
machine_test p x =
    all_of
    (memory_test p.threads x.memory
    ∷ eqb (length x.threads) 4
    ∷ below (λ i. cond (ltb i p.threads) (thread_test (code_of p i) i x.memory (thread_of x i)) (unused_thread (thread_of x i))) 4
    ∷ [])
