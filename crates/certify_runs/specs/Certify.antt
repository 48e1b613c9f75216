-- Certification: a thread that runs by itself on this memory can come to a state without outstanding promises, this one included. It is shown by the first run that does.
-- Assumes nothing.
use Rattle.std.specs.Prelude.{Bool, true, false, cond, List, [], ◌∷◌, ℕ, zero, suc, eqb, ltb}
use Rattle.std.proofs.Math.Option.{Option, none, some, map}
use Rattle.program.specs.Program.{instr_at}
use Rattle.machine.specs.State.{append}
use Rattle.machine.specs.Rules.{Executed, refused, next, execute, add_promise, store_message}
use Rattle.certify_runs.specs.Below.{Code, Instr, Compute, Load, Store, Branch, Fence, Message, Memory, Thread}
pub use Rattle.certify_runs.specs.declared.RunStep.{RunStep}

-- ---- the steps of a run
-- the next instruction is executed at time t
abbrev pub executed : ℕ → RunStep
executed t = record { kind = 0; time = t }

-- the next instruction, a store that was not promised before, is executed with a message of its own at time t
abbrev pub own_message : ℕ → RunStep
own_message t = record { kind = 1; time = t }

-- the steps of a run, if there is one
abbrev pub Steps : Type 0
Steps = Option (List RunStep)

-- there is one
abbrev pub found : Steps → Bool
found none = false
found (some l) = true

-- ---- the first run
-- those of the first; where it is none, those of the second
unfoldable pub or_else : Steps → Steps → Steps
or_else none r = r
or_else (some l) r = some l

-- the first run that there is for one of the n numbers from k upward
unfoldable pub first_from : (ℕ → Steps) → ℕ → ℕ → Steps
first_from f k zero = none
first_from f k (suc n) = let rest = first_from f (suc k) n in or_else (f k) rest

-- the message of a store of thread i, with the thread's registers
abbrev pub message_of : ℕ → Thread → Instr → Option Message
message_of i s (Compute k r a b) = none
message_of i s (Load k r a b) = none
message_of i s (Store k a d) = some (store_message i a d s)
message_of i s (Branch n a b) = none
message_of i s (Fence k) = none

-- go on from an executed instruction: that step, then those of f
abbrev pub through : RunStep → (Thread → Steps) → Executed → Steps
through a f (refused n) = none
through a f (next s) = map (λ (l : List RunStep). a ∷ l) (f s)

-- a store that was not promised before, where fewer than 16 messages stand: it appends a message and fulfils that; f goes on from there
unfoldable pub by_own_message : (Memory → Thread → Steps) → Instr → Memory → Thread → Option Message → Steps
by_own_message f x m s none = none
by_own_message f x m s (some w) =
    let m' = append m w in
    cond (ltb m.count 16) (through (own_message m'.count) (f m') (execute x m' m'.count (add_promise m' s))) none

-- one instruction: every time from 0 upward is tried, then a store's own message; f goes on from there
unfoldable pub one_more : (Memory → Thread → Steps) → ℕ → Memory → Thread → Option Instr → Steps
one_more f i m s none = none
one_more f i m s (some x) =
    or_else (first_from (λ t. through (executed t) (f m) (execute x m t s)) 0 (suc m.count)) (by_own_message f x m s (message_of i s x))

-- the first run of thread i to an empty promise set within n instructions; it ends at the first
unfoldable pub first_run_within : ℕ → Code → ℕ → Memory → Thread → Steps
first_run_within zero c i m s = cond (eqb s.promises 0) (some []) none
first_run_within (suc n) c i m s = cond (eqb s.promises 0) (some []) (one_more (first_run_within n c i) i m s (instr_at c s.position))

-- THE FIRST CERTIFYING RUN: each instruction moves the position on, so no run is longer than the thread
unfoldable pub first_run : Code → ℕ → Memory → Thread → Steps
first_run c i m s = first_run_within c.count c i m s

-- CERTIFIED: there is one
unfoldable pub certified : Code → ℕ → Memory → Thread → Bool
certified c i m s = found (first_run c i m s)
