-- Certifying runs, as a relation: what `certified` tests.
-- Assumes nothing.
use Rattle.std.specs.Prelude.{◌≡◌, ℕ, ◌+◌, ◌≤◌, ◌<◌, length}
use Rattle.std.proofs.Math.Option.{some}
use Rattle.program.specs.Program.{instr_at}
use Rattle.machine.specs.State.{message_at, append}
use Rattle.machine.specs.Rules.{next, execute, add_promise}
use Rattle.certify_runs.specs.Below.{Code, Instr, Message, Memory, Thread}
use Rattle.certify_runs.specs.Certify.{message_of}

-- thread i with code c, alone on a memory, by executing instructions, comes to a state with the Goal; Room says on which memories a store may append
pub data Comes (Goal : Memory → Thread → Type 0) (Room : Memory → Type 0) (c : Code) (i : ℕ) : Memory → Thread → Type 0 where
  -- now
  done : {m : Memory} {s : Thread} → Goal m s → Comes Goal Room c i m s
  -- or after an instruction, executed at a time of the memory
  by : {m : Memory} {s : Thread} (x : Instr) (t : ℕ) (s' : Thread) → instr_at c s.position ≡ some x → t ≤ m.count
      → execute x m t s ≡ next s' → Comes Goal Room c i m s' → Comes Goal Room c i m s
  -- or after a store that was not promised before: it appends a message and fulfils that
  own : {m : Memory} {s : Thread} (x : Instr) (w : Message) (s' : Thread) → instr_at c s.position ≡ some x → message_of i s x ≡ some w → Room m
      → execute x (append m w) (append m w).count (add_promise (append m w) s) ≡ next s' → Comes Goal Room c i (append m w) s' → Comes Goal Room c i m s

-- it comes to an empty promise set
abbrev pub Run : (Memory → Type 0) → Code → ℕ → Memory → Thread → Type 0
Run = Comes (λ m s. s.promises ≡ 0)

-- fewer than 16 messages stand
abbrev pub Fewer : Memory → Type 0
Fewer m = m.count < 16

-- a certifying run with the limit of 16 messages: a store appends one where fewer stand
abbrev pub Certifying : Code → ℕ → Memory → Thread → Type 0
Certifying = Run Fewer

-- a certifying run without that limit, as the Promising-ARM paper (Pulte et al., PLDI 2019) has it; on a memory with room for what it appends, since a message without a place is lost
abbrev pub Unlimited : Code → ℕ → Memory → Thread → Type 0
Unlimited = Run (λ m. Unit {0})

-- m stands for the same messages as n, and has room for k more
pub record Roomier (m n : Memory) (k : ℕ) : Type 0 where
  pub same_count : m.count ≡ n.count
  pub same_messages : (t : ℕ) → 0 < t → t ≤ n.count → message_at m t ≡ message_at n t
  pub room : m.count + k ≤ length m.messages
