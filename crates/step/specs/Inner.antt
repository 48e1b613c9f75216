-- What the parts of a step promise each other: a step of one thread, in any machine that has it; and how many steps can follow.
-- Assumes nothing.
use Rattle.std.specs.Prelude.{◌≡◌, ◌⊎◌, ℕ, zero, suc, ◌+◌, ◌-◌, ◌<◌, T, set, Result, Ok, Err}
use Rattle.program.specs.Tests.{sum_below}
use Rattle.program.specs.Program.{code_of}
use Rattle.program.specs.Counts.{stores_from}
use Rattle.program.specs.declared.Refusal.{Refusal}
use Rattle.machine.specs.State.{no_message, thread_of, append}
use Rattle.machine.specs.Rules.{add_promise}
use Rattle.certify_runs.specs.Certify.{certified}
use Rattle.certify_runs.specs.Inner.{outstanding}
use Rattle.certify_runs.specs.Below.{Code, Program, Message, Memory, Thread, Machine}
use Rattle.step.specs.Step.{Step, Decision, rejected, accepted, settle, execute_step, promise_step, kind_step}

-- the message that a promise appends
abbrev pub promised_by : Step → Message
promised_by k = record { location = k.a; value = k.b; thread = k.thread }

-- the memory after a step that is taken, by its kind
abbrev pub memory_after : Memory → Step → ℕ → Memory
memory_after m k zero = m
memory_after m k (suc n) = append m (promised_by k)

-- r is that memory; a promise that is taken has room
abbrev pub Remembers : Memory → Step → Memory → Type 0
Remembers m k r = (k.kind ≡ 0) ⊎ (m.count < 16) → r ≡ memory_after m k k.kind

-- the memory without its newest message
abbrev pub without_newest : Memory → Memory
without_newest m = record { count = m.count - 1; messages = set m.messages (m.count - 1) no_message }

-- what the next state of thread i on memory m, or its refusal, says of a machine
abbrev pub decision : Machine → ℕ → Memory → Result Thread Refusal → Decision
decision x i m (Ok s) = accepted (record { memory = m; threads = set x.threads i s })
decision x i m (Err r) = rejected r

-- thread i of the machine has code c and state s, on memory m
pub record Here (c : Code) (m : Memory) (s : Thread) (p : Program) (x : Machine) (i : ℕ) : Type 0 where
  pub code : code_of p i ≡ c
  pub memory : x.memory ≡ m
  pub thread : thread_of x i ≡ s

-- r is what the definition says, in every machine with such a thread
abbrev pub Settles : Code → ℕ → Memory → Thread → Result Thread Refusal → Type 0
Settles c i m s r = (p : Program) (x : Machine) → code_of p i ≡ c → settle p x i m s ≡ decision x i m r

abbrev pub Executes : Code → ℕ → Memory → Thread → ℕ → Result Thread Refusal → Type 0
Executes c i m s t r = (p : Program) (x : Machine) → Here c m s p x i → execute_step p x i t ≡ decision x i m r

abbrev pub Promises : Code → ℕ → Memory → Thread → ℕ → ℕ → Result Thread Refusal → Type 0
Promises c i m s l v r =
    (p : Program) (x : Machine) → Here c m s p x i → promise_step p x i l v ≡ decision x i (append m (record { location = l; value = v; thread = i })) r

-- the promise leaves thread i certified
abbrev pub LeavesCertified : Code → ℕ → Memory → Thread → ℕ → ℕ → Type 0
LeavesCertified c i m s l v =
    let n = append m (record { location = l; value = v; thread = i }) in
    T (certified c i n (add_promise n s))

-- r is what the definition says, with every code with which it does
abbrev pub PromisesKept : ℕ → Memory → Thread → ℕ → ℕ → Result Thread Refusal → Type 0
PromisesKept i m s l v r = (c : Code) → LeavesCertified c i m s l v → Promises c i m s l v r

abbrev pub Moves : Code → Memory → Thread → Step → Result Thread Refusal → Type 0
Moves c m s k r = (p : Program) (x : Machine) → Here c m s p x k.thread → kind_step p x k k.kind ≡ decision x k.thread (memory_after m k k.kind) r

-- ---- how many steps can follow
-- the instructions left to a thread, and its stores left less its promises outstanding
abbrev pub left : Code → Thread → ℕ
left c s = (c.count - s.position) + (stores_from c s.position - outstanding s)

-- THE POTENTIAL: what is left to all threads
unfoldable pub potential : Program → Machine → ℕ
potential p x = sum_below (λ i. left (code_of p i) (thread_of x i)) p.threads
