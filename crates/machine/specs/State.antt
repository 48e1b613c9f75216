-- Messages, a thread's state, the machine; and the small changes of a thread's state that the rules are made of.
-- Assumes nothing.
use Rattle.std.specs.Prelude.{Bool, ◌&&◌, ℕ, max, ◌+◌, ◌-◌, ◌/◌, ◌%◌, ◌^◌, eqb, ltb, get_or, set, replicate}
use Rattle.theory_views.specs.Views.{raise_at}
pub use Rattle.machine.specs.declared.Message.{Message}
pub use Rattle.machine.specs.declared.Memory.{Memory}
pub use Rattle.machine.specs.declared.Register.{Register}
pub use Rattle.machine.specs.declared.Forward.{Forward}
pub use Rattle.machine.specs.declared.Views.{Views}
pub use Rattle.machine.specs.declared.Thread.{Thread}
pub use Rattle.machine.specs.declared.Machine.{Machine}

-- ---- the start: no message, no promise, and 0 for every number
abbrev pub no_message : Message
no_message = record { location = 0; value = 0; thread = 0 }

abbrev pub fresh_memory : Memory
fresh_memory = record { count = 0; messages = replicate 16 no_message }

abbrev pub fresh_register : Register
fresh_register = record { value = 0; view = 0 }

abbrev pub fresh_forward : Forward
fresh_forward = record { time = 0; view = 0 }

abbrev pub fresh_views : Views
fresh_views = record { rOld = 0; wOld = 0; rNew = 0; wNew = 0; cap = 0; rel = 0 }

unfoldable pub fresh_thread : Thread
fresh_thread = record {
  position = 0;
  registers = replicate 8 fresh_register;
  coherence = replicate 16 0;
  forward = replicate 16 fresh_forward;
  views = fresh_views;
  promises = 0;
}

-- THE FRESH MACHINE
unfoldable pub fresh : Machine
fresh = record { memory = fresh_memory; threads = replicate 4 fresh_thread }

-- the state of thread i
abbrev pub thread_of : Machine → ℕ → Thread
thread_of x i = get_or x.threads i fresh_thread

-- ---- memory: messages at times 1, 2, ..
-- the message at time t, for t from 1 up to the message count
abbrev pub message_at : Memory → ℕ → Message
message_at m t = get_or m.messages (t - 1) no_message

-- a message is appended
abbrev pub append : Memory → Message → Memory
append m w = record { count = m.count + 1; messages = set m.messages m.count w }

-- ---- the set of outstanding promises
-- time t is in the set: bit t - 1 is 1
unfoldable pub has : ℕ → ℕ → Bool
has p t = ltb 0 t && eqb (p / 2 ^ (t - 1) % 2) 1

-- the set with time t, which is not in it
unfoldable pub with : ℕ → ℕ → ℕ
with p t = p + 2 ^ (t - 1)

-- the set without time t, which is in it
unfoldable pub without : ℕ → ℕ → ℕ
without p t = p - 2 ^ (t - 1)

-- ---- views raised: merged by taking the larger
abbrev pub raise_r_old : ℕ → Views → Views
raise_r_old v w = record { rOld = max w.rOld v; wOld = w.wOld; rNew = w.rNew; wNew = w.wNew; cap = w.cap; rel = w.rel }

abbrev pub raise_w_old : ℕ → Views → Views
raise_w_old v w = record { rOld = w.rOld; wOld = max w.wOld v; rNew = w.rNew; wNew = w.wNew; cap = w.cap; rel = w.rel }

abbrev pub raise_r_new : ℕ → Views → Views
raise_r_new v w = record { rOld = w.rOld; wOld = w.wOld; rNew = max w.rNew v; wNew = w.wNew; cap = w.cap; rel = w.rel }

abbrev pub raise_w_new : ℕ → Views → Views
raise_w_new v w = record { rOld = w.rOld; wOld = w.wOld; rNew = w.rNew; wNew = max w.wNew v; cap = w.cap; rel = w.rel }

abbrev pub raise_cap : ℕ → Views → Views
raise_cap v w = record { rOld = w.rOld; wOld = w.wOld; rNew = w.rNew; wNew = w.wNew; cap = max w.cap v; rel = w.rel }

abbrev pub raise_rel : ℕ → Views → Views
raise_rel v w = record { rOld = w.rOld; wOld = w.wOld; rNew = w.rNew; wNew = w.wNew; cap = w.cap; rel = max w.rel v }

-- ---- changes of a thread's state
abbrev pub with_position : ℕ → Thread → Thread
with_position n s = record { position = n; registers = s.registers; coherence = s.coherence; forward = s.forward; views = s.views; promises = s.promises }

-- register r takes a value and a view
abbrev pub with_register : ℕ → ℕ → ℕ → Thread → Thread
with_register r v w s = record { position = s.position; registers = set s.registers r (record { value = v; view = w }); coherence = s.coherence; forward = s.forward; views = s.views; promises = s.promises }

-- the coherence view of location l raised by v
abbrev pub raise_coherence : ℕ → ℕ → Thread → Thread
raise_coherence l v s = record { position = s.position; registers = s.registers; coherence = raise_at s.coherence l v; forward = s.forward; views = s.views; promises = s.promises }

-- the forward pair of location l becomes time t and view v
abbrev pub with_forward : ℕ → ℕ → ℕ → Thread → Thread
with_forward l t v s = record { position = s.position; registers = s.registers; coherence = s.coherence; forward = set s.forward l (record { time = t; view = v }); views = s.views; promises = s.promises }

abbrev pub with_views : Views → Thread → Thread
with_views w s = record { position = s.position; registers = s.registers; coherence = s.coherence; forward = s.forward; views = w; promises = s.promises }

abbrev pub with_promises : ℕ → Thread → Thread
with_promises p s = record { position = s.position; registers = s.registers; coherence = s.coherence; forward = s.forward; views = s.views; promises = p }

-- the promise at time t is taken out
abbrev pub take_out : ℕ → Thread → Thread
take_out t s = with_promises (without s.promises t) s
