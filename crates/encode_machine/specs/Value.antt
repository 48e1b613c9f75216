-- A machine as 341 bytes: message count; 16 × (location, value, thread); 4 × (position; 8 × (value, view); 16 × coherence view;
-- 16 × (forward time, forward view); rOld, wOld, rNew, wNew, CAP, Rel; promises, low byte first, bit t − 1 for time t).
-- Assumes nothing.
use Rattle.std.specs.Prelude.{List, [], ◌∷◌, ◌++◌, ℕ, get_or, drop}
use Rattle.theory_views.specs.Views.{view_at}
use Rattle.program.specs.File.{byte_at}
use Rattle.machine.specs.declared.Message.{Message}
use Rattle.machine.specs.declared.Memory.{Memory}
use Rattle.machine.specs.declared.Register.{Register}
use Rattle.machine.specs.declared.Forward.{Forward}
use Rattle.machine.specs.declared.Views.{Views}
use Rattle.machine.specs.declared.Thread.{Thread}
use Rattle.machine.specs.declared.Machine.{Machine}
use Rattle.machine.specs.State.{no_message, fresh_register, fresh_forward, thread_of}
use Rattle.encode_bytes.specs.Lists.{joined, entries}
use Rattle.encode_bytes.specs.Numbers.{word16, word16_from}

-- ---- the bytes of a machine
-- 3 bytes
abbrev pub message_bytes : Message → List ℕ
message_bytes w = w.location ∷ w.value ∷ w.thread ∷ []

-- 49 bytes
unfoldable pub memory_bytes : Memory → List ℕ
memory_bytes m = m.count ∷ joined (λ k. message_bytes (get_or m.messages k no_message)) 0 16

-- 2 bytes
abbrev pub register_bytes : Register → List ℕ
register_bytes r = r.value ∷ r.view ∷ []

-- 2 bytes
abbrev pub forward_bytes : Forward → List ℕ
forward_bytes f = f.time ∷ f.view ∷ []

-- 6 bytes
abbrev pub views_bytes : Views → List ℕ
views_bytes w = w.rOld ∷ w.wOld ∷ w.rNew ∷ w.wNew ∷ w.cap ∷ w.rel ∷ []

-- 73 bytes
unfoldable pub thread_bytes : Thread → List ℕ
thread_bytes s =
    (s.position ∷ [])
    ++ (joined (λ k. register_bytes (get_or s.registers k fresh_register)) 0 8
    ++ (joined (λ k. view_at s.coherence k ∷ []) 0 16
    ++ (joined (λ k. forward_bytes (get_or s.forward k fresh_forward)) 0 16
    ++ (views_bytes s.views
    ++ word16 s.promises))))

-- A MACHINE VALUE
unfoldable pub machine_bytes : Machine → List ℕ
machine_bytes x = memory_bytes x.memory ++ joined (λ i. thread_bytes (thread_of x i)) 0 4

-- ---- the machine of such bytes: each part is read from the start of the bytes that are left
abbrev pub message_from : List ℕ → Message
message_from b = record { location = byte_at b 0; value = byte_at b 1; thread = byte_at b 2 }

unfoldable pub memory_from : List ℕ → Memory
memory_from b = record { count = byte_at b 0; messages = entries message_from 3 16 (drop 1 b) }

abbrev pub register_from : List ℕ → Register
register_from b = record { value = byte_at b 0; view = byte_at b 1 }

abbrev pub forward_from : List ℕ → Forward
forward_from b = record { time = byte_at b 0; view = byte_at b 1 }

abbrev pub views_from : List ℕ → Views
views_from b = record { rOld = byte_at b 0; wOld = byte_at b 1; rNew = byte_at b 2; wNew = byte_at b 3; cap = byte_at b 4; rel = byte_at b 5 }

unfoldable pub thread_from : List ℕ → Thread
thread_from b =
    record {
      position = byte_at b 0;
      registers = entries register_from 2 8 (drop 1 b);
      coherence = entries (λ c. byte_at c 0) 1 16 (drop 17 b);
      forward = entries forward_from 2 16 (drop 33 b);
      views = views_from (drop 65 b);
      promises = word16_from (drop 71 b);
    }

-- THE MACHINE OF A MACHINE VALUE
unfoldable pub machine_of : List ℕ → Machine
machine_of b = record { memory = memory_from b; threads = entries thread_from 73 4 (drop 49 b) }
