-- A thread with some of its parts changed.
-- Assumes nothing.
use Rattle.std.specs.Prelude.{List, ℕ}
use Rattle.certify_runs.specs.Below.{Register, Views, Thread}

-- the thread with other registers and views, at position n
abbrev pub standing : Thread → List Register → ℕ → Views → Thread
standing s registers n views = record { position = n; registers = registers; coherence = s.coherence; forward = s.forward; views = views; promises = s.promises }

-- the thread at position n
abbrev pub at_position : Thread → ℕ → Thread
at_position s n = standing s s.registers n s.views

-- the thread with other coherence views
abbrev pub cohering : Thread → List ℕ → Thread
cohering s xs = record { position = s.position; registers = s.registers; coherence = xs; forward = s.forward; views = s.views; promises = s.promises }
