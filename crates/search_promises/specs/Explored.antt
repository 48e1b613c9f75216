-- Exploration: which stores can come to fulfil a promise that is made now, the other promises being kept too.
-- Assumes nothing.
use Rattle.std.specs.Prelude.{ℕ, ◌+◌}
use Rattle.program.specs.declared.Code.{Code}
use Rattle.machine.specs.declared.Message.{Message}
use Rattle.machine.specs.declared.Memory.{Memory}
use Rattle.machine.specs.declared.Thread.{Thread}
use Rattle.machine.specs.State.{append}
use Rattle.machine.specs.Rules.{add_promise}
use Rattle.certify_sought.specs.Aim.{Meets}

-- a message at no location: no load can read it
abbrev pub hole : Message
hole = record { location = 16; value = 0; thread = 0 }

-- REACHED: with the hole in place of the promise, the thread alone comes to a store numbered k that fills it
abbrev pub Fillable : Code → Memory → Thread → ℕ → Type 0
Fillable c m s k = Meets c 0 (append m hole) (add_promise (append m hole) s) (m.count + 1) k
