-- What the search of runs shows besides: where certification is asked for and is found, the first run that certifies.
-- Assumes nothing.
use Rattle.std.specs.Prelude.{◌≡◌, List, ◌∷◌, ℕ, ◌<◌}
use Rattle.std.proofs.Math.Option.{some}
use Rattle.machine.specs.State.{append}
use Rattle.machine.specs.Rules.{next, execute, add_promise}
use Rattle.certify_runs.specs.Below.{Code, Instr, Message, Memory, Thread}
use Rattle.certify_runs.specs.declared.RunStep.{RunStep}
use Rattle.certify_runs.specs.Certify.{executed, own_message, message_of}
use Rattle.certify_runs.specs.First.{First}
use Rattle.certify_trail.specs.Trail.{Trail}
use Rattle.certify_sought.specs.declared.Met.{Met}
use Rattle.certify_sought.specs.declared.Sought.{Sought}
use Rattle.certify_sought.specs.Numbers.{certifying}
use Rattle.certify_tried.specs.declared.Reached.{Reached}
use Rattle.certify_tried.specs.declared.Tried.{Tried}

-- SHOWS: the words hold the first certifying run of the thread
abbrev pub Shows : Code → ℕ → Memory → Thread → Sought → Reached → Type 0
Shows c i m s q r = q ≡ certifying → r.met.least ≡ 0 → (l : List RunStep) × (First c i m s l × Trail r.cares.of l)

-- the instruction executed at time t leads to it
pub record GoesAt (c : Code) (i : ℕ) (m : Memory) (s : Thread) (x : Instr) (t : ℕ) (words : List ℕ) : Type 0 where
  pub after : Thread
  pub does : execute x m t s ≡ next after
  pub steps : List RunStep
  pub first : First c i m after steps
  pub written : Trail words (executed t ∷ steps)

-- the words hold that step and then the first certifying run from there, if it was not met before
abbrev pub ShowsAt : Code → ℕ → Memory → Thread → Instr → Sought → Met → ℕ → Tried → Type 0
ShowsAt c i m s x q p t r = q ≡ certifying → p ≡ q.met → r.met.least ≡ 0 → GoesAt c i m s x t r.cares.of

-- a store with its own message leads to it
pub record GoesOwn (c : Code) (i : ℕ) (m : Memory) (s : Thread) (x : Instr) (words : List ℕ) : Type 0 where
  pub message : Message
  pub after : Thread
  pub is_own : message_of i s x ≡ some message
  pub fewer : m.count < 16
  pub does : execute x (append m message) (append m message).count (add_promise (append m message) s) ≡ next after
  pub steps : List RunStep
  pub first : First c i (append m message) after steps
  pub written : Trail words (own_message (append m message).count ∷ steps)

abbrev pub ShowsOwn : Code → ℕ → Memory → Thread → Instr → Sought → Reached → Type 0
ShowsOwn c i m s x q r = q ≡ certifying → r.met.least ≡ 0 → GoesOwn c i m s x r.cares.of
