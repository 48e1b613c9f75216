-- Two threads of which one can do what the other does: with views no larger, and with registers that hold the same as far as a failure rests on them.
-- Assumes nothing.
use Rattle.std.specs.Prelude.{◌≡◌, List, ℕ, ◌≤◌, length, get_or}
use Rattle.theory_views.specs.Views.{view_at}
use Rattle.machine.specs.State.{fresh_register, fresh_forward}
use Rattle.certify_runs.specs.Below.{Forward, Thread}
use Rattle.certify_cares.specs.Cares.{Agreeing}
pub use Rattle.certify_lost.specs.Lower.{Lower}

-- the forward pairs at l: the same time, with a view that is at most the other
abbrev pub Forwarded : List Forward → List Forward → ℕ → Type 0
Forwarded xs ys l = ((get_or xs l fresh_forward).time ≡ (get_or ys l fresh_forward).time) × ((get_or xs l fresh_forward).view ≤ (get_or ys l fresh_forward).view)

-- UNDER: the same position, promises and forward times, and no larger views
pub record Under (s s' : Thread) : Type 0 where
  pub same_position : s.position ≡ s'.position
  pub same_promises : s.promises ≡ s'.promises
  pub registers_long : length s.registers ≡ length s'.registers
  pub registers_low : (k : ℕ) → (get_or s.registers k fresh_register).view ≤ (get_or s'.registers k fresh_register).view
  pub coherence_long : length s.coherence ≡ length s'.coherence
  pub coherence_low : (l : ℕ) → view_at s.coherence l ≤ view_at s'.coherence l
  pub forward_long : length s.forward ≡ length s'.forward
  pub forward_same : (l : ℕ) → Forwarded s.forward s'.forward l
  pub views_low : Lower s.views s'.views

-- what the thread s, which failed, rests on is so in s' too
pub record Rests (cares : List ℕ) (s s' : Thread) : Type 0 where
  pub under : Under s s'
  pub agreeing : Agreeing cares s s'
