-- A blind load: it reads 0 with no view of its own, and leaves coherence as it is.
-- Assumes nothing.
use Rattle.std.specs.Prelude.{◌≡◌, ℕ}
use Rattle.machine.specs.Rules.{view_of₂, load_pre, load_done}
use Rattle.certify_runs.specs.Below.{Operand, LoadMode, Memory, Thread}
use Rattle.certify_cares.specs.Cares.{care_of, Agreeing, AgreeingBut}
use Rattle.certify_under.specs.Threads.{cohering}
use Rattle.certify_sought.specs.declared.Met.{Met}
use Rattle.certify_tried.specs.Tried.{Reached}

-- the thread after it; at which location does not count, since coherence is put back
abbrev pub unread : LoadMode → ℕ → Operand → Operand → Memory → Thread → Thread
unread k r a b m s = cohering (load_done k r m 0 0 (view_of₂ s a b) (load_pre k (view_of₂ s a b) s.views) s) s.coherence

-- what a search after a blind load into r tells: no number is met but those known before, and what is read does not count; so all fails, and rests on the same but for r
pub record Told (r : ℕ) (then : Reached) (met : Met) (found : Reached) : Type 0 where
  pub none_new : then.met ≡ met
  pub uncounted : care_of then.cares.of r ≡ 0
  pub as_before : found.met ≡ met
  pub others : (s s' : Thread) → Agreeing found.cares.of s s' → AgreeingBut then.cares.of r s s'
