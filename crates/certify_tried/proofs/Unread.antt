-- What a blind load leaves is under what any load leaves.
-- Assumes nothing.
use mathlib.Core.Path.{◌≡◌, refl}
use mathlib.Core.List.{List}
use Prim.Native.Nat.{ℕ}
use Rattle.machine.specs.Rules.{next, view_of₂, load_pre, load_done, execute}
use Rattle.machine.proofs.Effects.{Effect, loaded, effect, load_pre_view, load_post_view}
use Rattle.certify_runs.specs.Below.{Operand, LoadMode, Load, Memory, Thread}
use Rattle.certify_cares.specs.Cares.{care_of, AgreeingBut}
use Rattle.certify_cares.proofs.Agreeing.{nothing_asked}
use Rattle.certify_under.specs.Under.{Under, Rests}
use Rattle.certify_under.specs.Threads.{cohering}
use Rattle.certify_under.proofs.Under.{post_any, load_idle_under}
use Rattle.certify_under.proofs.Resting.{set_agreeing}
use Rattle.certify_tried.specs.Blind.{unread}

-- the thread after a blind load, by its parts
pub unread_by : (k : LoadMode) (r : ℕ) (a b : Operand) (m : Memory) (s : Thread) (v p : ℕ) (d u : Thread) → v ≡ view_of₂ s a b → p ≡ load_pre k v s.views
    → d ≡ load_done k r m 0 0 v p s → u ≡ cohering d s.coherence → u ≡ unread k r a b m s
unread_by k r a b m s v p d u ev ep ed eu = rw (eu, ed, ep, ev) refl

-- what a blind load leaves is under what any load leaves
pub unread_rests : (m : Memory) (k : LoadMode) (r : ℕ) (a b : Operand) (s s' : Thread) → Under s s' → (K : List ℕ) → AgreeingBut K r s s' → care_of K r ≡ 0
    → (t : ℕ) (y : Thread) → execute (Load k r a b) m t s' ≡ next y → Rests K (unread k r a b m s) y
unread_rests m k r a b s s' h K others free t y e = go y (effect (Load k r a b) m t s' y e)
  where
    go : (y : Thread) → Effect m t s' (Load k r a b) y → Rests K (unread k r a b m s) y
    go y (loaded d n) =
        record {
          under = load_idle_under s s' h a b k r m 0 t (load_pre_view k s a b) (load_post_view k s' a b t) (post_any s s' h a b k t);
          agreeing = set_agreeing K r s s' _ _ h others (nothing_asked free);
        }
