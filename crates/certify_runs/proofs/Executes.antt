-- An instruction that has an effect executes: the rules read forwards.
-- Assumes nothing.
use mathlib.Core.Path.{◌≡◌}
use mathlib.Core.Bool.{◌&&◌}
use Prim.Native.Nat.{ℕ, max}
use lib.Dec.{T, eqb, leb, ltb, le→leb, lt→ltb}
use Rattle.theory_views.specs.Views.{view_at}
use Rattle.program.proofs.Tests.{and_both, eq→eqb, is_true}
use Rattle.machine.specs.State.{message_at, has}
use Rattle.machine.specs.Rules.{next, value_of, view_of, readable, none_newer, load_at, store_pre, promised, store_at, execute}
use Rattle.machine.proofs.Effects.{load_location, load_pre_view, store_location, Promised, Effect, computed, loaded, stored, branched, fenced}
use Rattle.certify_runs.specs.Below.{Instr, Memory, Thread}

promised_test : {m : Memory} {t l v : ℕ} {s : Thread} → Promised m t l v s → T (promised m t l v s)
unfolding promised
promised_test {m} {t} {l} {v} {s} p =
    let a = has s.promises t in
    let b = leb t m.count in
    let c = eqb (message_at m t).location l in
    let d = eqb (message_at m t).value v in
    and_both (a && b && c) d (and_both (a && b) c (and_both a b p.out (le→leb t m.count p.in_memory)) (eq→eqb p.at_location)) (eq→eqb p.at_value)

pub executes : {m : Memory} {t : ℕ} {s : Thread} {x : Instr} {s' : Thread} → Effect m t s x s' → execute x m t s ≡ next s'
unfolding execute load_at store_at
executes {t = t} (computed e) = rw (is_true (eqb t 0) (eq→eqb e))
executes {m} {t} {s} (loaded {k} {r} {a} {b} d n) =
    rw (is_true (readable m (load_location s a b) t) d, is_true (none_newer m (load_location s a b) t (max (load_pre_view k s a b) (view_at s.coherence (load_location s a b)))) n)
executes {m} {t} {s} (stored {k} {a} {d} p x y) =
    rw (is_true (promised m t (store_location s a) (value_of s d) s) (promised_test p), is_true (ltb (store_pre k (view_of s a) (view_of s d) s.views) t) (lt→ltb _ t x), is_true (ltb (view_at s.coherence (store_location s a)) t) (lt→ltb _ t y))
executes {t = t} (branched e) = rw (is_true (eqb t 0) (eq→eqb e))
executes {t = t} (fenced e) = rw (is_true (eqb t 0) (eq→eqb e))
