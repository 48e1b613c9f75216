-- `certified` passes exactly where a certifying run exists: the count of instructions that bounds the test is no limit.
-- Assumes nothing.
use mathlib.Core.Path.{◌≡◌, refl, sym, subst}
use mathlib.Core.Logic.{◌↔◌}
use mathlib.Core.Bool.{Bool}
use Prim.Native.Nat.{ℕ, ◌+◌, ◌≤◌}
use lib.Dec.{T}
use Rattle.machine.specs.Rules.{Executed, refused, next}
use Rattle.certify_runs.specs.Below.{Code, Memory, Thread}
use Rattle.certify_runs.specs.Certify.{first_run_within, first_run, certified}
use Rattle.certify_runs.specs.Inner.{onward}
use Rattle.certify_runs.specs.Runs.{Certifying}
use Rattle.certify_runs.proofs.Tells.{tells_one, tells_found}
use Rattle.certify_runs.proofs.First.{within_told, first_told, certifies_run, run_certifies}

-- what goes on from an answer goes on from a next state
pub onward_inv : (f : Thread → Bool) (o : Executed) → T (onward f o) → (s' : Thread) × (o ≡ next s') × T (f s')
onward_inv f (refused n) h = absurd h
onward_inv f (next s) h = (s, refl, h)

-- and the other way round
pub onward_next : (f : Thread → Bool) (o : Executed) (s' : Thread) → o ≡ next s' → T (f s') → T (onward f o)
onward_next f o s' e h = subst (λ (x : Executed). T (onward f x)) (sym e) h

-- CERTIFIED exactly where a certifying run exists
pub certified_iff : (c : Code) (i : ℕ) (m : Memory) (s : Thread) → T (certified c i m s) ↔ Certifying c i m s
unfolding certified
certified_iff c i m s = let q = tells_found (first_told c i m s) in (λ h. certifies_run (q.0 h).1, λ r. q.1 (run_certifies r))

-- any count of instructions that comes up to the thread's end gives the same run
pub fuel_no_limit : (n : ℕ) (c : Code) (i : ℕ) (m : Memory) (s : Thread) → c.count ≤ n + s.position → first_run_within n c i m s ≡ first_run c i m s
fuel_no_limit n c i m s le = tells_one (within_told n c i m s le) (first_told c i m s)
