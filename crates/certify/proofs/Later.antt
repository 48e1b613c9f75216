-- A load that left its thread uncertified: at a later time that is no better it does too.
-- Assumes nothing.
use mathlib.Core.Path.{◌≡◌, refl}
use Prim.Native.Nat.{ℕ}
use native.Mathlib.Omega.{arith}
use lib.Dec.{T}
use Rattle.machine.specs.Rules.{next, execute}
use Rattle.machine.proofs.Effects.{load_location}
use Rattle.certify_runs.specs.Below.{Code, Operand, LoadMode, Load, Memory, Thread}
use Rattle.certify_runs.specs.Certify.{certified}
use Rattle.certify_cares.specs.Cares.{same, care_of}
use Rattle.certify_under.proofs.Under.{under_self}
use Rattle.certify_under.proofs.Resting.{load_rests}
use Rattle.certify_vain.specs.Tries.{NoBetter}
use Rattle.certify_sought.specs.Aim.{Meets}
use Rattle.certify_sought.proofs.Numbers.{zero_sought}
use Rattle.certify_tried.specs.declared.Reached.{Reached}
use Rattle.certify.specs.Search.{Found}
use Rattle.certify.proofs.Filling.{certified_meets}

-- A LATER LOAD: where the thread is not certified after a load at time t, it is not after the same load at a time that is no better
pub later_lost : (c : Code) (i : ℕ) (m : Memory) (s : Thread) (k : LoadMode) (r : ℕ) (a b : Operand) (t : ℕ) (y : Thread) → execute (Load k r a b) m t s ≡ next y
    → (then : Reached) → Found 0 (record { least = 1; second = 1 }) (λ v j. Meets c i m v 0 j) y then → (then.met.least ≡ 0 → ⊥)
    → (u : ℕ) (y' : Thread) → NoBetter m s (load_location s a b) t (care_of then.cares.of r) u → execute (Load k r a b) m u s ≡ next y' → T (certified c i m y') → ⊥
later_lost c i m s k r a b t y e then found lost u y' worse e' q =
    found.barren y'
    (load_rests m k r a b s s (under_self s) refl then.cares.of (λ j n. same refl) t u worse.alike worse.low y y' e e')
    0 (zero_sought found.better (omega arith, omega arith, λ n. omega arith) lost) (certified_meets c i m y' q)
