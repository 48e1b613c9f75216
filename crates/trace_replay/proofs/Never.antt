-- From the fresh machine no trace is refused with 28.
-- Assumes nothing.
use mathlib.Core.Path.{◌≡◌, refl, sym, ap, ◌∙◌}
use mathlib.Core.Bool.{Bool, true, false, ◌&&◌}
use mathlib.Core.List.{List, [], ◌∷◌}
use Prim.Native.Nat.{ℕ, suc}
use native.Mathlib.Omega.{arith}
use lib.Dec.{eqb}
use borrow.Author.Tests.{eqb-false}
use Rattle.program.specs.declared.Program.{Program}
use Rattle.program.specs.declared.Refusal.{Refusal}
use Rattle.program.specs.declared.Refusal.TheVariants.{ViewNotBelow}
use Rattle.machine.specs.declared.Machine.{Machine}
use Rattle.step.specs.Step.{Step, Decision, rejected, accepted, step}
use Rattle.step.specs.Reached.{Reached, on}
use Rattle.step.proofs.InTime.{in_time}
use Rattle.trace_replay.specs.Replay.{broken, after_mark, after_step, replay_from}
use Rattle.trace_replay.proofs.Good.{not_broken}

same_refusal : {c d : Refusal} {n m : ℕ} {x y : Machine} → broken c n x ≡ broken d m y → c ≡ d
same_refusal {c} {d} {n} {m} {x} {y} e = cc

-- NEVER 28, from a machine that is reached from the fresh one
pub never_28 : (p : Program) {x : Machine} → Reached p x → (n : ℕ) (t : List ℕ) (m : ℕ) (y : Machine) → replay_from p n x t ≡ broken ViewNotBelow m y → ⊥
unfolding replay_from
never_28 p r n [] m y h = not_broken (sym h)
never_28 p r n (c ∷ []) m y h = let e = same_refusal h in eqb-false 0 1 refl cc
never_28 p r n (c ∷ d ∷ []) m y h = let e = same_refusal h in eqb-false 0 1 refl cc
never_28 p r n (c ∷ d ∷ k ∷ []) m y h = let e = same_refusal h in eqb-false 0 1 refl cc
never_28 p r n (c ∷ d ∷ k ∷ i ∷ []) m y h = let e = same_refusal h in eqb-false 0 1 refl cc
never_28 p r n (c ∷ d ∷ k ∷ i ∷ u ∷ []) m y h = let e = same_refusal h in eqb-false 0 1 refl cc
never_28 p {x} r n (c ∷ d ∷ k ∷ i ∷ u ∷ v ∷ t) m y h = go (eqb c 0x53 && eqb d 0x54) (step p x s) refl h (λ z e. never_28 p (on s z r e) (suc n) t m y)
  where
    s : Step
    s = record { kind = k; thread = i; a = u; b = v }

    go : (b : Bool) (o : Decision) → step p x s ≡ o → after_mark b n x (after_step (λ z. replay_from p (suc n) z t) n x o) ≡ broken ViewNotBelow m y
        → ((z : Machine) → step p x s ≡ accepted z → replay_from p (suc n) z t ≡ broken ViewNotBelow m y → ⊥) → ⊥
    go false o e h later = let f = same_refusal h in eqb-false 0 1 refl cc
    go true (rejected j) e h later = in_time p r s (e ∙ ap rejected (same_refusal h))
    go true (accepted z) e h later = later z e h
