-- A trace replayed in parts: a part that ends and then the rest; a part of whole records that is broken off.
-- Assumes nothing.
use mathlib.Core.Path.{◌≡◌, sym, ap, ◌∙◌}
use mathlib.Core.Bool.{Bool, true, false, ◌&&◌}
use mathlib.Core.List.{List, [], ◌∷◌, ◌++◌}
use Prim.Native.Nat.{ℕ, suc, ◌+◌, ◌-◌, ◌*◌}
use native.Mathlib.Omega.{arith}
use lib.Dec.{eqb}
use lib.ListN.{length}
use Rattle.program.specs.declared.Program.{Program}
use Rattle.program.specs.declared.Refusal.{Refusal}
use Rattle.machine.specs.declared.Machine.{Machine}
use Rattle.step.specs.Step.{Decision, rejected, accepted, step}
use Rattle.trace_replay.specs.Replay.{ReplayEnd, ended, broken, after_mark, after_step, replay_from}
use Rattle.trace_replay.proofs.Good.{not_broken, through, good_iff}

module _ (p : Program) where
  -- IN PARTS: where the replay of a ends after n steps at y, the replay of a and then b goes on from there with b
  pub in_parts : (k : ℕ) (x : Machine) (a : List ℕ) (n : ℕ) (y : Machine) (b : List ℕ) → replay_from p 0 x a ≡ ended n y → replay_from p k x (a ++ b) ≡ replay_from p (k + n) y b
  in_parts k x a n y b h =
      let g = (good_iff p x a n y).0 h in
      ap (λ (t : List ℕ). replay_from p k x (t ++ b)) g.bytes ∙ through p g.in_turn k b ∙ ap (λ (i : ℕ). replay_from p (k + i) y b) (sym g.count)

  -- a record, with one trace after it and with another
  same_refusal : (m : Bool) (k : ℕ) (x : Machine) (o : Decision) (f g : Machine → ReplayEnd) (r : ReplayEnd) → ((z : Machine) → f z ≡ r → g z ≡ r)
      → after_mark m k x (after_step f k x o) ≡ r → after_mark m k x (after_step g k x o) ≡ r
  same_refusal false k x o f g r on h = h
  same_refusal true k x (rejected i) f g r on h = h
  same_refusal true k x (accepted z) f g r on h = on z h

  -- BROKEN OFF: where the replay of whole records is broken off, so is that of all that begin with them: with the same refusal, steps and machine
  pub broken_off : (records k : ℕ) (x : Machine) (a b : List ℕ) (refusal : Refusal) (n : ℕ) (y : Machine) → length a ≡ 6 * records
      → replay_from p k x a ≡ broken refusal n y → replay_from p k x (a ++ b) ≡ broken refusal n y
  unfolding replay_from
  broken_off records k x [] b refusal n y whole h = absurd (not_broken (sym h))
  broken_off records k x (c ∷ []) b refusal n y whole h = absurd (omega arith)
  broken_off records k x (c ∷ d ∷ []) b refusal n y whole h = absurd (omega arith)
  broken_off records k x (c ∷ d ∷ e ∷ []) b refusal n y whole h = absurd (omega arith)
  broken_off records k x (c ∷ d ∷ e ∷ i ∷ []) b refusal n y whole h = absurd (omega arith)
  broken_off records k x (c ∷ d ∷ e ∷ i ∷ u ∷ []) b refusal n y whole h = absurd (omega arith)
  broken_off records k x (c ∷ d ∷ e ∷ i ∷ u ∷ v ∷ a) b refusal n y whole h =
      same_refusal (eqb c 0x53 && eqb d 0x54) k x (step p x (record { kind = e; thread = i; a = u; b = v }))
      (λ z. replay_from p (suc k) z a) (λ z. replay_from p (suc k) z (a ++ b)) (broken refusal n y)
      (λ z. broken_off (records - 1) (suc k) z a b refusal n y (omega arith)) h
