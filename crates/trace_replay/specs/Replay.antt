-- Replay: the records of a trace file are taken one by one; the first refusal ends it.
-- Assumes nothing.
use Rattle.std.specs.Prelude.{Bool, true, false, ◌&&◌, List, [], ◌∷◌, ℕ, suc, eqb}
use Rattle.program.specs.declared.Program.{Program}
use Rattle.program.specs.declared.Refusal.{Refusal}
use Rattle.program.specs.declared.Refusal.TheVariants.{InputEnds, OtherMark}
use Rattle.machine.specs.declared.Machine.{Machine}
use Rattle.step.specs.Step.{Decision, rejected, accepted, step}

-- how a replay ends: at the trace's end, with the steps taken and the machine; or with a refusal, the steps before it and the machine after them
pub data ReplayEnd : Type 0 where
  ended : ℕ → Machine → ReplayEnd
  broken : Refusal → ℕ → Machine → ReplayEnd

-- the mark 53 54, else 2
abbrev pub after_mark : Bool → ℕ → Machine → ReplayEnd → ReplayEnd
after_mark true n x on = on
after_mark false n x on = broken OtherMark n x

-- the step's refusal, or on from the machine after it
abbrev pub after_step : (Machine → ReplayEnd) → ℕ → Machine → Decision → ReplayEnd
after_step f n x (rejected r) = broken r n x
after_step f n x (accepted y) = f y

-- n steps are taken: the next record is the mark, kind, thread, a, b; a record that the trace ends in: 1
unfoldable pub replay_from : Program → ℕ → Machine → List ℕ → ReplayEnd
replay_from p n x [] = ended n x
replay_from p n x (c ∷ []) = broken InputEnds n x
replay_from p n x (c ∷ d ∷ []) = broken InputEnds n x
replay_from p n x (c ∷ d ∷ k ∷ []) = broken InputEnds n x
replay_from p n x (c ∷ d ∷ k ∷ i ∷ []) = broken InputEnds n x
replay_from p n x (c ∷ d ∷ k ∷ i ∷ u ∷ []) = broken InputEnds n x
replay_from p n x (c ∷ d ∷ k ∷ i ∷ u ∷ v ∷ rest) =
    after_mark (eqb c 0x53 && eqb d 0x54) n x
    (after_step (λ y. replay_from p (suc n) y rest) n x (step p x (record { kind = k; thread = i; a = u; b = v })))
