-- What the code of replay relies on: the record at a place, and a replay that has come to it.
-- Assumes nothing.
use mathlib.Core.Path.{◌≡◌, refl, sym, ap, ◌∙◌}
use mathlib.Core.Bool.{true, false}
use mathlib.Core.List.{List, [], ◌∷◌}
use Prim.Native.Nat.{ℕ, suc, ◌+◌, ◌*◌, ◌≤◌, ◌<◌}
use native.Mathlib.Omega.{arith}
use lib.ListN.{length, drop, length-drop, drop_of_length-le}
use Rattle.std.specs.Prelude.{Result, Ok, Err}
use Rattle.program.specs.declared.Program.{Program}
use Rattle.program.specs.declared.Refusal.{Refusal}
use Rattle.program.specs.declared.Refusal.TheVariants.{InputEnds, OtherMark}
use Rattle.machine.specs.declared.Machine.{Machine}
use Rattle.machine.specs.Inner.{Formed}
use Rattle.step.specs.declared.TraceStep.{TraceStep}
use Rattle.step.specs.Step.{rule_step, step}
use Rattle.step.specs.Answers.{stepped}
use Rattle.step.proofs.Answered.{rule_taken, rule_refused, taken_formed}
use Rattle.trace_record.specs.Inner.{marked_at, step_at}
use Rattle.trace_record.proofs.Reading.{record_at}
use Rattle.trace_replay.specs.Replay.{ended, broken, after_mark, after_step, replay_from}

-- ---- a record that is cut off
cut_off : (p : Program) (n : ℕ) (x : Machine) (t : List ℕ) → 0 < length t → length t < 6 → replay_from p n x t ≡ broken InputEnds n x
unfolding replay_from
cut_off p n x [] h l = absurd (omega arith)
cut_off p n x (c ∷ []) h l = refl
cut_off p n x (c ∷ d ∷ []) h l = refl
cut_off p n x (c ∷ d ∷ k ∷ []) h l = refl
cut_off p n x (c ∷ d ∷ k ∷ i ∷ []) h l = refl
cut_off p n x (c ∷ d ∷ k ∷ i ∷ u ∷ []) h l = refl
cut_off p n x (c ∷ d ∷ k ∷ i ∷ u ∷ v ∷ t) h l = absurd (omega arith)

-- ---- n of the whole records are taken: the replay of the whole is that of the rest
pub record Replaying (p : Program) (start : Machine) (t : List ℕ) (records n : ℕ) (x : Machine) : Type 0 where
  pub well : Formed p x
  pub taken : n ≤ records
  pub whole : 6 * records ≤ length t
  pub last : length t < 6 * records + 6
  pub rest : replay_from p 0 start t ≡ replay_from p n x (drop (6 * n) t)

module _ (p : Program) (start : Machine) (t : List ℕ) (records : ℕ) where
  pub begins : Formed p start → 6 * records ≤ length t → length t < 6 * records + 6 → Replaying p start t records 0 start
  begins h whole last = record { well = h; taken = omega arith; whole = whole; last = last; rest = refl }

  module _ {n : ℕ} {x : Machine} (r : Replaying p start t records n x) where
    -- ---- no whole record is left
    module _ (h : records ≤ n) where
      all_taken : replay_from p 0 start t ≡ replay_from p records x (drop (6 * records) t)
      all_taken = let w = r.taken in let e : n ≡ records = omega arith in r.rest ∙ ap (λ (i : ℕ). replay_from p i x (drop (6 * i) t)) e

      pub at_end_lem : length t ≤ 6 * records → replay_from p 0 start t ≡ ended records x
      unfolding replay_from
      at_end_lem l = all_taken ∙ ap (replay_from p records x) (drop_of_length-le t l)

      pub cut : 6 * records < length t → replay_from p 0 start t ≡ broken InputEnds records x
      cut l = let w = r.last in all_taken ∙ cut_off p records x (drop (6 * records) t) (rw (length-drop (6 * records) t) (omega arith)) (rw (length-drop (6 * records) t) (omega arith))

    -- ---- a record is left
    module _ (left : n < records) where
      pub full : 6 * n + 6 ≤ length t
      full = let w = r.whole in omega arith

      the_record : replay_from p 0 start t ≡ after_mark (marked_at t (6 * n)) n x (after_step (λ y. replay_from p (suc n) y (drop (6 * n + 6) t)) n x (step p x (step_at t (6 * n))))
      unfolding replay_from
      the_record = r.rest ∙ ap (replay_from p n x) (record_at t (6 * n) full)

      pub unmarked : marked_at t (6 * n) ≡ false → replay_from p 0 start t ≡ broken OtherMark n x
      unmarked h = the_record ∙ rw h

      module _ (m : marked_at t (6 * n) ≡ true) (k : TraceStep) (s : k ≡ step_at t (6 * n)) (a : Result Machine Refusal) (e : a ≡ stepped (rule_step p x k)) where
        the_step : replay_from p 0 start t ≡ after_step (λ y. replay_from p (suc n) y (drop (6 * n + 6) t)) n x (step p x k)
        the_step = the_record ∙ rw (m, s)

        pub step_refused : {d : Refusal} → a ≡ Err d → replay_from p 0 start t ≡ broken d n x
        step_refused h = the_step ∙ ap (after_step (λ y. replay_from p (suc n) y (drop (6 * n + 6) t)) n x) (rule_refused p x r.well k a e h)

        pub step_taken : {z : Machine} → a ≡ Ok z → Replaying p start t records (n + 1) z
        step_taken {z} h =
            let place : 6 * n + 6 ≡ 6 * (n + 1) = omega arith in
            let number : suc n ≡ n + 1 = omega arith in
            record {
              well = taken_formed p x r.well k a e h;
              taken = omega arith;
              whole = r.whole;
              last = r.last;
              rest =
                  the_step ∙ ap (after_step (λ y. replay_from p (suc n) y (drop (6 * n + 6) t)) n x) (rule_taken p x r.well k a e h)
                  ∙ ap (λ (i : ℕ). replay_from p i z (drop (6 * n + 6) t)) number
                  ∙ ap (λ (j : ℕ). replay_from p (n + 1) z (drop j t)) place;
            }
