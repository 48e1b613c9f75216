-- The replay that the answer of the program's reader leads to.
-- Assumes nothing.
use mathlib.Core.Path.{◌≡◌, sym, ap, ◌∙◌}
use mathlib.Core.List.{List}
use Prim.Native.Nat.{ℕ}
use Rattle.std.specs.Prelude.{Result, Ok, Err}
use Rattle.program.specs.declared.Program.{Program}
use Rattle.program.specs.File.{FileAnswer, refused, read_file}
use Rattle.program.specs.Answers.{file_read}
use Rattle.program.proofs.Answered.{read_good, read_refused}
use Rattle.program.proofs.ReadFormed.{read_formed}
use Rattle.program.specs.declared.Refused.{Refused}
use Rattle.machine.specs.declared.Machine.{Machine}
use Rattle.machine.specs.State.{fresh}
use Rattle.machine.specs.Inner.{Formed}
use Rattle.step.proofs.Kept.{fresh_formed}
use Rattle.trace_replay.specs.Replay.{replay_from}
use Rattle.trace_replay.specs.Answers.{Replayed, replayed, on_program, replay}

module _ (f : List ℕ) (r : Result Program Refused) (e : r ≡ file_read (read_file f)) where
  pub good_formed : {p : Program} → r ≡ Ok p → Formed p fresh
  good_formed {p} h = let w = read_formed f p (read_good _ r e h) in record { program_formed = w; machine_formed = fresh_formed p w }

  pub good_replay : (t : List ℕ) (a : Replayed) (x : Machine) → x ≡ fresh → {p : Program} → a ≡ replayed p (replay_from p 0 x t) → r ≡ Ok p → a ≡ replay f t
  unfolding replay
  good_replay t a x s {p} q h =
      q ∙ ap (λ (y : Machine). replayed p (replay_from p 0 y t)) s ∙ ap (λ (b : FileAnswer). on_program b t) (sym (read_good _ r e h))

  pub refused_replay : (t : List ℕ) (a : Replayed) {d : Refused} → ((t : List ℕ) → a ≡ on_program (refused d.refusal d.place) t) → r ≡ Err d → a ≡ replay f t
  unfolding replay
  refused_replay t a q h = q t ∙ ap (λ (b : FileAnswer). on_program b t) (sym (read_refused _ r e h))

-- ---- answers that meet the contract coincide
pub replay_coincide : (f t : List ℕ) (r r' : Replayed) → r ≡ replay f t → r' ≡ replay f t → r ≡ r'
replay_coincide f t r r' e e' = e ∙ sym e'
