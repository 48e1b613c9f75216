-- The parts of the search, one after the other: the laws of the theory of sequences for the machine of a program.
-- Assumes nothing.
use mathlib.Core.Path.{◌≡◌, refl, sym, ap, ◌∙◌}
use mathlib.Core.Logic.{inl, inr}
use mathlib.Core.List.{List, [], ◌∷◌, ◌++◌}
use mathlib.Core.Option.{none, some}
use Prim.Native.Nat.{ℕ, ◌-◌, ◌<◌}
use Rattle.program.specs.declared.Program.{Program}
use Rattle.program.specs.declared.Refusal.{Refusal}
use Rattle.machine.specs.declared.Machine.{Machine}
use Rattle.theory_sequences.specs.Sequences.{Among}
use Rattle.theory_sequences.proofs.Scan as scans
use Rattle.theory_sequences.proofs.Scan.{visited, ahead}
use Rattle.theory_sequences.specs.Scan.{Scan, going, found, out, and_then, under}
use Rattle.step.specs.Step.{Step, rejected, accepted, step, taken}
use Rattle.step.specs.Order.{every_step}
use Rattle.search_outcomes.specs.Table.{Notes}
use Rattle.search_sequences.specs.OfProgram.{stepping}
use Rattle.search_arrivals.specs.Visits.{Aim, acts, visiting, trying}
use Rattle.search_sequences.proofs.Machine.{lawful}

module _ (p : Program) (a : Aim) (x : Machine) where
  pub visiting_is : (b : ℕ) (n : Notes) → visiting p a x b n ≡ visited (stepping p) (lawful p) (acts p a) x b n
  unfolding visiting visited
  visiting_is b n = refl

  trying_is : (ks : List Step) (b : ℕ) (n : Notes) → trying p a x ks b n ≡ ahead (stepping p) (lawful p) (acts p a) x ks b n
  unfolding trying ahead
  trying_is ks b n = refl

  -- with nothing left the search is out
  pub none_left : (n : Notes) → visiting p a x 0 n ≡ out n
  none_left n = visiting_is 0 n ∙ scans.visited_none (stepping p) (lawful p) (acts p a) x n

  -- the sequence that leads here ends the search: found, for one
  pub ends_here : (b : ℕ) (n : Notes) → 0 < b → acts p a x (b - 1) n ≡ none → visiting p a x b n ≡ found (b - 1) [] n
  ends_here b n h e = visiting_is b n ∙ scans.visited_ends (stepping p) (lawful p) (acts p a) x b n h e

  -- it does not: on to each step in turn, for one
  pub goes_from_here : (b : ℕ) (n m : Notes) → 0 < b → acts p a x (b - 1) n ≡ some m → visiting p a x b n ≡ trying p a x every_step (b - 1) m
  goes_from_here b n m h e = visiting_is b n ∙ scans.visited_on (stepping p) (lawful p) (acts p a) x b n m h e ∙ sym (trying_is every_step (b - 1) m)

  -- no step is left
  pub no_step : (b : ℕ) (n : Notes) → trying p a x [] b n ≡ going b n
  no_step b n = trying_is [] b n ∙ scans.ahead_end (stepping p) (lawful p) (acts p a) x b n

  -- the steps of one list and then those of another
  pub two_parts : (ks ls : List Step) (b : ℕ) (n : Notes) → trying p a x (ks ++ ls) b n ≡ and_then (trying p a x ks b n) (λ c m. trying p a x ls c m)
  unfolding trying ahead
  two_parts ks ls b n = scans.ahead_append (stepping p) (lawful p) (acts p a) x ks ls b n

  -- a refused step costs nothing
  pub step_refused : (k : Step) (r : Refusal) (b : ℕ) (n : Notes) → step p x k ≡ rejected r → trying p a x (k ∷ []) b n ≡ going b n
  step_refused k r b n e = trying_is (k ∷ []) b n ∙ scans.ahead_refused (stepping p) (lawful p) (acts p a) x k [] b n (ap taken e) ∙ scans.ahead_end (stepping p) (lawful p) (acts p a) x b n

  then_nothing : (k : Step) (o : Scan Step Notes) → and_then (under k o) (λ c m. ahead (stepping p) (lawful p) (acts p a) x [] c m) ≡ under k o
  then_nothing k (going b n) = scans.ahead_end (stepping p) (lawful p) (acts p a) x b n
  then_nothing k (found b q n) = refl
  then_nothing k (out n) = refl

  -- an accepted step: the search from where it leads, below it
  pub step_accepted : (k : Step) (y : Machine) (b : ℕ) (n : Notes) → step p x k ≡ accepted y → trying p a x (k ∷ []) b n ≡ under k (visiting p a y b n)
  unfolding trying visiting ahead visited
  step_accepted k y b n e = scans.ahead_accepted (stepping p) (lawful p) (acts p a) x y k [] b n (ap taken e) ∙ then_nothing k (visiting p a y b n)

  -- steps that are all refused may be skipped
  pub skipped : (ks ls : List Step) (b : ℕ) (n : Notes) → ((k : Step) → Among k ks → taken (step p x k) ≡ none) → trying p a x (ks ++ ls) b n ≡ trying p a x ls b n
  unfolding trying ahead
  skipped ks ls b n h = scans.ahead_skip (stepping p) (lawful p) (acts p a) x ks ls b n h

  pub all_skipped : (ks : List Step) (b : ℕ) (n : Notes) → ((k : Step) → Among k ks → taken (step p x k) ≡ none) → trying p a x ks b n ≡ going b n
  all_skipped [] b n h = no_step b n
  all_skipped (k ∷ ks) b n h =
      trying_is (k ∷ ks) b n ∙ scans.ahead_refused (stepping p) (lawful p) (acts p a) x k ks b n (h k (inl refl)) ∙ sym (trying_is ks b n) ∙ all_skipped ks b n (λ j i. h j (inr i))
