-- A visit from the fresh machine: what is asked before it, and what it leaves of the budget and of the table.
-- Assumes nothing.
use mathlib.Core.Path.{◌≡◌, refl, sym, ap, subst, ◌∙◌}
use mathlib.Core.Bool.{Bool}
use mathlib.Core.List.{List}
use Prim.Native.Nat.{ℕ, ◌≤◌}
use native.Mathlib.Omega.{arith}
use lib.Dec.{T}
use lib.ListN.{length, replicate}
use borrow.Author.Tests.{eqb-false}
use Rattle.program.specs.declared.Program.{Program}
use Rattle.program.specs.WellFormed.{program_test}
use Rattle.machine.specs.declared.Machine.{Machine}
use Rattle.machine.specs.State.{fresh}
use Rattle.theory_sequences.specs.Scan.{Scan, going, found, out, left_of}
use Rattle.theory_sequences.proofs.Scan.{left_le}
use Rattle.step.specs.Step.{Step}
use Rattle.step.proofs.Bound.{potential_fresh}
use Rattle.step.proofs.Kept.{fresh_formed}
use Rattle.search_sequences.specs.OfProgram.{stepping}
use Rattle.search_sequences.proofs.Machine.{lawful}
use Rattle.search_sequences.proofs.Small.{size_small}
use Rattle.search_table.specs.Table.{EverySlot}
use Rattle.search_table.proofs.Laws.{holds_cleared}
use Rattle.search_outcomes.specs.Table.{Notes, Orderly}
use Rattle.search_arrivals.specs.declared.Aim.{Aim}
use Rattle.search_arrivals.specs.declared.Aim.TheVariants.{Question, Outcomes}
use Rattle.search_arrivals.specs.declared.Ran.{Ran}
use Rattle.search_arrivals.specs.declared.Ran.TheVariants.{Going, Found}
use Rattle.search_arrivals.specs.Visits.{acts, visiting, Reports, Visitable, Known}
use Rattle.search_arrivals.proofs.Parts.{visiting_is}

-- ---- before the visit
pub ready_fresh : (p : Program) (a : Aim) (n : Notes) → T (program_test p) → (a ≡ Question → 480 ≤ length n.0) → ((wide : Bool) → a ≡ Outcomes wide → Orderly wide n) → Visitable p a fresh 0 n
ready_fresh p a n h room orderly =
    record {
      well = record { program_formed = h; machine_formed = fresh_formed p h };
      short = let e = potential_fresh p in let s = size_small p h in omega arith;
      room = room;
      orderly = orderly;
    }

-- a cleared table says nothing
pub cleared_holds : (p : Program) (a : Aim) (n : Notes) (k : ℕ) (t : List ℕ) → t ≡ replicate k 0 → EverySlot (Known p a n) t
cleared_holds p a n k t e = subst (EverySlot (Known p a n)) (sym e) (holds_cleared (Known p a n) k)

-- ---- after it
-- a table that is cleared once more is as long as it was before the visit, and before it was cleared first
pub cleared_again : {table : List ℕ} {visited first lent : ℕ} → table ≡ replicate visited 0 → visited ≡ first → first ≡ lent → table ≡ replicate lent 0
cleared_again e visit clear = e ∙ ap (λ (n : ℕ). replicate n 0) (visit ∙ clear)

-- no more is left than was there
module _ (p : Program) (a : Aim) (x : Machine) (b : ℕ) (n : Notes) {d : ℕ} {r : Ran} {after : Notes} (t : Reports d (visiting p a x b n) r after) where
  left : left_of (visiting p a x b n) ≤ b
  left = subst (λ (o : Scan Step Notes). left_of o ≤ b) (sym (visiting_is p a x b n)) (left_le (stepping p) (lawful p) (acts p a) x b n)

  pub going_left : (c : ℕ) → r ≡ Going c → c ≤ b
  going_left c e = go (visiting p a x b n) left t
    where
      go : (o : Scan Step Notes) → left_of o ≤ b → Reports d o r after → c ≤ b
      go (going k m) l u = let q : k ≡ c = let v = u.answer in cc in omega arith
      go (found k q m) l u = absurd (let v = u.answer in eqb-false 0 1 refl cc)
      go (out m) l u = absurd (let v = u.answer in eqb-false 0 1 refl cc)

  pub found_left : (c k : ℕ) → r ≡ Found c k → c ≤ b
  found_left c k e = go (visiting p a x b n) left t
    where
      go : (o : Scan Step Notes) → left_of o ≤ b → Reports d o r after → c ≤ b
      go (going j m) l u = absurd (let v = u.answer in eqb-false 0 1 refl cc)
      go (found j q m) l u = let w : j ≡ c = let v = u.answer in cc in omega arith
      go (out m) l u = absurd (let v = u.answer in eqb-false 0 1 refl cc)
