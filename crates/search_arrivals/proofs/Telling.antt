-- What an answer that goes on says of the search.
-- Assumes nothing.
use mathlib.Core.Path.{◌≡◌, refl, sym, ap₂}
use Prim.Native.Nat.{ℕ}
use borrow.Author.Tests.{eqb-false}
use Rattle.step.specs.Step.{Step}
use Rattle.theory_sequences.specs.Scan.{Scan, going, found, out}
use Rattle.search_arrivals.specs.Visits.{Ran, Going, Reports}
use Rattle.search_outcomes.specs.Table.{Notes}

module _ {d : ℕ} {r : Ran} {after : Notes} where
  -- it goes on with what is left, and leaves what is noted then
  pub went_on : (o : Scan Step Notes) → Reports d o r after → (b : ℕ) → r ≡ Going b → o ≡ going b after
  went_on (going c n) t b e = let q : c ≡ b = let a = t.answer in cc in ap₂ going q (sym t.lent)
  went_on (found c q n) t b e = absurd (let a = t.answer in eqb-false 0 1 refl cc)
  went_on (out n) t b e = absurd (let a = t.answer in eqb-false 0 1 refl cc)
