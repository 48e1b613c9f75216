-- `program_form::program_formed` meets its contract: too many threads are refused first; then test for test.
-- Assumes nothing.
use mathlib.Core.Path.{◌≡◌}
use mathlib.Core.Bool.{and_assoc, and-true, and-false}
use lib.ListN.{length}
use borrow.Author.Tests.{le-leb, lt-leb, eq-eqb}
use Rattle.program.specs.Tests.{all_of}
use Rattle.program.specs.WellFormed.{program_test}
use Rattle.program.proofs.Arrays.{length_mapped}
use Rattle.program_form.proofs.program_formed.Goals as goal

pub returns-then-p-gt4 : goal.returns-then-p-gt4
unfolding program_test all_of
returns-then-p-gt4 c = simp (lt-leb _ 4 c.if-p-gt4.true, and-false)

pub returns : goal.returns
unfolding program_test all_of
returns c =
    let codes_full : length c.args.p.codes ≡ 4 = search length_mapped depth 7 in
    let question_full : length c.args.p.question ≡ 8 = search length_mapped depth 7 in
    rw (
      c.question_test.ensures,
      c.program_stores.ensures,
      c.codes_test.ensures,
      le-leb _ 4 c.if-p-gt4.false,
      eq-eqb _ 4 codes_full,
      eq-eqb _ 8 question_full,
    )
    (simp (and_assoc, and-true))
