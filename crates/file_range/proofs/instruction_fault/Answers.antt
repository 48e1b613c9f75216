-- `file_range::instruction_fault` meets its contract.
-- Assumes nothing.
use mathlib.Core.Path.{sym, ◌∙◌}
use borrow.Author.Tests.{le-leb, lt-leb}
use Rattle.program.specs.Inner.{first_failing}
use Rattle.file_range.proofs.instruction_fault.Goals as goal

pub returns-then-x-gt4 : goal.returns-then-x-gt4
unfolding first_failing
returns-then-x-gt4 c = rw (lt-leb _ _ c.if-x-gt4.true)

pub returns-then-not-mode_ok : goal.returns-then-not-mode_ok
unfolding first_failing
returns-then-not-mode_ok c = rw (le-leb _ _ c.if-x-gt4.false, sym c.mode_ok.ensures ∙ c.if-not-mode_ok.true)

pub returns-then-not-register_ok : goal.returns-then-not-register_ok
unfolding first_failing
returns-then-not-register_ok c =
    rw (le-leb _ _ c.if-x-gt4.false, sym c.mode_ok.ensures ∙ c.if-not-mode_ok.false, sym c.register_ok.ensures ∙ c.if-not-register_ok.true)

pub returns-then-not-kind_ok : goal.returns-then-not-kind_ok
unfolding first_failing
returns-then-not-kind_ok c =
    rw (le-leb _ _ c.if-x-gt4.false, sym c.mode_ok.ensures ∙ c.if-not-mode_ok.false, sym c.register_ok.ensures ∙ c.if-not-register_ok.false, sym c.kind_ok.ensures ∙ c.if-not-kind_ok.true)

pub returns-then-not-number_ok : goal.returns-then-not-number_ok
unfolding first_failing
returns-then-not-number_ok c =
    rw (le-leb _ _ c.if-x-gt4.false, sym c.mode_ok.ensures ∙ c.if-not-mode_ok.false, sym c.register_ok.ensures ∙ c.if-not-register_ok.false, sym c.kind_ok.ensures ∙ c.if-not-kind_ok.false, sym c.number_ok.ensures ∙ c.if-not-number_ok.true)

pub returns-then-not-kind_ok-2 : goal.returns-then-not-kind_ok-2
unfolding first_failing
returns-then-not-kind_ok-2 c =
    rw (le-leb _ _ c.if-x-gt4.false, sym c.mode_ok.ensures ∙ c.if-not-mode_ok.false, sym c.register_ok.ensures ∙ c.if-not-register_ok.false, sym c.kind_ok.ensures ∙ c.if-not-kind_ok.false, sym c.number_ok.ensures ∙ c.if-not-number_ok.false, sym c.kind_ok-2.ensures ∙ c.if-not-kind_ok-2.true)

pub returns-then-number_ok : goal.returns-then-number_ok
unfolding first_failing
returns-then-number_ok c =
    rw (le-leb _ _ c.if-x-gt4.false, sym c.mode_ok.ensures ∙ c.if-not-mode_ok.false, sym c.register_ok.ensures ∙ c.if-not-register_ok.false, sym c.kind_ok.ensures ∙ c.if-not-kind_ok.false, sym c.number_ok.ensures ∙ c.if-not-number_ok.false, sym c.kind_ok-2.ensures ∙ c.if-not-kind_ok-2.false, sym c.number_ok-2.ensures ∙ c.if-number_ok.true)

pub returns-else-number_ok : goal.returns-else-number_ok
unfolding first_failing
returns-else-number_ok c =
    rw (le-leb _ _ c.if-x-gt4.false, sym c.mode_ok.ensures ∙ c.if-not-mode_ok.false, sym c.register_ok.ensures ∙ c.if-not-register_ok.false, sym c.kind_ok.ensures ∙ c.if-not-kind_ok.false, sym c.number_ok.ensures ∙ c.if-not-number_ok.false, sym c.kind_ok-2.ensures ∙ c.if-not-kind_ok-2.false, sym c.number_ok-2.ensures ∙ c.if-number_ok.false)
