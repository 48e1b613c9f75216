-- `file_range::condition_fault` meets its contract.
-- Assumes nothing.
use mathlib.Core.Path.{sym, ◌∙◌}
use borrow.Author.Tests.{le-leb, lt-leb}
use Rattle.program.specs.Inner.{first_failing}
use Rattle.file_range.proofs.condition_fault.Goals as goal

pub returns-then-x-gt1 : goal.returns-then-x-gt1
unfolding first_failing
returns-then-x-gt1 c = rw (lt-leb _ _ c.if-x-gt1.true)

pub returns-then-not-thread_ok : goal.returns-then-not-thread_ok
unfolding first_failing
returns-then-not-thread_ok c = rw (le-leb _ _ c.if-x-gt1.false, sym c.thread_ok.ensures ∙ c.if-not-thread_ok.true)

pub returns-then-index_limit-x : goal.returns-then-index_limit-x
unfolding first_failing
returns-then-index_limit-x c =
    rw (le-leb _ _ c.if-x-gt1.false, sym c.thread_ok.ensures ∙ c.if-not-thread_ok.false, ← c.index_limit.ensures, lt-leb _ _ c.if-index_limit-x.true)

pub returns-else-index_limit-x : goal.returns-else-index_limit-x
unfolding first_failing
returns-else-index_limit-x c =
    rw (le-leb _ _ c.if-x-gt1.false, sym c.thread_ok.ensures ∙ c.if-not-thread_ok.false, ← c.index_limit.ensures, le-leb _ _ c.if-index_limit-x.false)
