-- `program_form::program_stores` meets its contract: the loop has added up the codes before this one.
-- Assumes nothing.
use Rattle.program.specs.Program.{code_of}
use Rattle.program.specs.Counts.{stores_from}
use Rattle.program.proofs.Loops.{Added}
use Rattle.program_form.proofs.program_stores.Given as goal

abbrev pub invariant-loop-c : goal.invariant-loop-c
invariant-loop-c l = Added (λ j. stores_from (code_of l.fn.p j) 0) l.fn.p.threads l.c-index l.found
