-- The answer of certify.
-- Assumes nothing.
use Rattle.std.specs.Prelude.{cond, ◌&&◌, ℕ, ltb, Option, Some, None, Result, Ok, Err}
use Rattle.std.proofs.Math.Option.{none, some}
use Rattle.program.specs.Program.{code_of}
use Rattle.program.specs.WellFormed.{program_test}
use Rattle.program.specs.declared.Refusal.{Refusal}
use Rattle.program.specs.declared.Refusal.TheVariants.{NotWellFormed, NoThread}
use Rattle.machine.specs.State.{thread_of}
use Rattle.machine.specs.WellFormed.{machine_test}
use Rattle.certify_runs.specs.Below.{Program, Machine}
use Rattle.certify_runs.specs.Certify.{Steps, first_run}
use Rattle.certify_runs.specs.declared.Run.{Run}
use Rattle.certify_runs.specs.Values.{run_of}

-- the run that is shown, if there is one
abbrev pub shown : Steps → Option Run
shown none = None
shown (some l) = Some (run_of l)

-- CERTIFICATION of thread i, shown by its first certifying run: program or machine not well formed: 20; no such thread: 21
unfoldable pub certify : Program → Machine → ℕ → Result (Option Run) Refusal
certify p x i =
    cond (program_test p && machine_test p x)
    (cond (ltb i p.threads) (Ok (shown (first_run (code_of p i) i x.memory (thread_of x i)))) (Err NoThread))
    (Err NotWellFormed)
