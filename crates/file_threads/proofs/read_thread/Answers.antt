-- `file_threads::read_thread` meets its contract.
-- Assumes nothing.
use mathlib.Core.Path.{ap}
use Prim.Native.Nat.{◌+◌}
use native.Mathlib.Omega.{arith}
use Rattle.std.specs.Prelude.{Err}
use Rattle.program.specs.declared.Program.{Program}
use Rattle.program.proofs.PassedOn.{passed_on}
use Rattle.program.proofs.Reading.{mark_fits, thread_fault, thread_10, thread_5, thread_on}
use Rattle.file_cursor.proofs.Cursors.{as_read}
use Rattle.file_threads.proofs.read_thread.Goals as goal

pub returns-in_err-marked : goal.returns-in_err-marked
returns-in_err-marked c = as_read (passed_on _ _ c.from_residual.ensures.1) (thread_fault _ _ _ _ _ c.in_err-marked.ensures)

pub bounds-file-at : goal.bounds-file-at
bounds-file-at c = omega (arith, mark_fits _ _ _ _ _ c.in_ok-marked.ensures)

pub returns-then-file-at : goal.returns-then-file-at
returns-then-file-at c = as_read (ap Err c.at.ensures) (thread_10 _ _ _ _ _ c.in_ok-marked.ensures c.if-file-at.true)

pub bounds-file-at-2 : goal.bounds-file-at-2
bounds-file-at-2 c = omega (arith, mark_fits _ _ _ _ _ c.in_ok-marked.ensures)

pub returns-then-n-gt16 : goal.returns-then-n-gt16
returns-then-n-gt16 c = as_read (ap Err c.at-then-n-gt16.ensures) (thread_5 _ _ _ _ _ c.in_ok-marked.ensures c.if-file-at.false c.if-n-gt16.true)

pub read_instructions-requires : goal.read_instructions-requires
read_instructions-requires c =
    let w = c.requires.1 in
    let l = mark_fits _ _ _ _ _ c.in_ok-marked.ensures in
    let t = ap (λ (q : Program). q.threads) c.with_count.ensures in
    (omega (arith, c.requires.0, c.if-n-gt16.false), record { place = omega arith; stores = w.stores; threads = omega arith })

pub returns : goal.returns
returns c = as_read c.read_instructions.ensures (thread_on _ _ _ _ _ c.in_ok-marked.ensures c.if-file-at.false c.if-n-gt16.false c.with_count.ensures)
