-- `search_tries::threads::next_open` meets its contract.
-- Assumes nothing.
use lib.ListN.{length}
use native.Mathlib.Omega.{arith}
use mathlib.Core.Path.{◌≡◌}
use Rattle.program.proofs.Arrays.{length_mapped}
use Rattle.search_tries.proofs.Open.{next_of_four, asks_read}
use Rattle.search_tries.proofs.threads.next_open.Goals as goal

pub returns : goal.returns
returns c =
    let a = c.args in
    let p = a.p in
    let x = a.x in
    let codes : length p.codes ≡ 4 = search length_mapped depth 7 in
    let threads : length x.threads ≡ 4 = search length_mapped depth 7 in
    rw c.first_of.ensures
    (next_of_four p x a.i c.requires _ _ _ _
    (asks_read p x a.i 0 codes threads (omega arith) _ _ _ c.is_open.ensures)
    (asks_read p x a.i 1 codes threads (omega arith) _ _ _ c.is_open-2.ensures)
    (asks_read p x a.i 2 codes threads (omega arith) _ _ _ c.is_open-3.ensures)
    (asks_read p x a.i 3 codes threads (omega arith) _ _ _ c.is_open-4.ensures))
