-- `machine_form::own_test` meets its contract: the entries that are used are the places below the count.
-- Assumes nothing.
use mathlib.Core.Path.{◌≡◌, ◌∙◌}
use mathlib.Core.Bool.{not, ◌||◌}
use Prim.Native.Nat.{ℕ, suc, ◌≤◌}
use native.Mathlib.Omega.{arith}
use lib.Dec.{eqb}
use lib.ListN.{length, get_or}
use Rattle.std.proofs.Common.{rules, tests}
use Rattle.std.proofs.lemmas.Iterator.{YieldsList-from_slice}
use Rattle.std.proofs.lemmas.Iterator.Consumers.{YieldsList-from_enumerate}
use Rattle.std.proofs.lemmas.Iterator.Search.{all_from_yields_List}
use Rattle.program.proofs.Arrays.{length_mapped}
use Rattle.program.proofs.Loops.{below_same}
use Rattle.program_form.proofs.Loops.{first_places}
use Rattle.machine.specs.declared.Message.{Message}
use Rattle.machine.specs.State.{no_message, message_at, has}
use Rattle.machine.specs.WellFormed.{own_test}
use Rattle.machine.proofs.Formed.{message_place}
use Rattle.machine_form.proofs.own_test.Goals as goal

pub returns : goal.returns
unfolding own_test
returns c =
    let m = c.args.m in
    let h : length m.messages ≡ 16 = search length_mapped depth 7 in
    let within : m.count ≤ length m.messages = omega arith in
    let f = λ (k : ℕ) (w : Message). not (has c.args.p (suc k)) || eqb w.thread c.args.i in
    let a = all_from_yields_List (λ (w : ℕ × Message). f w.0 w.1) _ _ c.all.result c.all.ensures.ran (YieldsList-from_enumerate (YieldsList-from_slice _ cc) cc) (λ x b q k. search (rules, tests)) in
    let places = below_same (λ k. f k (get_or m.messages k no_message)) (λ k. f k (message_at m (suc k))) (λ k. rw message_place) m.count in
    a ∙ first_places f no_message m.messages m.count within ∙ places
