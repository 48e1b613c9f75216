-- `machine_form::memory_test` meets its contract: the entries that are used, then the others.
-- Assumes nothing.
use mathlib.Core.Path.{◌≡◌, ap₂, ◌∙◌}
use mathlib.Core.Bool.{true, false, cond, ◌&&◌}
use Prim.Native.Nat.{ℕ, suc}
use native.Mathlib.Omega.{arith}
use lib.Dec.{ltb, leb}
use lib.ListN.{length, get_or}
use borrow.Author.Tests.{le-leb, lt-leb}
use Rattle.std.proofs.Common.{rules, tests}
use Rattle.std.proofs.lemmas.Iterator.{YieldsList-from_slice}
use Rattle.std.proofs.lemmas.Iterator.Search.{all_from_yields_List}
use Rattle.program.specs.Tests.{all_of}
use Rattle.program.proofs.Arrays.{length_mapped}
use Rattle.program.proofs.Loops.{below_same, full}
use Rattle.program_form.proofs.Loops.{split_below}
use Rattle.machine.specs.declared.Message.{Message}
use Rattle.machine.specs.State.{no_message, message_at}
use Rattle.machine.specs.WellFormed.{memory_test, message_test, unused_message}
use Rattle.machine.proofs.Formed.{message_place}
use Rattle.machine_form.proofs.memory_test.Goals as goal

pub returns-in_default : goal.returns-in_default
unfolding memory_test all_of
returns-in_default c =
    let h : length c.args.m.messages ≡ 16 = search length_mapped depth 7 in
    let a : leb c.args.m.count 16 ≡ false = lt-leb c.args.m.count 16 (omega (arith, c.in_default.ensures.cases)) in
    rw a

pub returns : goal.returns
unfolding memory_test
returns c =
    let m = c.args.m in
    let h : length m.messages ≡ 16 = search length_mapped depth 7 in
    let s = c.in-Some.ensures.cases in
    let f = λ (w : Message). message_test c.args.threads w in
    let F = λ (w : Message) (k : ℕ). cond (ltb k m.count) (f w) (unused_message w) in
    let used = all_from_yields_List f _ _ c.all.result c.all.ensures.ran (YieldsList-from_slice c.in-Some.used.now cc) (λ x b q k. search (rules, tests)) in
    let spare = all_from_yields_List unused_message _ _ c.all-2.result c.all-2.ensures.ran (YieldsList-from_slice c.in-Some.spare.now cc) (λ x b q k. search (rules, tests)) in
    let both = rw h at (ap₂ ◌&&◌ (rw s.1 at used) (rw s.2 at spare) ∙ split_below f unused_message no_message m.messages m.count) in
    let places = below_same (λ k. F (get_or m.messages k no_message) k) (λ k. F (message_at m (suc k)) k) (λ k. rw message_place) 16 in
    rw (both ∙ places, le-leb m.count 16 (omega arith)) (full true _ _ 16 h)
