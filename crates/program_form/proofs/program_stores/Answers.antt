-- `program_form::program_stores` meets its contract: the loop has added up the codes before this one.
-- Assumes nothing.
use mathlib.Core.Path.{◌≡◌, ap, ◌∙◌}
use mathlib.Core.List.{[]}
use Prim.Native.Nat.{◌<◌}
use native.Mathlib.Omega.{arith}
use lib.ListN.{length}
use Rattle.std.proofs.lemmas.List.{get_or-take, length-take-le}
use Rattle.program.specs.declared.Code.{Code}
use Rattle.program.specs.Program.{code_of, no_code}
use Rattle.program.specs.Counts.{stores, stores_from}
use Rattle.program.proofs.Arrays.{length_mapped, get_d_any}
use Rattle.program.proofs.Loops.{added_none, added_more, added_all}
use Rattle.program_form.proofs.program_stores.Goals as goal

pub loop-c-init : goal.loop-c-init
loop-c-init c = added_none

pub overflow_add-found : goal.overflow_add-found
overflow_add-found c =
    let full : length c.args.p.codes ≡ 4 = search length_mapped depth 7 in
    omega (arith, c.code_stores.type_inv, length-take-le c.args.p.threads c.args.p.codes (omega arith))

pub loop-c-preserved : goal.loop-c-preserved
unfolding code_of
loop-c-preserved c =
    let p = c.args.p in
    let full : length p.codes ≡ 4 = search length_mapped depth 7 in
    let used = length-take-le p.threads p.codes (omega arith) in
    let l : c.loop-c.c-index < p.threads = omega arith in
    let s : c.code_stores.result < 256 = omega (arith, c.code_stores.type_inv) in
    let d : Code = record { instructions = []; count = 0 } in
    let i = c.loop-c.c-index in
    let e = get_or-take p.threads p.codes i d l ∙ get_d_any d no_code p.codes i (omega arith) in
    added_more c.loop-c.invariant l s (c.code_stores.ensures ∙ ap (λ x. stores_from x 0) e)

pub returns : goal.returns
unfolding stores
returns c =
    let full : length c.args.p.codes ≡ 4 = search length_mapped depth 7 in
    let used = length-take-le c.args.p.threads c.args.p.codes (omega arith) in
    added_all c.loop-c.invariant (omega arith)
