-- `certify_lost::promise_lost` meets its contract.
-- Assumes nothing.
use mathlib.Core.Path.{sym, subst}
use Prim.Native.Nat.{◌+◌, ◌≤◌, ◌<◌}
use native.Mathlib.Nat.{le_refl}
use native.Mathlib.Omega.{arith}
use lib.Dec.{T}
use Rattle.machine.specs.declared.Message.{Message}
use Rattle.machine.proofs.Sets.{has_positive}
use Rattle.certify_cares.specs.Cares.{Marked}
use Rattle.certify_lost.proofs.Losing.{neither}
use Rattle.std.proofs.lemmas.Option.{IfSome_then}
use Rattle.certify_lost.proofs.promise_lost.Goals as goal

pub message_at-w-requires : goal.message_at-w-requires
message_at-w-requires c = let f = c.first-u.ensures in (has_positive _ _ (subst T (sym f.member) tt), f.within)

pub returns : goal.returns
returns c =
    let value = c.message_at-w.result.value in
    let f = c.first-u.ensures in
    let fits = subst (λ (o : Message). Marked c.marking.result o.location × ((value ≤ o.value) × (o.value < value + 1))) c.message_at-w.ensures (c.marking.ensures.0, (le_refl _, omega arith)) in
    let n = neither _ _ _ c.if-u-hole.false in
    IfSome_then c.lost.result c.lost.ensures (λ k l. record { wanted = _; out = subst T (sym f.member) tt; in_memory = n.1; no_hole = n.0; fits = fits; lost = l })
