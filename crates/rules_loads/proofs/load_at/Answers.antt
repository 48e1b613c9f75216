-- `rules_loads::load_at` meets its contract: one law of the rules for each answer.
-- Assumes nothing.
use mathlib.Core.Path.{sym, subst, ◌∙◌}
use native.Mathlib.Omega.{arith}
use lib.Dec.{T}
use Rattle.machine.proofs.Effects.{readable_time}
use Rattle.machine.proofs.Cases.{load_26, load_27, load_next}
use Rattle.rules_loads.proofs.load_at.Goals as goal

pub returns-then-not-readable : goal.returns-then-not-readable
returns-then-not-readable c = rw (load_26 _ _ _ _ _ _ _ (sym c.readable.ensures ∙ c.if-not-readable.true))

pub returns-then-not-none_newer : goal.returns-then-not-none_newer
returns-then-not-none_newer c =
    let a = c.args in
    let r = sym c.readable.ensures ∙ c.if-not-readable.false in
    let e = rw (
      c.larger-span.ensures,
      c.coherence_at.ensures,
      c.load_pre-pre.ensures,
    ) at c.none_newer.ensures in
    rw (load_27 a.k a.r a.m a.t a.l a.va a.s r (sym e ∙ c.if-not-none_newer.true))

pub load_done-requires : goal.load_done-requires
load_done-requires c =
    let r = sym c.readable.ensures ∙ c.if-not-readable.false in
    let h = readable_time _ _ _ (subst T (sym r) tt) in
    omega arith

pub returns : goal.returns
returns c =
    let a = c.args in
    let r = sym c.readable.ensures ∙ c.if-not-readable.false in
    let e = rw (
      c.larger-span.ensures,
      c.coherence_at.ensures,
      c.load_pre-pre.ensures,
    ) at c.none_newer.ensures in
    rw (
      load_next a.k a.r a.m a.t a.l a.va a.s r (sym e ∙ c.if-not-none_newer.false),
      c.load_done.ensures,
      c.larger-post.ensures,
      c.read_view.ensures,
      c.load_pre-pre.ensures,
    )
