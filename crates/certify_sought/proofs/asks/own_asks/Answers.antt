-- `certify_sought::asks::own_asks` meets its contract.
-- Assumes nothing.
use mathlib.Core.Path.{sym, subst, ◌∙◌}
use lib.Dec.{T}
use Rattle.certify_sought.proofs.asks.own_asks.Goals as goal

pub returns-then-read : goal.returns-then-read
returns-then-read c =
    record {
      besides = λ s s' g. (c.noting-placed.ensures s s' (c.noting.ensures s s' g).0).0;
      place = λ s s' g. rw c.barring.ensures at (c.noting-placed.ensures s s' (c.noting.ensures s s' g).0).1;
      value = λ e s s' g. (c.noting.ensures s s' g).1;
    }

pub returns : goal.returns
returns c =
    record {
      besides = λ s s' g. (c.noting-placed.ensures s s' g).0;
      place = λ s s' g. rw c.barring.ensures at (c.noting-placed.ensures s s' g).1;
      value = λ e. absurd (subst T (sym e ∙ c.if-read.false) tt);
    }
