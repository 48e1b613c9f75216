-- `certify_lost::wanted::filling` meets its contract.
-- Assumes nothing.
use mathlib.Core.Path.{refl}
use native.Mathlib.Omega.{arith}
use Rattle.certify_cares.proofs.Marks.{all_marked}
use Rattle.certify_lost.proofs.wanted.filling.Goals as goal

pub returns-then-place-top : goal.returns-then-place-top
returns-then-place-top c = record { at_hole = refl; low_byte = omega arith; fits = λ l v lb vb lo hi. (all_marked l lb, (omega arith, vb)) }
