-- `encode_bytes::clear_front` meets its contract: the front is filled with 0.
-- Assumes nothing.
use mathlib.Core.Path.{◌≡◌, sym, ap, ◌∙◌}
use native.Mathlib.Omega.{arith}
use Prim.Native.Nat.{ℕ}
use lib.ListN.{replicate, length-replicate}
use lib.Seq.{length-take-le}
use Rattle.std.proofs.Common.{rules}
use Rattle.encode_bytes.proofs.Putting.{put_front}
use Rattle.encode_bytes.proofs.clear_front.Goals as goal

pub returns : goal.returns
returns c =
    put_front _ _ _ _ (c.fill.ensures.after (λ y e. search rules) ∙ ap (λ (k : ℕ). replicate k 0) (length-take-le _ c.args.area.now (omega arith) ∙ omega arith))
    (omega (arith, length-replicate {A = ℕ} c.args.n 0))
