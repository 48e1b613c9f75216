-- `encode_bytes::each_from` meets its contract: entry after entry is read.
-- Assumes nothing.
use mathlib.Core.Path.{◌≡◌, refl}
use Rattle.std.proofs.Common.{rules}
use Rattle.encode_bytes.proofs.Filling.{each_read}
use Rattle.encode_bytes.proofs.each_from.Goals as goal

pub returns : goal.returns
returns g c = each_read g.F.Decode.value g.F.Encode.WIDTH c.args.at c.args.b.now (λ i y q e. search rules) g.row.N c.from_fn.result c.from_fn.ensures.items
