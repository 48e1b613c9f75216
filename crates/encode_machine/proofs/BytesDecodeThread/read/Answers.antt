-- A thread read from its bytes: part after part.
-- Assumes nothing.
use mathlib.Core.Path.{sym}
use Rattle.encode_machine.proofs.ThreadAt.{thread_at}
use Rattle.encode_machine.proofs.BytesDecodeThread.read.Goals as goal

pub returns : goal.returns
returns c =
    let a = c.args in
    rw (c.u16_of.ensures, c.views_from.ensures, c.each_from-3.ensures, c.each_from-2.ensures, c.each_from.ensures) (sym (thread_at a.b.now a.at))
