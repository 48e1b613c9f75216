-- A thread's bytes: part after part.
-- Assumes nothing.
use mathlib.Core.List.{[], ◌∷◌}
use native.Mathlib.Omega.{arith}
use lib.ListN.{get_or}
use Rattle.theory_views.specs.Views.{view_at}
use Rattle.machine.specs.State.{fresh_register, fresh_forward}
use Rattle.encode_bytes.specs.Lists.{joined}
use Rattle.encode_bytes.proofs.Putting.{put_then}
use Rattle.encode_machine.specs.Value.{register_bytes, forward_bytes, thread_bytes}
use Rattle.encode_machine.proofs.Lengths.{registers_length, coherence_length, forward_length, thread_length}
use Rattle.encode_machine.proofs.BytesEncodeThread.put.Goals as goal

pub returns : goal.returns
unfolding thread_bytes
returns c =
    let s = c.args.s.now in
    record {
      written =
          put_then _ _ _ _ _ c.put_bytes.ensures
          (put_then _ _ (joined (λ k. register_bytes (get_or s.registers k fresh_register)) 0 8) _ _ (c.put_each.ensures fresh_register)
          (put_then _ _ (joined (λ k. view_at s.coherence k ∷ []) 0 16) _ _ (c.put_each-2.ensures 0)
          (put_then _ _ (joined (λ k. forward_bytes (get_or s.forward k fresh_forward)) 0 16) _ _ (c.put_each-3.ensures fresh_forward)
          (put_then _ _ _ _ _ c.put_bytes-2.ensures
          c.put_u16.ensures
          (omega arith) (omega arith))
          (omega (arith, forward_length s)) (omega arith))
          (omega (arith, coherence_length s)) (omega arith))
          (omega (arith, registers_length s)) (omega arith))
          (omega arith) (omega arith);
      wide = thread_length s;
    }
