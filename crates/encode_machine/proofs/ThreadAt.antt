-- The thread that is read from a place: where each of its parts stands.
-- Assumes nothing.
use mathlib.Core.Path.{◌≡◌, ap, ◌∙◌}
use mathlib.Core.List.{List}
use Prim.Native.Nat.{ℕ, ◌+◌, ◌*◌}
use native.Mathlib.Omega.{arith}
use lib.ListN.{drop}
use lib.Seq.{get_or-drop, drop-drop}
use Rattle.program.specs.File.{byte_at}
use Rattle.encode_bytes.specs.Lists.{entries}
use Rattle.encode_machine.specs.Value.{register_from, forward_from, views_from, thread_from}

module _ (b : List ℕ) (at : ℕ) where
  byte : (n k : ℕ) → k ≡ at + n → byte_at (drop at b) n ≡ byte_at b k
  byte n k e = get_or-drop at b n 0 ∙ ap (byte_at b) (omega arith)

  pub thread_at : thread_from (drop at b)
      ≡ record {
        position = byte_at b at;
        registers = entries register_from 2 8 (drop (at + 1) b);
        coherence = entries (λ c. byte_at c 0) 1 16 (drop (at + 17) b);
        forward = entries forward_from 2 16 (drop (at + 33) b);
        views = views_from (drop (at + 65) b);
        promises = byte_at b (at + 71) + 256 * byte_at b (at + 72);
      }
  unfolding thread_from
  thread_at =
      let position : byte_at (drop at b) 0 ≡ byte_at b at = byte 0 at (omega arith) in
      let low : byte_at (drop 71 (drop at b)) 0 ≡ byte_at b (at + 71) = get_or-drop 71 (drop at b) 0 0 ∙ byte 71 (at + 71) (omega arith) in
      let high : byte_at (drop 71 (drop at b)) 1 ≡ byte_at b (at + 72) = get_or-drop 71 (drop at b) 1 0 ∙ byte 72 (at + 72) (omega arith) in
      λ i. record {
        position = position i;
        registers = entries register_from 2 8 (drop-drop 1 at b i);
        coherence = entries (λ c. byte_at c 0) 1 16 (drop-drop 17 at b i);
        forward = entries forward_from 2 16 (drop-drop 33 at b i);
        views = views_from (drop-drop 65 at b i);
        promises = low i + 256 * high i;
      }
