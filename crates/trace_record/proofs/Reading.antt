-- The record at a place, and the record read back where it was written.
-- Assumes nothing.
use mathlib.Core.Path.{◌≡◌, refl, sym, ap, ◌∙◌}
use mathlib.Core.Bool.{true}
use mathlib.Core.List.{List, ◌∷◌, ◌++◌}
use Prim.Native.Nat.{ℕ, suc, ◌+◌, ◌≤◌, ◌<◌}
use native.Mathlib.Omega.{arith}
use lib.ListN.{length, take, drop}
use lib.Seq.{drop-cons, length-take-le, get_or-append-add}
use Rattle.program.specs.File.{byte_at}
use Rattle.step.specs.Step.{Step}
use Rattle.encode_bytes.specs.Places.{put}
use Rattle.trace_record.specs.Trace.{step_bytes}
use Rattle.trace_record.specs.Inner.{marked_at, step_at}

-- ---- the bytes from a place on
module _ (t : List ℕ) where
  next : (j k : ℕ) → k ≡ suc j → j < length t → drop j t ≡ byte_at t j ∷ drop k t
  next j k e h = drop-cons t j 0 h ∙ ap (λ (i : ℕ). byte_at t j ∷ drop i t) (sym e)

  pub record_at : (j : ℕ) → j + 6 ≤ length t → drop j t ≡ byte_at t j ∷ byte_at t (j + 1) ∷ byte_at t (j + 2) ∷ byte_at t (j + 3) ∷ byte_at t (j + 4) ∷ byte_at t (j + 5) ∷ drop (j + 6) t
  record_at j h =
      rw (
        next j (j + 1) (omega arith) (omega arith),
        next (j + 1) (j + 2) (omega arith) (omega arith),
        next (j + 2) (j + 3) (omega arith) (omega arith),
        next (j + 3) (j + 4) (omega arith) (omega arith),
        next (j + 4) (j + 5) (omega arith) (omega arith),
        next (j + 5) (j + 6) (omega arith) (omega arith),
      )

-- ---- BOTH WAYS: where step k was written, its mark stands, and step k is read
module _ (k : Step) (a : List ℕ) (i : ℕ) (h : i + 6 ≤ length a) where
  written : (j n : ℕ) → n ≡ i + j → byte_at (put i (step_bytes k) a) n ≡ byte_at (step_bytes k ++ drop (i + 6) a) j
  unfolding put
  written j n e =
      let l : length (take i a) ≡ i = length-take-le i a (omega arith) in
      let place : n ≡ length (take i a) + j = omega arith in
      ap (byte_at (take i a ++ (step_bytes k ++ drop (i + 6) a))) place ∙ get_or-append-add (take i a) (step_bytes k ++ drop (i + 6) a) j 0

  pub mark_back : marked_at (put i (step_bytes k) a) i ≡ true
  mark_back = rw (written 0 i (omega arith), written 1 (i + 1) refl)

  pub step_back : step_at (put i (step_bytes k) a) i ≡ k
  step_back = rw (written 2 (i + 2) refl, written 3 (i + 3) refl, written 4 (i + 4) refl, written 5 (i + 5) refl)
