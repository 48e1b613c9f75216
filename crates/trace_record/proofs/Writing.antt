-- How long a trace is, and a step's record written in front of those of the steps after it.
-- Assumes nothing.
use mathlib.Core.Path.{◌≡◌, refl, ◌∙◌}
use mathlib.Core.List.{List, [], ◌∷◌, ◌++◌}
use Prim.Native.Nat.{ℕ, ◌+◌, ◌*◌, ◌≤◌}
use native.Mathlib.Omega.{arith}
use lib.ListN.{length, take, drop}
use lib.Seq.{take-append-le, take-take, drop_at, length-take-le}
use Rattle.step.specs.Step.{Step}
use Rattle.encode_bytes.specs.Places.{put}
use Rattle.trace_record.specs.Trace.{step_bytes, trace_bytes}

pub trace_length : (q : List Step) → length (trace_bytes q) ≡ 6 * length q
unfolding trace_bytes
trace_length [] = refl
trace_length (k ∷ q) = omega (arith, trace_length q)

-- a step's bytes in front of those of the steps after it
pub put_under : (i : ℕ) (k : Step) (q : List Step) (a : List ℕ) → i + 6 + length (trace_bytes q) ≤ length a
    → put i (step_bytes k) (put (i + 6) (trace_bytes q) a) ≡ put i (trace_bytes (k ∷ q)) a
unfolding put trace_bytes
put_under i k q a h = go (trace_bytes q) h
  where
    go : (t : List ℕ) → i + 6 + length t ≤ length a
        → take i (take (i + 6) a ++ (t ++ drop (i + 6 + length t) a)) ++ (step_bytes k ++ drop (i + 6) (take (i + 6) a ++ (t ++ drop (i + 6 + length t) a)))
        ≡ take i a ++ ((step_bytes k ++ t) ++ drop (i + length (step_bytes k ++ t)) a)
    go t h =
        let D : List ℕ = drop (i + 6 + length t) a in
        let f : length (take (i + 6) a) ≡ i + 6 = length-take-le (i + 6) a (omega arith) in
        let e₁ : take i (take (i + 6) a ++ (t ++ D)) ≡ take i a = take-append-le i (take (i + 6) a) (t ++ D) (omega arith) ∙ take-take i (i + 6) a (omega arith) in
        let e₂ : drop (i + 6) (take (i + 6) a ++ (t ++ D)) ≡ t ++ D = drop_at (take (i + 6) a) (t ++ D) (i + 6) f in
        let n : i + length (step_bytes k ++ t) ≡ i + 6 + length t = omega arith in
        rw (e₁, e₂, n)
