-- The answer on what is read of the input is that of the whole.
-- Assumes nothing.
use Rattle.std.proofs.Common.{◌≡◌, ℕ, ◌+◌, ◌≤◌, ◌<◌, List, [], ◌∷◌, IfSome, Option, Some, None, length, take, sym, ap, ◌∙◌, subst, arith, length-append, length-take-le}
use Rattle.std.proofs.lemmas.List.{append-nil, take_at}
use Rattle.std.specs.Io.KnownBytes.{Consumes, IsAtEnd}
use native.Mathlib.Omega.{by_contra}
use Rattle.std.specs.Prelude.{Result}
use Rattle.program.specs.declared.Refused.{Refused}
use Rattle.search.specs.declared.Answer.{Answer}
use Rattle.search.specs.Answers.{Searched}
use Rattle.judge.proofs.Long.{long_answer}

-- the n bytes in the buffer were read, and left none if there is room behind them
pub whole_input : {b : ℕ} {area after : List ℕ} {r : Result Answer Refused} (known left : Option (List ℕ)) (n : ℕ) (buffer : List ℕ) → length buffer ≡ 4096 → n ≤ length buffer
    → Consumes known left (take n buffer) → (n < length buffer → IsAtEnd left) → Searched (take n buffer) b area r after → IfSome known (λ f. Searched f b area r after)
whole_input None left n buffer size fits read ended s = tt
whole_input (Some f) None n buffer size fits read ended s = absurd read
whole_input {b} {area} {after} {r} (Some f) (Some []) n buffer size fits read ended s =
    subst (λ g. Searched g b area r after) (sym (read ∙ append-nil (take n buffer))) s
whole_input {b} {area} {after} {r} (Some f) (Some (y ∷ ys)) n buffer size fits read ended s =
    let full : length buffer ≤ n = by_contra (length buffer) n (λ short. let none : length (y ∷ ys) ≡ 0 = ap length (ended short) in omega arith) in
    let few = length-take-le n buffer fits in
    let long : length f ≡ length (take n buffer) + length (y ∷ ys) = ap length read ∙ length-append (take n buffer) (y ∷ ys) in
    let front : take n f ≡ take n buffer = ap (take n) read ∙ take_at (take n buffer) (y ∷ ys) n few in
    long_answer n (omega arith) (omega arith) (subst (λ g. Searched g b area r after) (sym front) s)
