-- The bytes of a trace: six for each step, which are the mark 53 54 and its kind, thread, a and b.
-- Assumes nothing.
use Rattle.std.specs.Prelude.{List, [], ◌∷◌, ◌++◌, ℕ}
use Rattle.step.specs.Step.{Step}

abbrev pub step_bytes : Step → List ℕ
step_bytes k = 0x53 ∷ 0x54 ∷ k.kind ∷ k.thread ∷ k.a ∷ k.b ∷ []

unfoldable pub trace_bytes : List Step → List ℕ
trace_bytes [] = []
trace_bytes (k ∷ q) = step_bytes k ++ trace_bytes q
