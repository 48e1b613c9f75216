-- A run in eight words: it stands where a failure has its cares. It is written down from its end, since the search of runs knows the last step first.
-- Assumes nothing.
use Rattle.std.specs.Prelude.{◌≡◌, List, [], ◌∷◌, ℕ, zero, suc, ◌+◌, ◌*◌, ◌/◌, ◌%◌, ◌<◌, length, get_or}
use Rattle.certify_runs.specs.declared.RunStep.{RunStep}
use Rattle.certify_runs.specs.Certify.{executed}

-- byte j of a word, 0 being the lowest and 3 the highest
unfoldable pub byte_of : ℕ → ℕ → ℕ
byte_of word zero = word % 256
byte_of word (suc zero) = (word / 256) % 256
byte_of word (suc (suc zero)) = (word / 65536) % 256
byte_of word (suc (suc (suc j))) = (word / 16777216) % 256

-- the steps from the last one on, four in a word, each as 32 times its kind and its time
abbrev pub Backwards : List ℕ → List RunStep → Type 0
Backwards words [] = Unit {0}
Backwards words (a ∷ l) = (byte_of (get_or words (length l / 4) 0) (length l % 4) ≡ 32 * a.kind + a.time) × ((a.time < 32) × Backwards words l)

-- TRAIL: the first four words have the steps, and the next one how many they are
pub record Trail (words : List ℕ) (l : List RunStep) : Type 0 where
  pub count : get_or words 4 0 ≡ length l
  pub steps : Backwards words l

-- n instructions that are executed at time 0, and then the others
unfoldable pub passing : ℕ → List RunStep → List RunStep
passing zero l = l
passing (suc n) l = passing n (executed 0 ∷ l)
