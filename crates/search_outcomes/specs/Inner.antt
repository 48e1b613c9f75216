-- What the functions on rows promise each other.
-- Assumes nothing.
use Rattle.std.specs.Prelude.{◌≡◌, Bool, true, false, List, [], ◌∷◌, map, ℕ, ◌*◌, ◌≤◌, ◌<◌, length, get_or, take, drop}
use Rattle.machine.specs.declared.Memory.{Memory}
use Rattle.machine.specs.declared.Thread.{Thread}
use Rattle.machine.specs.State.{fresh_register}
use Rattle.step.specs.Order.{range}
use Rattle.step.specs.Outcome.{last_of, smaller}
use Rattle.encode_bytes.specs.Lists.{joined}

-- the values of a thread's registers
abbrev pub values_of : Thread → List ℕ
values_of s = joined (λ r. (get_or s.registers r fresh_register).value ∷ []) 0 8

-- the values of all locations after the first n messages
unfoldable pub lasts_of : Memory → ℕ → List ℕ
lasts_of m n = map (λ (l : ℕ). last_of m l n) (range 0 16)

-- the 48 bytes from a place on: the outcome of the row that begins there
unfoldable pub key_at : ℕ → List ℕ → List ℕ
key_at at area = take 48 (drop at area)

-- the bytes at the place are those of the key, or they are not
pub record SameKey (at : ℕ) (area key : List ℕ) (r : Bool) : Type 0 where
  pub same : r ≡ true → key_at at area ≡ key
  pub other : r ≡ false → key_at at area ≡ key → ⊥

-- n rows of w bytes, ascending by their outcomes
pub record Rising (w n : ℕ) (area : List ℕ) : Type 0 where
  pub whole : 48 ≤ w
  pub room : w * n ≤ length area
  pub ascending : (i j : ℕ) → i < j → j < n → smaller (key_at (w * i) area) (key_at (w * j) area) ≡ true

-- of n rows the first k are smaller than the key, and no other is
pub record Smaller (w n : ℕ) (area key : List ℕ) (k : ℕ) : Type 0 where
  pub within : k ≤ n
  pub before : (j : ℕ) → j < k → smaller (key_at (w * j) area) key ≡ true
  pub behind : (j : ℕ) → k ≤ j → j < n → smaller (key_at (w * j) area) key ≡ false
