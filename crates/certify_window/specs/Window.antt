-- Which times of an instruction are worth a try.
-- Assumes nothing.
use Rattle.std.specs.Prelude.{◌≡◌, ℕ, ◌≤◌, ◌<◌, T}
use Rattle.machine.specs.State.{message_at, has}
use Rattle.machine.specs.Rules.{next, execute}
use Rattle.certify_runs.specs.Below.{Instr, Memory, Thread}

-- before time t the instruction cannot be executed
pub record Earliest (x : Instr) (m : Memory) (s : Thread) (t : ℕ) : Type 0 where
  pub within : t ≤ 17
  pub before : (u : ℕ) (s' : Thread) → u < t → execute x m u s ≡ next s' → ⊥

-- t is 0, or a time of the memory up to v at which a message to l stands
pub record Stands (m : Memory) (l v t : ℕ) : Type 0 where
  pub known : t ≤ m.count
  pub there : 0 < t → ((message_at m t).location ≡ l) × (t ≤ v)

-- r is after t, and no message between them is to l; 17 if none is left
pub record NextMessage (m : Memory) (l t r : ℕ) : Type 0 where
  pub later : t < r
  pub within : r ≤ 17
  pub between : (u : ℕ) → t < u → u < r → u ≤ m.count → (message_at m u).location ≡ l → ⊥

-- r is after t, and between them is no promise of the set p with location l and value v; 17 if none is left
pub record NextKept (m : Memory) (p l v t r : ℕ) : Type 0 where
  pub later : t < r
  pub within : r ≤ 17
  pub between : (u : ℕ) → t < u → u < r → u ≤ m.count → T (has p u) → (message_at m u).location ≡ l → (message_at m u).value ≡ v → ⊥

-- r is after t, and between them the instruction cannot be executed; 17 if it cannot be later at all
pub record Following (x : Instr) (m : Memory) (s : Thread) (t r : ℕ) : Type 0 where
  pub later : t < r
  pub within : r ≤ 17
  pub between : (u : ℕ) (s' : Thread) → t < u → u < r → execute x m u s ≡ next s' → ⊥
