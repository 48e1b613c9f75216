-- What a search of the runs of a thread alone answers, and what it knows on the way.
-- Assumes nothing.
use Rattle.std.specs.Prelude.{◌≡◌, ◌⊎◌, true, List, ℕ, ◌+◌, ◌≤◌, ◌<◌, T}
use Rattle.std.proofs.Math.Option.{none, some}
use Rattle.machine.specs.State.{append}
use Rattle.machine.specs.Rules.{next, value_of, address, execute, add_promise}
use Rattle.certify_runs.specs.Below.{Code, Operand, LoadMode, Instr, Load, Message, Memory, Thread}
use Rattle.certify_runs.specs.Certify.{message_of, certified}
use Rattle.certify_runs.specs.Inner.{onward}
use Rattle.certify_cares.specs.Cares.{care_of, Agreeing, AgreeingBut, Covers}
use Rattle.certify_under.specs.Under.{Rests}
use Rattle.certify_under.specs.Vacant.{Vacant}
use Rattle.certify_straight.specs.Straight.{plainly}
use Rattle.certify_vain.specs.Tries.{counted_at}
use Rattle.certify_sought.specs.declared.Met.{Met}
use Rattle.certify_sought.specs.declared.Sought.{Sought}
use Rattle.certify_sought.specs.Numbers.{Unmet, Better}
use Rattle.certify_sought.specs.Asks.{Likewise, Repeats}
use Rattle.certify_sought.specs.Aim.{Fills, Meets}
use Rattle.certify_tried.specs.declared.Reached.{Reached}
use Rattle.certify_tried.specs.declared.Tried.{Tried}

-- a store with its own message comes to it
pub record Owns (c : Code) (i : ℕ) (m : Memory) (s : Thread) (x : Instr) (h k : ℕ) : Type 0 where
  pub message : Message
  pub after : Thread
  pub is_own : message_of i s x ≡ some message
  pub fewer : m.count < 16
  pub does : execute x (append m message) (append m message).count (add_promise (append m message) s) ≡ next after
  pub goes_on : Meets c i (append m message) after h k

-- what r says is met from s is, and no thread in which is so what r rests on meets another number that is sought
pub record Found (from : ℕ) (p : Met) (P : Thread → ℕ → Type 0) (s : Thread) (r : Reached) : Type 0 where
  pub better : Better from (P s) p r.met
  pub barren : (s' : Thread) → Rests r.cares.of s s' → (k : ℕ) → Unmet from r.met k → P s' k → ⊥

-- the instruction is a load or store, and an empty promise set, if it is sought, is not here
pub record Unkept (s : Thread) (x : Instr) (q : Sought) : Type 0 where
  pub halting : plainly x s ≡ none
  pub outstanding : q.hole ≡ 0 → s.promises ≡ 0 → ⊥

-- the same of the store that fills the hole, for threads that store the same
pub record Filled (c : Code) (i : ℕ) (m : Memory) (s : Thread) (x : Instr) (q : Sought) (r : Reached) : Type 0 where
  pub better : Better q.from (λ k. Fills c i x q.hole k m s) q.met r.met
  pub barren : (s' : Thread) → Rests r.cares.of s s' → Repeats x s s' → (k : ℕ) → Unmet q.from r.met k → Fills c i x q.hole k m s' → ⊥

-- 0 is met only if the store can be executed at time t and the thread is then certified; else no thread that stores the same, and in which is so what r rests on, is
pub record Keeps (c : Code) (i : ℕ) (m : Memory) (s : Thread) (x : Instr) (t : ℕ) (r : Reached) : Type 0 where
  pub is_kept : r.met.least ≡ 0 → T (onward (certified c i m) (execute x m t s))
  pub is_lost : (r.met.least ≡ 0 → ⊥) → (s' : Thread) → Rests r.cares.of s s' → Repeats x s s' → T (onward (certified c i m) (execute x m t s')) → ⊥

-- what the try of a load into r at time u came to: it executed, or its location has no message and another time cannot be; and no thread in which is so what its failure rests on comes to a number that is sought; of register r that is what was noted, of the others it is among p
pub record Failed (c : Code) (i : ℕ) (m : Memory) (s : Thread) (x : Instr) (q : Sought) (p : Tried) (r : ℕ) (a b : Operand) (u : ℕ) : Type 0 where
  pub after : Thread
  pub does : (execute x m u s ≡ next after) ⊎ Vacant m (address (value_of s a + value_of s b))
  pub cares : List ℕ
  pub noted : care_of cares r ≡ counted_at p.counted u
  pub among : (s' : Thread) → Agreeing p.cares.of s s' → AgreeingBut cares r s s'
  pub barren : (y : Thread) → Rests cares after y → (k : ℕ) → Unmet q.from p.met k → Meets c i m y q.hole k → ⊥

-- what is known of the tries of a load or store
pub record Knows (c : Code) (i : ℕ) (m : Memory) (s : Thread) (x : Instr) (q : Sought) (p : Tried) : Type 0 where
  pub halting : plainly x s ≡ none
  pub failed : (k : LoadMode) (r : ℕ) (a b : Operand) → x ≡ Load k r a b → (u : ℕ) → (counted_at p.counted u ≡ 3 → ⊥) → Failed c i m s x q p r a b u

-- no thread that does likewise, and in which is so what p rests on, comes by executing it at time u to a number that is sought
abbrev pub Fails : Code → ℕ → Memory → Thread → Instr → Sought → Tried → ℕ → Type 0
Fails c i m s x q p u = (s' y : Thread) → Rests p.cares.of s s' → Likewise p.apart x m s s' → execute x m u s' ≡ next y → (k : ℕ) → Unmet q.from p.met k → Meets c i m y q.hole k → ⊥

-- what is known before time t, of the times from `low` on
pub record Missed (c : Code) (i : ℕ) (m : Memory) (s : Thread) (x : Instr) (q : Sought) (p : Tried) (low t : ℕ) : Type 0 where
  pub knows : Knows c i m s x q p
  pub missed : (u : ℕ) → low ≤ u → u < t → Fails c i m s x q p u

-- the thread comes to number k by executing the instruction at time t
abbrev pub Through : Code → ℕ → Memory → Thread → Instr → ℕ → ℕ → ℕ → Type 0
Through c i m s x t h k = (y : Thread) × (execute x m t s ≡ next y) × Meets c i m y h k

-- what the try at time t makes of what is known
pub record Went (c : Code) (i : ℕ) (m : Memory) (s : Thread) (x : Instr) (q : Sought) (p : Tried) (t : ℕ) (r : Tried) : Type 0 where
  pub better : Better q.from (Through c i m s x t q.hole) p.met r.met
  pub covers : Covers r.cares.of p.cares.of
  pub narrower : r.apart ≡ true → p.apart ≡ true
  pub knows : Knows c i m s x q r
  pub fails : Fails c i m s x q r t

-- what a try at time t answers: what it says is met is; and where a number is sought still, what it makes of what is known
pub record TriedAt (c : Code) (i : ℕ) (m : Memory) (s : Thread) (x : Instr) (q : Sought) (p : Tried) (t : ℕ) (r : Tried) : Type 0 where
  pub better : Better q.from (Through c i m s x t q.hole) p.met r.met
  pub went : (n : ℕ) → Unmet q.from r.met n → Went c i m s x q p t r
