-- What the tries of a load or store rest on, whatever comes after them.
-- Assumes nothing.
use Rattle.std.specs.Prelude.{◌≡◌, ◌⊎◌, Bool, true, List, ℕ, ◌+◌, ◌*◌, ◌≤◌, ◌<◌, T}
use Rattle.machine.specs.State.{message_at, has}
use Rattle.machine.specs.Rules.{value_of, address}
use Rattle.certify_runs.specs.Below.{Operand, LoadMode, StoreMode, Instr, Load, Store, Memory, Thread}
use Rattle.certify_cares.specs.Cares.{Marked, Agrees, Agreeing}
use Rattle.certify_under.specs.Vacant.{Vacant}
use Rattle.certify_sought.specs.Numbers.{Sought, Seeks}

-- a value y that agrees with v by the care r is that of a promise to l, one of the set p before the time end, only if it is v
abbrev pub OtherValues : Memory → ℕ → ℕ → ℕ → ℕ → ℕ → Type 0
OtherValues m p l v end r = (y u : ℕ) → Agrees r v y → T (has p u) → u < end → u ≤ m.count → (message_at m u).location ≡ l → (message_at m u).value ≡ y → v ≡ y

-- a byte y that agrees with v by the care k makes a store to l one of a number that is sought only if v does, and is v then
pub record Unsought (q : Sought) (l v k : ℕ) : Type 0 where
  pub found : Seeks q (256 * l + v) → (y : ℕ) → Agrees k v y → v ≡ y
  pub missed : (Seeks q (256 * l + v) → ⊥) → (y : ℕ) → y < 256 → Agrees k v y → Seeks q (256 * l + y) → ⊥

-- no promise of the set p is at location l, and where the hole is among them, no number that is sought is
pub record Elsewhere (m : Memory) (p : ℕ) (q : Sought) (l : ℕ) : Type 0 where
  pub unpromised : (u : ℕ) → T (has p u) → u ≤ m.count → (message_at m u).location ≡ l → ⊥
  pub unsought : T (has p q.hole) → (v : ℕ) → v < 256 → Seeks q (256 * l + v) → ⊥

-- the locations of the messages at the times of the set p before the time end are in the set r
abbrev pub Located : Memory → ℕ → ℕ → ℕ → Type 0
Located m p end r = (u : ℕ) → T (has p u) → u < end → u ≤ m.count → (message_at m u).location < 16 → Marked r (message_at m u).location

-- where the hole is among the promises, the locations of the numbers that are sought are in the set r
abbrev pub SoughtIn : ℕ → Sought → ℕ → Type 0
SoughtIn p q r = T (has p q.hole) → (l v : ℕ) → l < 16 → v < 256 → Seeks q (256 * l + v) → Marked r l

-- a thread whose registers agree stores to the same location, and the same value if it fulfils a promise
pub record StoresSame (m : Memory) (s : Thread) (a d : Operand) (s' : Thread) : Type 0 where
  pub place : address (value_of s a) ≡ address (value_of s' a)
  pub data_kept : (u : ℕ) → T (has s.promises u) → u ≤ m.count → (message_at m u).location ≡ address (value_of s a) → (message_at m u).value ≡ value_of s' d → value_of s d ≡ value_of s' d

-- the two threads load from the same location; or, where tries are apart, both from locations without a message
abbrev pub LoadsSame : Bool → Memory → Thread → Thread → Operand → Operand → Type 0
LoadsSame apart m s s' a b =
    let l = address (value_of s a + value_of s b) in
    let l' = address (value_of s' a + value_of s' b) in
    (l ≡ l') ⊎ ((apart ≡ true) × Vacant m l × Vacant m l')

-- the registers that agree by the cares make a store the same, or one elsewhere; where the hole is outstanding, its number is one that is sought only if that of the thread that failed is, and it has the same value then
pub record StoreAsks (m : Memory) (s : Thread) (a d : Operand) (q : Sought) (cares : List ℕ) : Type 0 where
  pub store : (s' : Thread) → Agreeing cares s s' → StoresSame m s a d s' ⊎ Elsewhere m s.promises q (address (value_of s' a))
  pub number : T (has s.promises q.hole) → (c : ℕ) × (Unsought q (address (value_of s a)) (value_of s d) c × ((s' : Thread) → Agreeing cares s s' → Agrees c (value_of s d) (value_of s' d)))

-- whichever the instruction is
pub record Asks (x : Instr) (m : Memory) (s : Thread) (q : Sought) (apart : Bool) (cares : List ℕ) : Type 0 where
  pub load : (k : LoadMode) (r : ℕ) (a b : Operand) → x ≡ Load k r a b → (s' : Thread) → Agreeing cares s s' → LoadsSame apart m s s' a b
  pub store : (k : StoreMode) (a d : Operand) → x ≡ Store k a d → StoreAsks m s a d q cares

-- what a store with a message of its own rests on, besides k: its location, and, if the message may be read, its data
pub record OwnAsks (k : List ℕ) (a d : Operand) (read : Bool) (cares : List ℕ) : Type 0 where
  pub besides : (s s' : Thread) → Agreeing cares s s' → Agreeing k s s'
  pub place : (s s' : Thread) → Agreeing cares s s' → Agrees (65536 * 65535) (value_of s a) (value_of s' a)
  pub value : read ≡ true → (s s' : Thread) → Agreeing cares s s' → Agrees 2 (value_of s d) (value_of s' d)

-- the other thread loads from the same location, or from one that tries apart tell of too; or stores to it, and the same value if it fulfils a promise
pub record Likewise (apart : Bool) (x : Instr) (m : Memory) (s s' : Thread) : Type 0 where
  pub load : (k : LoadMode) (r : ℕ) (a b : Operand) → x ≡ Load k r a b → LoadsSame apart m s s' a b
  pub store : (k : StoreMode) (a d : Operand) → x ≡ Store k a d → StoresSame m s a d s'

-- the other thread, if the instruction is a store, stores the same
abbrev pub Repeats : Instr → Thread → Thread → Type 0
Repeats x s s' = (k : StoreMode) (a d : Operand) → x ≡ Store k a d → (address (value_of s a) ≡ address (value_of s' a)) × (value_of s d ≡ value_of s' d)

-- the instruction is a store
pub record Stores (x : Instr) : Type 0 where
  pub mode : StoreMode
  pub a : Operand
  pub d : Operand
  pub is_store : x ≡ Store mode a d
