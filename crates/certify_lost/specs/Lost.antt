-- Messages that are lost: no store that a thread can come to can write them any more.
-- Assumes nothing.
use Rattle.std.specs.Prelude.{◌≡◌, ◌⊎◌, Bool, true, false, List, ℕ, ◌+◌, ◌*◌, ◌≤◌, ◌<◌, T}
use Rattle.std.proofs.Math.Option.{some}
use Rattle.program.specs.declared.Code.{Code}
use Rattle.program.specs.declared.Operand.{Operand}
use Rattle.program.specs.declared.Operand.TheVariants.{Constant, OfRegister}
use Rattle.program.specs.declared.StoreMode.{StoreMode}
use Rattle.program.specs.declared.Instr.{Instr}
use Rattle.program.specs.declared.Instr.TheVariants.{Compute, Load, Store, Branch, Fence}
use Rattle.program.specs.Program.{instr_at}
use Rattle.machine.specs.declared.Memory.{Memory}
use Rattle.machine.specs.declared.Thread.{Thread}
use Rattle.machine.specs.declared.Views.{Views}
use Rattle.machine.specs.State.{message_at, has, with_promises}
use Rattle.machine.specs.Rules.{next, value_of, address, store_pre, execute}
use Rattle.certify_cares.specs.Cares.{Marked, held, Agreeing, Covers}
use Rattle.certify_cares.specs.declared.Cares.{Cares}
use Rattle.certify_lost.specs.Lower.{Lower}
pub use Rattle.certify_lost.specs.declared.wanted.Wanted.{Wanted}

-- ---- where a thread can come to
-- GOES: one instruction leads from s to y, at any time on any memory, whatever is promised
pub record Goes (c : Code) (s y : Thread) : Type 0 where
  pub memory : Memory
  pub time : ℕ
  pub promises : ℕ
  pub instr : Instr
  pub is_next : instr_at c s.position ≡ some instr
  pub does : execute instr memory time (with_promises promises s) ≡ next y

-- ARRIVES: instructions lead from s to y, one after the other
pub data ComesTo (c : Code) (s : Thread) : Thread → Type 0 where
  start : ComesTo c s s
  after : {z y : Thread} → ComesTo c s z → Goes c z y → ComesTo c s y

-- ---- messages that are wanted
-- the value is wanted
abbrev pub InRange : Wanted → ℕ → Type 0
InRange w v = (w.low ≤ v) × (v < w.high)

-- a message to l of value v is wanted
abbrev pub Fits : Wanted → ℕ → ℕ → Type 0
Fits w l v = Marked w.places l × InRange w v

-- a store of the thread cannot write it: its views are too large, or it is to another location, or of another value
pub data Misses (w : Wanted) (s : Thread) (k : StoreMode) (a d : Operand) : Type 0 where
  late : w.time ≤ store_pre k 0 0 s.views → Misses w s k a d
  elsewhere : (Marked w.places (address (value_of s a)) → ⊥) → Misses w s k a d
  other : (InRange w (value_of s d) → ⊥) → Misses w s k a d

-- nor can the thread's next instruction
abbrev pub NextMisses : Code → Wanted → Thread → Type 0
NextMisses c w s = (k : StoreMode) (a d : Operand) → instr_at c s.position ≡ some (Store k a d) → Misses w s k a d

-- LOST: wherever the thread comes to, its next instruction cannot
abbrev pub Lost : Code → Thread → Wanted → Type 0
Lost c s w = (y : Thread) → ComesTo c s y → NextMisses c w y

-- ---- what is known before a thread has come there
-- the instruction writes register n
abbrev pub Writes : Instr → ℕ → Type 0
Writes (Compute k r a b) n = r ≡ n
Writes (Load k r a b) n = r ≡ n
Writes (Store k a d) n = ⊥
Writes (Branch k a b) n = ⊥
Writes (Fence k) n = ⊥

-- the operand is none of the registers in a set
abbrev pub Unwritten : ℕ → Operand → Type 0
Unwritten set (Constant v) = Unit {0}
Unwritten set (OfRegister r) = (r < 16) × (Marked set r → ⊥)

-- y holds what s holds, but for the registers in a set
abbrev pub Holding : ℕ → Thread → Thread → Type 0
Holding set s y = (n : ℕ) → n < 16 → (Marked set n → ⊥) → held y n ≡ held s n

-- the registers in a set, with those that the instruction writes
pub record Writing (set : ℕ) (x : Instr) (r : ℕ) : Type 0 where
  pub before : (n : ℕ) → Marked set n → Marked r n
  pub written : (n : ℕ) → n < 16 → Writes x n → Marked r n

-- where views are v at least, the instruction leaves r at least
abbrev pub Leaves : Instr → Views → Views → Type 0
Leaves x v r = (m : Memory) (t : ℕ) (s y : Thread) → Lower v s.views → execute x m t s ≡ next y → Lower r y.views

-- and so if every way leads through it; else they stay
pub record Passing (x : Instr) (v : Views) (certain : Bool) (r : Views) : Type 0 where
  pub through : certain ≡ true → Leaves x v r
  pub beside : certain ≡ false → r ≡ v

-- how far branches lead, with the instruction at a position
pub record Farther (x : Instr) (at far r : ℕ) : Type 0 where
  pub before : far ≤ r
  pub led : (n : ℕ) (a b : Operand) → x ≡ Branch n a b → at + 1 + n ≤ r

-- y is at the same position, and its views are no smaller
pub record Above (s y : Thread) : Type 0 where
  pub same_position : s.position ≡ y.position
  pub views_low : Lower s.views y.views

-- the instruction cannot write the message where views are v at least, and the registers of the set may have been written, in each thread in which is so what r rests on
pub record Barred (x : Instr) (s : Thread) (v : Views) (w : Wanted) (set : ℕ) (before r : Cares) : Type 0 where
  pub covers : Covers r.of before.of
  pub bars : (y : Thread) → Above s y → Agreeing r.of s y
      → (z : Thread) → Lower v z.views → Holding set y z → (k : StoreMode) (a d : Operand) → x ≡ Store k a d → Misses w z k a d

-- lost in each thread in which is so what that rests on
abbrev pub LostIn : Code → Thread → List ℕ → Wanted → Type 0
LostIn c s cares w = (y : Thread) → Above s y → Agreeing cares s y → Lost c y w

-- ---- what comes to nothing
-- a message that fills the hole by a number 256 · l + v from `from` on and below `top` is wanted
pub record Filling (hole from top : ℕ) (w : Wanted) : Type 0 where
  pub at_hole : w.time ≡ hole
  pub low_byte : w.low < 256
  pub fits : (l v : ℕ) → l < 16 → v < 256 → from ≤ 256 * l + v → 256 * l + v < top → Fits w l v

-- a promise besides the hole is lost
pub record PromiseLost (c : Code) (m : Memory) (s : Thread) (hole : ℕ) (cares : List ℕ) : Type 0 where
  pub wanted : Wanted
  pub out : T (has s.promises wanted.time)
  pub in_memory : wanted.time ≤ m.count
  pub no_hole : hole ≡ wanted.time → ⊥
  pub fits : Fits wanted (message_at m wanted.time).location (message_at m wanted.time).value
  pub lost : LostIn c s cares wanted

-- what would fill the hole is lost
pub record HoleLost (c : Code) (s : Thread) (hole from top : ℕ) (cares : List ℕ) : Type 0 where
  pub wanted : Wanted
  pub there : hole ≡ 0 → ⊥
  pub filling : Filling hole from top wanted
  pub lost : LostIn c s cares wanted

-- FRUITLESS: a promise is lost, or what would fill the hole
abbrev pub Fruitless : Code → Memory → Thread → ℕ → ℕ → ℕ → List ℕ → Type 0
Fruitless c m s hole from top cares = PromiseLost c m s hole cares ⊎ HoleLost c s hole from top cares
