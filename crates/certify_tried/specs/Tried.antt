-- What is known after some tries of an instruction, and whether anything can come of another.
-- Assumes nothing.
use Rattle.std.specs.Prelude.{◌≡◌, ◌⊎◌, Bool, true, false, List, ℕ, ◌+◌, ◌≤◌, ◌<◌, set}
use Rattle.std.specs.Int.Count.{ones}
use Rattle.program.specs.Counts.{stores_from}
use Rattle.certify_runs.specs.Below.{Code, Operand, LoadMode, StoreMode, Instr, Load, Store, Memory, Thread}
use Rattle.certify_cares.specs.Cares.{care_of, Agreeing, AgreeingBut, Covers}
use Rattle.certify_vain.specs.Tries.{Vain}
pub use Rattle.certify_tried.specs.declared.Reached.{Reached}
pub use Rattle.certify_tried.specs.declared.Tried.{Tried}

-- where the instruction is a store: b is true only if fewer than 16 messages stand, and false only if not, or if too few stores are left after it
pub record Appends (c : Code) (m : Memory) (s : Thread) (x : Instr) (b : Bool) : Type 0 where
  pub room : b ≡ true → m.count < 16
  pub never : b ≡ false → (k : StoreMode) (a d : Operand) → x ≡ Store k a d → (16 ≤ m.count) ⊎ (stores_from c (s.position + 1) < ones s.promises)

-- nothing can come of a try at time t: it is in vain, or more promises are outstanding than stores are left
abbrev pub Hopeless : Code → Memory → Thread → Instr → List ℕ → ℕ → Type 0
Hopeless c m s x counted t = Vain m s x counted t ⊎ (stores_from c s.position < ones s.promises)

-- what is noted of a try at time t, which was apart or not
pub record Noted (x : Instr) (t : ℕ) (p : Tried) (sub : Reached) (apart : Bool) (r : Tried) : Type 0 where
  pub load : (k : LoadMode) (j : ℕ) (a b : Operand) → x ≡ Load k j a b
      → (r.met ≡ sub.met) × (r.counted ≡ set p.counted t (care_of sub.cares.of j)) × ((s s' : Thread) → Agreeing r.cares.of s s' → AgreeingBut sub.cares.of j s s') × (r.apart ≡ true → apart ≡ true)
  pub store : (k : StoreMode) (a d : Operand) → x ≡ Store k a d
      → (r.met ≡ sub.met) × (r.counted ≡ p.counted) × ((s s' : Thread) → Agreeing r.cares.of s s' → Agreeing sub.cares.of s s')
  pub covers : Covers r.cares.of p.cares.of
  pub narrower : r.apart ≡ true → p.apart ≡ true
