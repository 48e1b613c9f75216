-- What the functions of programs promise each other: readings that go on, the first byte that is out of range, codes whose branches land, stores.
-- Assumes nothing.
use Rattle.std.specs.Prelude.{◌≡◌, Bool, cond, List, [], ◌∷◌, ℕ, suc, ◌+◌, ◌≤◌, eqb, ltb, Option, Some, None, Result, Ok, Err, option_map}
use Rattle.std.proofs.Math.Option.{some}
use Rattle.program.specs.Program.{Code, Program, Operand, Instr, Compute, Load, Store, Branch, Fence, instr_at}
use Rattle.program.specs.Refusals.{Refused}
use Rattle.program.specs.File.{Reading, stopped, reading}

-- ---- readings
-- P of the place, the stores and the program, if the reading goes on
abbrev pub IfReading : (ℕ → ℕ → Program → Type 0) → Reading → Type 0
IfReading P (stopped r place) = Unit
IfReading P (reading at s p) = P at s p

-- on after what is done, or stopped by its refusal
abbrev pub after : Result Unit Refused → Reading → Reading
after (Ok done) on = on
after (Err e) on = stopped e.refusal e.place

-- ---- bytes out of range
-- the place of the first test that fails, if one does
unfoldable pub first_failing : List Bool → Option ℕ
first_failing [] = None
first_failing (b ∷ bs) = cond b (option_map suc (first_failing bs)) (Some 0)

-- ---- two of a condition's tests, by themselves
abbrev pub asked_thread_test : ℕ → ℕ → ℕ → Bool
asked_thread_test threads kind thread = cond (eqb kind 0) (ltb thread threads) (eqb thread 0)

abbrev pub index_limit : ℕ → ℕ
index_limit kind = cond (eqb kind 0) 7 15

-- ---- codes
-- 1 for a store, 0 for any other
abbrev pub stores_of : Instr → ℕ
stores_of (Compute k r a b) = 0
stores_of (Load k r a b) = 0
stores_of (Store k a d) = 1
stores_of (Branch n a b) = 0
stores_of (Fence k) = 0

-- at most 16 instructions; a branch's target may be the end but not beyond
pub record CodeOk (c : Code) : Type 0 where
  pub short : c.count ≤ 16
  pub lands : (n j : ℕ) (a b : Operand) → instr_at c n ≡ some (Branch j a b) → n + suc j ≤ c.count
