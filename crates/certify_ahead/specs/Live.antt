-- Live registers: what a register holds matters at a position only if some way on reads it before it is written, and does more with it than compute what does not matter. Branches go forward only.
-- Assumes nothing.
use Rattle.std.specs.Prelude.{◌≡◌, ◌⊎◌, Bool, true, false, not, ◌&&◌, ◌||◌, ℕ, ◌+◌, T, eqb}
use Rattle.std.proofs.Math.Option.{some}
use Rattle.program.specs.declared.Code.{Code}
use Rattle.program.specs.declared.Operand.{Operand}
use Rattle.program.specs.declared.Operand.TheVariants.{Constant, OfRegister}
use Rattle.program.specs.declared.ComputeMode.{ComputeMode}
use Rattle.program.specs.declared.Instr.{Instr}
use Rattle.program.specs.declared.Instr.TheVariants.{Compute, Load, Store, Branch, Fence}
use Rattle.program.specs.Program.{instr_at}

-- the operand is register k
unfoldable pub is_register : ℕ → Operand → Bool
is_register k (Constant n) = false
is_register k (OfRegister r) = eqb r k

-- one of the operands is register k
unfoldable pub either_register : ℕ → Operand → Operand → Bool
either_register k a b = is_register k a || is_register k b

-- the instruction reads register k to find a location, for which the value counts modulo 16
unfoldable pub locates : ℕ → Instr → Bool
locates k (Compute o r a b) = false
locates k (Load o r a b) = either_register k a b
locates k (Store o a d) = is_register k a
locates k (Branch n a b) = false
locates k (Fence o) = false

-- it reads register k for the value itself; a branch that skips nothing goes on at one place whatever the values, and what a compute reads matters only if its result does (see LIVE)
unfoldable pub weighs : ℕ → Instr → Bool
weighs k (Compute o r a b) = false
weighs k (Load o r a b) = false
weighs k (Store o a d) = is_register k d
weighs k (Branch n a b) = not (eqb n 0) && either_register k a b
weighs k (Fence o) = false

-- true: for the value itself; false: for the location it stands for
abbrev pub reads : Bool → ℕ → Instr → Bool
reads true = weighs
reads false = locates

-- the instruction writes register k
unfoldable pub writes : ℕ → Instr → Bool
writes k (Compute o r a b) = eqb r k
writes k (Load o r a b) = eqb r k
writes k (Store o a d) = false
writes k (Branch n a b) = false
writes k (Fence o) = false

-- how many instructions it may skip
unfoldable pub skips : Instr → ℕ
skips (Compute o r a b) = 0
skips (Load o r a b) = 0
skips (Store o a d) = 0
skips (Branch n a b) = n
skips (Fence o) = 0

-- LIVE: register k is read at position n, for its value (true) or for the location it stands for (false); or it is not written there and is live at a position that may come next; or it is read there by a compute whose result is live, as either: then its value counts
pub data Live (c : Code) : Bool → ℕ → ℕ → Type 0 where
  here : {v : Bool} {k n : ℕ} (x : Instr) → instr_at c n ≡ some x → T (reads v k x) → Live c v k n
  later : {v : Bool} {k n : ℕ} (x : Instr) (n' : ℕ) → instr_at c n ≡ some x → (T (writes k x) → ⊥) → (n' ≡ n + 1) ⊎ (n' ≡ n + (skips x + 1)) → Live c v k n' → Live c v k n
  through : {v : Bool} {k n : ℕ} (o : ComputeMode) (r : ℕ) (a b : Operand) → instr_at c n ≡ some (Compute o r a b) → T (either_register k a b) → Live c v r (n + 1) → Live c true k n
