-- Programs, and what the bytes of an instruction stand for.
-- Assumes nothing.
use Rattle.std.specs.Prelude.{cond, ℕ, eqb, ltb, get_or, replicate}
use Rattle.std.proofs.Math.Option.{Option, none, some}
pub use Rattle.program.specs.declared.Instruction.{Instruction}
pub use Rattle.program.specs.declared.Code.{Code}
pub use Rattle.program.specs.declared.Condition.{Condition}
pub use Rattle.program.specs.declared.Program.{Program}
pub use Rattle.program.specs.declared.Operand.{Operand}
pub use Rattle.program.specs.declared.Operand.TheVariants.{Constant, OfRegister}
pub use Rattle.program.specs.declared.ComputeMode.{ComputeMode}
pub use Rattle.program.specs.declared.ComputeMode.TheVariants.{Add, Subtract, ExclusiveOr, Equal}
pub use Rattle.program.specs.declared.LoadMode.{LoadMode}
pub use Rattle.program.specs.declared.LoadMode.TheVariants.{PlainLoad, Acquire, WeakAcquire}
pub use Rattle.program.specs.declared.StoreMode.{StoreMode}
pub use Rattle.program.specs.declared.StoreMode.TheVariants.{PlainStore, Release}
pub use Rattle.program.specs.declared.FenceMode.{FenceMode}
pub use Rattle.program.specs.declared.FenceMode.TheVariants.{DmbSy, DmbLd, DmbSt, Isb}
pub use Rattle.program.specs.declared.Instr.{Instr}
pub use Rattle.program.specs.declared.Instr.TheVariants.{Compute, Load, Store, Branch, Fence}

-- ---- entries that are not used are 0
abbrev pub no_instruction : Instruction
no_instruction = record { op = 0; m = 0; r = 0; k1 = 0; n1 = 0; k2 = 0; n2 = 0 }

abbrev pub no_code : Code
no_code = record { count = 0; instructions = replicate 16 no_instruction }

abbrev pub no_condition : Condition
no_condition = record { kind = 0; thread = 0; index = 0; value = 0 }

abbrev pub no_program : Program
no_program = record { version = 0; threads = 0; codes = replicate 4 no_code; conditions = 0; question = replicate 8 no_condition }

-- ---- what an instruction's bytes stand for
-- an operand, by its kind k: a constant for 0, else a register
unfoldable pub operand : ℕ → ℕ → Operand
operand k n = cond (eqb k 0) (Constant n) (OfRegister n)

-- the operation of a compute, by its byte m
unfoldable pub compute_mode : ℕ → ComputeMode
compute_mode m = cond (eqb m 0) Add (cond (eqb m 1) Subtract (cond (eqb m 2) ExclusiveOr Equal))

-- the mode of a load, by its byte m
unfoldable pub load_mode : ℕ → LoadMode
load_mode m = cond (eqb m 0) PlainLoad (cond (eqb m 1) Acquire WeakAcquire)

-- the mode of a store, by its byte m
unfoldable pub store_mode : ℕ → StoreMode
store_mode m = cond (eqb m 0) PlainStore Release

-- the kind of a fence, by its byte m
unfoldable pub fence_mode : ℕ → FenceMode
fence_mode m = cond (eqb m 0) DmbSy (cond (eqb m 1) DmbLd (cond (eqb m 2) DmbSt Isb))

-- op 0 compute, 1 load, 2 store, 3 branch, 4 fence
unfoldable pub decode : Instruction → Instr
decode i =
    let a = operand i.k1 i.n1 in
    let b = operand i.k2 i.n2 in
    cond (eqb i.op 0) (Compute (compute_mode i.m) i.r a b)
    (cond (eqb i.op 1) (Load (load_mode i.m) i.r a b)
    (cond (eqb i.op 2) (Store (store_mode i.m) a b)
    (cond (eqb i.op 3) (Branch i.m a b)
    (Fence (fence_mode i.m)))))

-- the bytes at a position
abbrev pub instruction_at : Code → ℕ → Instruction
instruction_at c n = get_or c.instructions n no_instruction

-- the instruction at a position, if the position is before the thread's end
unfoldable pub instr_at : Code → ℕ → Option Instr
instr_at c n = cond (ltb n c.count) (some (decode (instruction_at c n))) none

-- the code of thread i
unfoldable pub code_of : Program → ℕ → Code
code_of p i = get_or p.codes i no_code
