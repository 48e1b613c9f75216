-- Programs written down.
-- Assumes nothing.
use Rattle.std.specs.Prelude.{List, ◌++◌, map, ℕ, ◌-◌, length, replicate}
use Rattle.program.specs.declared.Instruction.{Instruction}
use Rattle.program.specs.declared.Code.{Code}
use Rattle.program.specs.declared.Condition.{Condition}
use Rattle.program.specs.declared.Program.{Program}
use Rattle.program.specs.Program.{no_instruction, no_code, no_condition}

-- ---- operands, as (k, n)
abbrev pub con : ℕ → ℕ × ℕ
con n = (0, n)

abbrev pub reg : ℕ → ℕ × ℕ
reg n = (1, n)

-- ---- instructions
abbrev pub instruction : ℕ → ℕ → ℕ → ℕ × ℕ → ℕ × ℕ → Instruction
instruction op m r a b = record { op = op; m = m; r = r; k1 = a.0; n1 = a.1; k2 = b.0; n2 = b.1 }

abbrev pub add : ℕ → ℕ × ℕ → ℕ × ℕ → Instruction
add r a b = instruction 0 0 r a b

abbrev pub xor : ℕ → ℕ × ℕ → ℕ × ℕ → Instruction
xor r a b = instruction 0 2 r a b

abbrev pub load : ℕ → ℕ × ℕ → Instruction
load r a = instruction 1 0 r a (con 0)

abbrev pub load_acquire : ℕ → ℕ × ℕ → Instruction
load_acquire r a = instruction 1 1 r a (con 0)

abbrev pub load_weak_acquire : ℕ → ℕ × ℕ → Instruction
load_weak_acquire r a = instruction 1 2 r a (con 0)

abbrev pub store : ℕ × ℕ → ℕ × ℕ → Instruction
store a d = instruction 2 0 0 a d

abbrev pub store_release : ℕ × ℕ → ℕ × ℕ → Instruction
store_release a d = instruction 2 1 0 a d

-- a branch to the next instruction, taken or not: a control dependency
abbrev pub control : ℕ × ℕ → Instruction
control a = instruction 3 0 0 a (con 0)

abbrev pub dmb_sy : Instruction
dmb_sy = instruction 4 0 0 (con 0) (con 0)

abbrev pub dmb_st : Instruction
dmb_st = instruction 4 2 0 (con 0) (con 0)

abbrev pub isb : Instruction
isb = instruction 4 3 0 (con 0) (con 0)

-- ---- conditions
abbrev pub register_is : ℕ → ℕ → ℕ → Condition
register_is i r v = record { kind = 0; thread = i; index = r; value = v }

abbrev pub location_is : ℕ → ℕ → Condition
location_is l v = record { kind = 1; thread = 0; index = l; value = v }

-- ---- the whole; entries that are not used are 0
abbrev pub code : List Instruction → Code
code is = record { count = length is; instructions = is ++ replicate (16 - length is) no_instruction }

abbrev pub program : List (List Instruction) → List Condition → Program
program ts q = record {
  version = 1;
  threads = length ts;
  codes = map code ts ++ replicate (4 - length ts) no_code;
  conditions = length q;
  question = q ++ replicate (8 - length q) no_condition;
}
