-- Instructions that have one way to go on: computes, branches and fences.
-- Assumes nothing.
use Rattle.std.specs.Prelude.{◌≡◌, ℕ, suc, ◌+◌, ◌-◌, ◌<◌, max, not, List, ◌==◌, nat_le, slice_index_or}
use Rattle.std.specs.Prelude as std
use Rattle.std.specs.Option.{MatchOption}
use Rattle.std.proofs.Math.Option.{Option, none, some}
use Rattle.program.specs.declared.Instruction.{Instruction}
use Rattle.program.specs.Program.{compute_mode, instruction_at, instr_at}
use Rattle.machine.specs.Rules.{value_of, combine, compute_done, branch_by, branch_done, fence_done}
use Rattle.certify_runs.specs.Below.{Code, Operand, Instr, Compute, Load, Store, Branch, Fence, Register, Thread}
use Rattle.certify_cares.specs.Cares.{no_step, Tells}
pub use Rattle.certify_cares.specs.declared.before.Step.{Step}
pub use Rattle.certify_straight.specs.declared.Fork.{Fork}

-- what such an instruction leaves
unfoldable pub plainly : Instr → Thread → Option Thread
plainly (Compute k r a b) s = some (compute_done k r a b s)
plainly (Load k r a b) s = none
plainly (Store k a d) s = none
plainly (Branch n a b) s = some (branch_done n a b s)
plainly (Fence k) s = some (fence_done k s)

-- by such instructions alone the thread comes to be the other
pub data Leads (c : Code) : Thread → Thread → Type 0 where
  here : {s : Thread} → Leads c s s
  on : {s y : Thread} (x : Instr) (s' : Thread) → instr_at c s.position ≡ some x → plainly x s ≡ some s' → Leads c s' y → Leads c s y

-- its next instruction, if it has one, is none of them
abbrev pub Halts : Code → Thread → Type 0
Halts c s = (x : Instr) → instr_at c s.position ≡ some x → plainly x s ≡ none

-- what a compute of mode m leaves in its register
abbrev pub result_of : ℕ → Register → Register → Register
result_of m a b = record { value = combine (compute_mode m) a.value b.value; view = max a.view b.view }

-- the step over an instruction, with what its operands are
abbrev pub step_over : Instruction → Register → Register → Step
step_over i a b = record { instruction = i; first = a.value; second = b.value; earlier = nat_le a.view b.view }

-- the step number j
abbrev pub passed_at : List Step → ℕ → Step
passed_at steps j = slice_index_or steps j no_step

-- WALKED: by j such instructions the thread s comes to be the other, and the steps tell of each
pub data Walked (c : Code) (s : Thread) (steps : List Step) : ℕ → Thread → Type 0 where
  start : Walked c s steps 0 s
  further : {j : ℕ} {y y' : Thread} (x : Instr) → Walked c s steps j y → instr_at c y.position ≡ some x → plainly x y ≡ some y'
      → (passed_at steps j).instruction ≡ instruction_at c y.position → Tells (passed_at steps j) y → Walked c s steps (suc j) y'

-- FORKED: the last of the steps is a branch, which on the other way leads to position o
pub record Forked (c : Code) (s : Thread) (steps : List Step) (count : ℕ) (y : Thread) (o : ℕ) : Type 0 where
  pub some_step : 0 < count
  pub before : Thread
  pub walked : Walked c s steps (count - 1) before
  pub over : ℕ
  pub a : Operand
  pub b : Operand
  pub is_next : instr_at c before.position ≡ some (Branch over a b)
  pub after : y ≡ branch_done over a b before
  pub other_way : o ≡ before.position + branch_by (not (value_of before a == value_of before b)) over

-- ENDED: the thread has come to its next load or store or its end; or it has gone over a branch to be looked at both ways
abbrev pub Ended : Code → Thread → List Step → ℕ → Thread → std.Option Fork → Type 0
Ended c s steps count y fork = MatchOption fork (Halts c y) (λ f. Forked c s steps count y f.other)
