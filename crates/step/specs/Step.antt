-- One step of the machine: its rule must allow it, and its thread must be certified afterwards. The refusals are tested from the lowest number on.
-- Assumes nothing.
use Rattle.std.specs.Prelude.{Bool, true, false, ◌&&◌, ℕ, zero, suc, eqb, leb, ltb, set}
use Rattle.std.proofs.Math.Option.{Option, none, some}
use Rattle.program.specs.Program.{instr_at, code_of}
use Rattle.program.specs.WellFormed.{program_test}
use Rattle.program.specs.declared.Refusal.{Refusal}
use Rattle.program.specs.declared.Refusal.TheVariants.{NotWellFormed, NoThread, StepKind, NoLocation, MemoryFull, AtEnd, NotCertified}
use Rattle.machine.specs.State.{thread_of, append}
use Rattle.machine.specs.Rules.{Executed, refused, next, execute, add_promise}
use Rattle.machine.specs.WellFormed.{machine_test}
use Rattle.certify_runs.specs.Certify.{certified}
use Rattle.certify_runs.specs.Below.{Program, Instr, Memory, Thread, Machine}
use Rattle.step.specs.declared.TraceStep.{TraceStep}

-- a step, as a trace has it: kind, thread, a, b
abbrev pub Step : Type 0
Step = TraceStep

-- the answer of a step: a refusal, or the next machine
pub data Decision : Type 0 where
  rejected : Refusal → Decision
  accepted : Machine → Decision

-- go on if the test passes, else refuse
abbrev pub check : Bool → Refusal → Decision → Decision
check true r o = o
check false r o = rejected r

-- thread i becomes s on memory m, if it is certified there: 29
unfoldable pub settle : Program → Machine → ℕ → Memory → Thread → Decision
settle p x i m s = check (certified (code_of p i) i m s) NotCertified (accepted (record { memory = m; threads = set x.threads i s }))

-- after the rule: its refusal 26, 27 or 28, or the thread's next state on the same memory
abbrev pub settle_rule : Program → Machine → ℕ → Executed → Decision
settle_rule p x i (refused r) = rejected r
settle_rule p x i (next s) = settle p x i x.memory s

-- thread at its end: 25
abbrev pub execute_instr : Program → Machine → ℕ → ℕ → Option Instr → Decision
execute_instr p x i t none = rejected AtEnd
execute_instr p x i t (some c) = settle_rule p x i (execute c x.memory t (thread_of x i))

-- thread i executes its next instruction at time t
unfoldable pub execute_step : Program → Machine → ℕ → ℕ → Decision
execute_step p x i t = execute_instr p x i t (instr_at (code_of p i) (thread_of x i).position)

-- thread i promises location l and value v: location above 15: 23; 16 messages stand: 24; certified on the memory after the step: 29
unfoldable pub promise_step : Program → Machine → ℕ → ℕ → ℕ → Decision
promise_step p x i l v =
    let m = append x.memory (record { location = l; value = v; thread = i }) in
    check (leb l 15) NoLocation
    (check (ltb x.memory.count 16) MemoryFull
    (settle p x i m (add_promise m (thread_of x i))))

-- kind 0 is an execution at time a, with b 0; kind 1 is a promise of the value b, a byte, at location a; any other step: 22
unfoldable pub kind_step : Program → Machine → Step → ℕ → Decision
kind_step p x k zero = check (eqb k.b 0) StepKind (execute_step p x k.thread k.a)
kind_step p x k (suc n) = check (eqb n 0 && leb k.b 255) StepKind (promise_step p x k.thread k.a k.b)

-- the rules alone, on a program and a machine that are well formed; no such thread: 21
unfoldable pub rule_step : Program → Machine → Step → Decision
rule_step p x k = check (ltb k.thread p.threads) NoThread (kind_step p x k k.kind)

-- A STEP: program or machine not well formed: 20
unfoldable pub step : Program → Machine → Step → Decision
step p x k = check (program_test p && machine_test p x) NotWellFormed (rule_step p x k)

-- the machine after a step that is accepted
abbrev pub taken : Decision → Option Machine
taken (rejected r) = none
taken (accepted x) = some x
