-- What is asked before certification starts: well-formed programs and machines give it, and it goes on holding.
-- Assumes nothing.
use mathlib.Core.Path.{◌≡◌, sym, ◌∙◌, refl, subst}
use mathlib.Core.Bool.{Bool, true, ◌&&◌}
use Prim.Native.Nat.{ℕ, ◌≤◌, ◌<◌, ◌+◌, ◌-◌, ◌^◌}
use native.Mathlib.Omega.{arith}
use lib.Dec.{T}
use Rattle.program.specs.Program.{code_of}
use Rattle.program.specs.WellFormed.{program_test}
use Rattle.program.proofs.Tests.{and_left, and_right}
use Rattle.program.proofs.Formed.{ProgramOk, program_ok}
use Rattle.machine.specs.State.{thread_of, append}
use Rattle.machine.specs.WellFormed.{machine_test}
use Rattle.machine.specs.Inner.{Formed, reach, own_store}
use Rattle.machine.specs.Rules.{next, add_promise, store_message}
use Rattle.machine.proofs.Formed.{MachineOk, machine_iff}
use Rattle.machine.proofs.Sets.{with_small, without_small, grown_small}
use Rattle.machine.proofs.Cases.{reach_within}
use Rattle.machine.proofs.Effects.{Effect, computed, loaded, stored, branched, fenced, effect}
use Rattle.certify_runs.specs.Below.{Code, Program, Thread, Machine, Operand, StoreMode, Instr, Store, Message, Memory}
use Rattle.certify_runs.specs.Inner.{Ready, Trying}
use Rattle.certify_runs.proofs.Fit.{own_effect, own_leaves}

-- ---- what a well-formed program and machine give
module _ (p : Program) (x : Machine) where
  pub formed : (b : Bool) → b ≡ (program_test p && machine_test p x) → b ≡ true → Formed p x
  formed b e t = record { program_formed = and_left (program_test p) (machine_test p x) both; machine_formed = and_right (program_test p) (machine_test p x) both }
    where
      both : T (program_test p && machine_test p x)
      both = rw (sym e ∙ t) tt

  module _ (o : Formed p x) where
    pub program_facts : ProgramOk p
    program_facts = program_ok p o.program_formed

    pub machine_facts : MachineOk p x
    machine_facts = (machine_iff p program_facts.few_threads x).0 o.machine_formed

    module _ (i : ℕ) (h : i < p.threads) where
      pub of_four : i < 4
      of_four = let l = program_facts.few_threads in omega arith

      pub ready_here : Ready (code_of p i) x.memory (thread_of x i)
      ready_here = record { code_ok = program_facts.codes i h; room = machine_facts.memory_ok.room; promises_in = (machine_facts.states i h).promises_in }

-- ---- what holds of the thread goes on holding
pub ready_after : {c : Code} {m : Memory} {s : Thread} {t : ℕ} {x : Instr} {s' : Thread} → Ready c m s → Effect m t s x s' → Ready c m s'
ready_after w (computed e) = record { code_ok = w.code_ok; room = w.room; promises_in = w.promises_in }
ready_after w (loaded r n) = record { code_ok = w.code_ok; room = w.room; promises_in = w.promises_in }
ready_after {c} {m} {s} {t} w (stored p a b) = record { code_ok = w.code_ok; room = w.room; promises_in = without_small s.promises m.count t w.promises_in }
ready_after w (branched e) = record { code_ok = w.code_ok; room = w.room; promises_in = w.promises_in }
ready_after w (fenced e) = record { code_ok = w.code_ok; room = w.room; promises_in = w.promises_in }

pub ready_as : {c : Code} {m : Memory} {y z : Thread} → Ready c m y → z.promises ≡ y.promises → Ready c m z
ready_as {m = m} w e = record { code_ok = w.code_ok; room = w.room; promises_in = subst (λ (p : ℕ). p < 2 ^ m.count) (sym e) w.promises_in }

pub ready_own : {c : Code} {m : Memory} {s : Thread} (i : ℕ) (k : StoreMode) (a d : Operand) (s' : Thread) → Ready c m s → m.count < 16 → own_store k a d m i s ≡ next s'
    → Ready c (append m (store_message i a d s)) s'
unfolding own_store
ready_own {c} {m} {s} i k a d s' w h e =
    let m' = append m (store_message i a d s) in
    let o = own_effect i m (store_message i a d s) s refl (effect (Store k a d) m' m'.count (add_promise m' s) s' e) in
    record {
      code_ok = w.code_ok;
      room = omega arith;
      promises_in = subst (λ (q : ℕ). q < 2 ^ (m.count + 1)) (sym (own_leaves o)) (grown_small s.promises m.count w.promises_in);
    }

-- after a promise
pub ready_promised : (c : Code) (m : Memory) (s : Thread) → Ready c m s → m.count < 16 → (w : Message) → Ready c (append m w) (add_promise (append m w) s)
ready_promised c m s o few w = record { code_ok = o.code_ok; room = omega arith; promises_in = with_small s.promises m.count o.promises_in }

-- there is room for the promise in the set
pub with_room : (c : Code) (m : Memory) (s : Thread) → Ready c m s → m.count < 16 → (0 < m.count + 1) × ((m.count + 1 ≤ 16) × (s.promises < 2 ^ (m.count + 1 - 1)))
with_room c m s o few = let n : m.count + 1 - 1 ≡ m.count = omega arith in (omega arith, (omega arith, rw n o.promises_in))

-- the position stays a byte
pub reach_byte : (c : Code) (m : Memory) (s : Thread) (x : Instr) → Trying c m s x → s.position + reach x < 256
reach_byte c m s x w =
    let h = reach_within c w.ready.code_ok s.position x w.is_next in
    let l = w.ready.code_ok.short in
    omega arith
