-- The bound: every accepted step takes one from the instructions and stores that are left.
-- Assumes nothing.
use mathlib.Core.Path.{◌≡◌, refl, sym, ap, ◌∙◌}
use mathlib.Core.Option.{some}
use Prim.Native.Nat.{ℕ, zero, suc, ◌+◌, ◌≤◌, ◌<◌}
use native.Mathlib.Omega.{arith}
use lib.ListN.{length}
use lib.Seq.{get_or-set_same, get_or-set_other}
use Rattle.theory_views.proofs.Entries.{replicate_all}
use Rattle.program.specs.Tests.{sum_below}
use Rattle.program.specs.Program.{instr_at, code_of}
use Rattle.program.specs.Counts.{stores_from, stores, instructions, size}
use Rattle.program.proofs.Counts.{sum_same, sum_change, there, stores_past, stores_fall}
use Rattle.program.proofs.Formed.{ProgramOk, program_ok}
use Rattle.machine.specs.State.{fresh_thread, fresh, thread_of}
use Rattle.machine.proofs.Sets.{ones_none, ones_with}
use Rattle.machine.proofs.Effects.{Effect, moves}
use Rattle.machine.proofs.Formed.{MachineOk, machine_iff}
use Rattle.certify_runs.proofs.Fit.{takes, promises_fit}
use Rattle.certify_runs.specs.Inner.{outstanding}
use Rattle.certify_runs.specs.Below.{Code, Program, Instr, Memory, Thread, Machine}
use Rattle.step.specs.Step.{Step, accepted, step}
use Rattle.step.specs.Inner.{left, potential}
use Rattle.step.proofs.Backwards.{moved, promised_memory, promised_thread, Did, executed, promised, did}

-- ---- one thread moves
-- its new state, and the others as they were
pub moved_same : (x : Machine) (i : ℕ) (m : Memory) (s : Thread) → i < length x.threads → thread_of (moved x i m s) i ≡ s
moved_same x i m s h = get_or-set_same x.threads i s fresh_thread h

pub moved_other : (x : Machine) (i j : ℕ) (m : Memory) (s : Thread) → (j ≡ i → ⊥) → thread_of (moved x i m s) j ≡ thread_of x j
moved_other x i j m s n = get_or-set_other x.threads i j s fresh_thread n

-- a number of each thread, added up: the part of the thread that moved is replaced
pub sum_moved : (f : Code → Thread → ℕ) (p : Program) (x : Machine) (i : ℕ) (m : Memory) (s : Thread) → i < p.threads → i < length x.threads
    → sum_below (λ j. f (code_of p j) (thread_of (moved x i m s) j)) p.threads + f (code_of p i) (thread_of x i)
    ≡ sum_below (λ j. f (code_of p j) (thread_of x j)) p.threads + f (code_of p i) s
sum_moved f p x i m s h k =
    sum_change (λ j. f (code_of p j) (thread_of x j)) (λ j. f (code_of p j) (thread_of (moved x i m s) j)) p.threads i h
    (λ j l n. ap (f (code_of p j)) (sym (moved_other x i j m s n)))
    ∙ ap (λ (y : Thread). sum_below (λ j. f (code_of p j) (thread_of x j)) p.threads + f (code_of p i) y) (moved_same x i m s k)

-- an instruction leaves less, and no more unpromised stores
pub instruction_left : (c : Code) {m : Memory} {t : ℕ} {s s' : Thread} (x : Instr) → instr_at c s.position ≡ some x → Effect m t s x s'
    → (left c s' < left c s) × (stores_from c s'.position + outstanding s ≤ stores_from c s.position + outstanding s')
instruction_left c {m} {t} {s} {s'} x g e =
    let a = (there c s.position x g).0 in
    let b = moves e in
    let d = takes e in
    let f = stores_past c s.position x g in
    let h = stores_fall c (suc s.position) s'.position b in
    (omega arith, omega arith)

-- ---- a step
module _ (p : Program) (x : Machine) (po : ProgramOk p) (mo : MachineOk p x) where
  pub in_array : (i : ℕ) → i < p.threads → i < length x.threads
  in_array i h = let a = po.few_threads in let b = mo.four in omega arith

  -- one more promise is outstanding after a promise
  pub one_promise : (i l v : ℕ) → i < p.threads → outstanding (promised_thread x i l v) ≡ suc (outstanding (thread_of x i))
  one_promise i l v h = ones_with (thread_of x i).promises x.memory.count (mo.states i h).promises_in

  lower : {k : Step} {x' : Machine} → Did p x k x' → potential p x' < potential p x
  unfolding potential
  lower (executed {i} {t} c s h g e q) =
      let u = sum_moved left p x i x.memory s h (in_array i h) in
      let w = (instruction_left (code_of p i) c g e).0 in
      omega arith
  lower (promised {i} {l} {v} h low byte room q) =
      let m = promised_memory x i l v in
      let s = promised_thread x i l v in
      let u = sum_moved left p x i m s h (in_array i h) in
      let f = promises_fit (code_of p i) i m s q in
      let o = one_promise i l v h in
      omega arith

-- an accepted step was on a well-formed program and machine
pub well_formed : (p : Program) (x x' : Machine) (k : Step) → step p x k ≡ accepted x' → ProgramOk p × MachineOk p x
well_formed p x x' k e =
    let d = did p x x' k e in
    let po = program_ok p d.0 in
    (po, (machine_iff p po.few_threads x).0 d.1)

-- EACH ACCEPTED STEP LOWERS THE POTENTIAL
pub lowers : (p : Program) (x x' : Machine) (k : Step) → step p x k ≡ accepted x' → potential p x' < potential p x
lowers p x x' k e = let w = well_formed p x x' k e in lower p x w.0 w.1 (did p x x' k e).2

-- ---- the fresh machine
pub fresh_thread_lem : (i : ℕ) → thread_of fresh i ≡ fresh_thread
unfolding fresh
fresh_thread_lem i = replicate_all (λ (s : Thread). s ≡ fresh_thread) 4 fresh_thread refl i

sum-add : (f g : ℕ → ℕ) (n : ℕ) → sum_below (λ i. f i + g i) n ≡ sum_below f n + sum_below g n
unfolding sum_below
sum-add f g zero = refl
sum-add f g (suc n) = let r = sum-add f g n in omega arith

fresh_left : (c : Code) → left c fresh_thread ≡ c.count + stores_from c 0
unfolding fresh_thread
fresh_left c = let z = ones_none in omega arith

-- at the start what is left is the instructions and the stores of the program together
pub potential_fresh : (p : Program) → potential p fresh ≡ size p
unfolding potential size instructions stores
potential_fresh p =
    sum_same (λ i. left (code_of p i) (thread_of fresh i)) (λ i. (code_of p i).count + stores_from (code_of p i) 0) p.threads
    (λ i l. ap (left (code_of p i)) (fresh_thread_lem i) ∙ fresh_left (code_of p i))
    ∙ sum-add (λ i. (code_of p i).count) (λ i. stores_from (code_of p i) 0) p.threads
