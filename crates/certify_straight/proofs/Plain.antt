-- Instructions that have one way to go on: what they leave, where they lead, and where they end.
-- Assumes nothing.
use Rattle.std.proofs.Common.{◌≡◌, ℕ, ◌<◌, ◌≤◌, true, cond, ◌||◌, T, eqb, ◌⊎◌, List, sym, refl, ap, ◌∙◌, subst, inl, inr, ⊎_elim, le_refl, arith, eqb→eq}
use mathlib.Core.Option.{none, some, some-injective}
use borrow.Author.Tests.{eqb-false}
use Rattle.program.specs.declared.Instruction.{Instruction}
use Rattle.program.specs.Program.{operand, compute_mode, load_mode, store_mode, fence_mode, decode, instruction_at, instr_at}
use Rattle.program.proofs.Counts.{there}
use Rattle.program.proofs.Tests.{or_cases}
use Rattle.machine.specs.State.{fresh_memory}
use Rattle.machine.specs.Rules.{compute_done, branch_done, fence_done}
use Rattle.machine.proofs.Effects.{Effect, computed, branched, fenced, moves}
use Rattle.certify_runs.specs.Below.{Code, Operand, ComputeMode, FenceMode, Instr, Compute, Load, Store, Branch, Fence, Memory, Thread}
use Rattle.certify_runs.specs.Inner.{Ready}
use Rattle.certify_runs.proofs.Ready.{ready_after}
use Rattle.certify_straight.specs.Straight.{Step, plainly, Leads, here, on, Halts, Walked, start, further}

pub no_thread : {s : Thread} → none ≡ some s → ⊥
no_thread {s} e = eqb-false 0 1 refl cc

-- ---- one plain instruction
-- it executes at time 0, whatever the memory
pub plain_effect : (x : Instr) (s s' : Thread) → plainly x s ≡ some s' → (m : Memory) → Effect m 0 s x s'
unfolding plainly
plain_effect (Compute k r a b) s s' e m = subst (Effect m 0 s (Compute k r a b)) (some-injective _ _ e) (computed refl)
plain_effect (Load k r a b) s s' e m = absurd (no_thread e)
plain_effect (Store k a d) s s' e m = absurd (no_thread e)
plain_effect (Branch n a b) s s' e m = subst (Effect m 0 s (Branch n a b)) (some-injective _ _ e) (branched refl)
plain_effect (Fence k) s s' e m = subst (Effect m 0 s (Fence k)) (some-injective _ _ e) (fenced refl)

pub leads_further : {c : Code} {s y : Thread} → Leads c s y → s.position ≤ y.position
leads_further here = le_refl _
leads_further {s = s} (on x s' g e rest) = let a = moves (plain_effect x s s' e fresh_memory) in let b = leads_further rest in omega arith

pub leads_ready : {c : Code} {m : Memory} {s y : Thread} → Leads c s y → Ready c m s → Ready c m y
leads_ready here o = o
leads_ready {m = m} {s} (on x s' g e rest) o = leads_ready rest (ready_after o (plain_effect x s s' e m))

-- one more
leads_on : {c : Code} {s y y' : Thread} (x : Instr) → Leads c s y → instr_at c y.position ≡ some x → plainly x y ≡ some y' → Leads c s y'
leads_on {c} {s} {y} {y'} x l g e = go l
  where
    go : {s' : Thread} → Leads c s' y → Leads c s' y'
    go here = on x y' g e here
    go (on x' s' g' e' rest) = on x' s' g' e' (go rest)

pub walked_leads : {c : Code} {s : Thread} {steps : List Step} {y : Thread} {j : ℕ} → Walked c s steps j y → Leads c s y
walked_leads start = here
walked_leads (further x w g p i t) = leads_on x (walked_leads w) g p

-- to another instruction that has more ways, or to the end, if the first is not such a one
pub walked_further : {c : Code} {s y : Thread} {steps : List Step} {j : ℕ} → Walked c s steps j y → Halts c y → (Halts c s → ⊥) → s.position < y.position
walked_further start h n = absurd (n h)
walked_further (further {y = y} {y' = y'} x w g p i t) h n = let a = leads_further (walked_leads w) in let b = moves (plain_effect x y y' p fresh_memory) in omega arith

-- ---- what the code does
module _ (x : Instr) (y y' : Thread) where
  pub plain_compute : {k : ComputeMode} {r : ℕ} {a b : Operand} → x ≡ Compute k r a b → y' ≡ compute_done k r a b y → plainly x y ≡ some y'
  unfolding plainly
  plain_compute is e = rw (is, e)

  pub plain_branch : {n : ℕ} {a b : Operand} → x ≡ Branch n a b → y' ≡ branch_done n a b y → plainly x y ≡ some y'
  unfolding plainly
  plain_branch is e = rw (is, e)

  pub plain_fence : {k : FenceMode} → x ≡ Fence k → y' ≡ fence_done k y → plainly x y ≡ some y'
  unfolding plainly
  plain_fence is e = rw (is, e)

-- ---- where they end
-- at the thread's end
pub halts_end : (c : Code) (s : Thread) → c.count ≤ s.position → Halts c s
halts_end c s h x g = let l = (there c s.position x g).0 in absurd (omega arith)

-- the op byte of a load or store
pub op_halts : (i : Instruction) (s : Thread) (n : ℕ) → (n ≡ 1) ⊎ (n ≡ 2)
    → plainly (cond (eqb n 0) (Compute (compute_mode i.m) i.r (operand i.k1 i.n1) (operand i.k2 i.n2))
    (cond (eqb n 1) (Load (load_mode i.m) i.r (operand i.k1 i.n1) (operand i.k2 i.n2))
    (cond (eqb n 2) (Store (store_mode i.m) (operand i.k1 i.n1) (operand i.k2 i.n2))
    (cond (eqb n 3) (Branch i.m (operand i.k1 i.n1) (operand i.k2 i.n2))
    (Fence (fence_mode i.m)))))) s ≡ none
unfolding plainly
op_halts i s n (inl e) = rw e refl
op_halts i s n (inr e) = rw e refl

pub halts_op : (c : Code) (s : Thread) (i : Instruction) → i ≡ instruction_at c s.position → (eqb i.op 1 || eqb i.op 2) ≡ true → Halts c s
unfolding decode
halts_op c s i e h x g =
    let at : decode i ≡ x = ap decode e ∙ (there c s.position x g).1 in
    let one : (i.op ≡ 1) ⊎ (i.op ≡ 2) = ⊎_elim (λ a. inl (eqb→eq i.op 1 a)) (λ b. inr (eqb→eq i.op 2 b)) (or_cases (eqb i.op 1) (eqb i.op 2) (subst T (sym h) tt)) in
    subst (λ (y : Instr). plainly y s ≡ none) at (op_halts i s i.op one)
