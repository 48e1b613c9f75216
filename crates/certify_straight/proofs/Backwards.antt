-- What a failure rests on before instructions that have one way to go on, by what it rests on after them.
-- Assumes nothing.
use Rattle.std.proofs.Common.{◌≡◌, ℕ, eqb, List, sym, refl, ap, ◌∙◌, subst}
use mathlib.Core.Option.{some}
use Rattle.program.specs.Program.{instr_at}
use Rattle.machine.specs.Rules.{value_of, combine, compute_done, branch_by, branch_done, fence_done}
use Rattle.certify_runs.specs.Below.{Code, Operand, ComputeMode, FenceMode, Instr, Compute, Branch, Fence, Thread}
use Rattle.certify_cares.specs.Cares.{Agrees, care_of, Agreeing, AgreeingBut}
use Rattle.certify_under.specs.Under.{Rests}
use Rattle.certify_under.proofs.Resting.{compute_rests, branch_rests, fence_rests}
use Rattle.certify_straight.specs.Straight.{plainly, Leads, here, on}
use Rattle.certify_straight.proofs.Plain.{plain_compute, plain_branch, plain_fence}

-- where is so before them what rests by r, is so after them, where s has come to be y, what rests by k
abbrev pub Backwards : Code → Thread → Thread → List ℕ → List ℕ → Type 0
Backwards c s y k r = (s' : Thread) → Rests r s s' → (y' : Thread) × (Leads c s' y' × Rests k y y')

-- there is none
pub back_none : (c : Code) (s : Thread) (k : List ℕ) → Backwards c s s k k
back_none c s k s' rests = (s', (here, rests))

module _ (c : Code) (s y : Thread) (k : List ℕ) where
  module _ (x : Instr) (g : instr_at c s.position ≡ some x) (s₁ : Thread) (q : List ℕ) (rec : Backwards c s₁ y k q) (r : List ℕ) where
    -- one more
    back_on : ((s' : Thread) → Rests r s s' → (s₁' : Thread) × ((plainly x s' ≡ some s₁') × Rests q s₁ s₁')) → Backwards c s y k r
    back_on step s' rests =
        let after = step s' rests in
        let w = rec after.0 after.1.1 in
        (w.0, (on x after.0 (ap (instr_at c) (sym rests.under.same_position) ∙ g) after.1.0 w.1.0, w.1.1))

    pub back_compute : (how : ComputeMode) (j : ℕ) (a b : Operand) → x ≡ Compute how j a b → s₁ ≡ compute_done how j a b s
        → ((s' : Thread) → Agreeing r s s' → AgreeingBut q j s s' × Agrees (care_of q j) (combine how (value_of s a) (value_of s b)) (combine how (value_of s' a) (value_of s' b)))
        → Backwards c s y k r
    back_compute how j a b is e cares =
        back_on (λ s' rests.
        let w = cares s' rests.agreeing in
        (compute_done how j a b s', (plain_compute x s' (compute_done how j a b s') is refl, subst (λ (v : Thread). Rests q v (compute_done how j a b s')) (sym e) (compute_rests how j a b s s' q rests.under w.0 w.1))))

    pub back_branch : (n : ℕ) (a b : Operand) → x ≡ Branch n a b → s₁ ≡ branch_done n a b s
        → ((s' : Thread) → Agreeing r s s' → Agreeing q s s' × (branch_by (eqb (value_of s a) (value_of s b)) n ≡ branch_by (eqb (value_of s' a) (value_of s' b)) n))
        → Backwards c s y k r
    back_branch n a b is e cares =
        back_on (λ s' rests.
        let w = cares s' rests.agreeing in
        (branch_done n a b s', (plain_branch x s' (branch_done n a b s') is refl, subst (λ (v : Thread). Rests q v (branch_done n a b s')) (sym e) (branch_rests n a b s s' q (record { under = rests.under; agreeing = w.0 }) w.1))))

    pub back_fence : (how : FenceMode) → x ≡ Fence how → s₁ ≡ fence_done how s → r ≡ q → Backwards c s y k r
    back_fence how is e same =
        back_on (λ s' rests.
        (fence_done how s', (plain_fence x s' (fence_done how s') is refl, subst (λ (v : Thread). Rests q v (fence_done how s')) (sym e) (fence_rests how s s' q (subst (λ (v : List ℕ). Rests v s s') same rests)))))
