-- A branch looked at both ways: where neither leads to a number that is sought, it does not count which way a thread goes.
-- Assumes nothing.
use mathlib.Core.Path.{◌≡◌, refl, sym, ap, ap₂, subst, ◌∙◌}
use mathlib.Core.Logic.{◌⊎◌, inl, inr, ⊎_elim}
use mathlib.Core.Bool.{Bool, true, false, not}
use mathlib.Core.List.{List}
use mathlib.Core.Option.{some}
use Rattle.std.proofs.Common.{Option, None, Some}
use Prim.Native.Nat.{ℕ, ◌+◌, ◌<◌}
use native.Mathlib.Omega.{arith}
use lib.Dec.{eqb}
use Rattle.program.specs.Program.{instr_at}
use Rattle.machine.specs.Rules.{value_of, branch_by, branch_done}
use Rattle.machine.proofs.Effects.{branch_moves}
use Rattle.certify_runs.specs.Below.{Code, Branch, Memory, Thread}
use Rattle.certify_cares.specs.Cares.{Covers}
use Rattle.certify_cares.specs.declared.Cares.{Cares}
use Rattle.certify_under.specs.Threads.{at_position}
use Rattle.certify_under.specs.Under.{Rests}
use Rattle.certify_under.proofs.Resting.{branch_rests, other_rests}
use Rattle.certify_straight.specs.Straight.{Step, Leads, here, on, Halts, Walked, Forked, Ended}
use Rattle.certify_straight.specs.declared.Fork.{Fork}
use Rattle.certify_straight.proofs.Plain.{leads_further, walked_leads, walked_further, plain_branch}
use Rattle.certify_sought.specs.declared.Met.{Met}
use Rattle.certify_sought.specs.declared.Sought.{Sought}
use Rattle.certify_sought.specs.Numbers.{Unmet}
use Rattle.certify_sought.specs.Aim.{Meets}
use Rattle.certify_tried.specs.declared.Reached.{Reached}
use Rattle.certify.specs.Search.{Found}
use Rattle.certify.proofs.Leading.{leads_back}
use Rattle.certify.proofs.Finding.{rests_less}
use Rattle.certify.proofs.Reaching.{straight_better}

-- a test comes out as another or the other way
same_or_not : (p q : Bool) → (p ≡ q) ⊎ (not p ≡ q)
same_or_not true true = inl refl
same_or_not true false = inr refl
same_or_not false true = inr refl
same_or_not false false = inl refl

module _ (c : Code) (s y : Thread) (steps : List Step) (count o : ℕ) (f : Forked c s steps count y o) where
  -- both ways lead further, so the search ends
  fork_this : s.position < y.position
  fork_this =
      let h = leads_further (walked_leads f.walked) in
      let e = ap (λ (v : Thread). v.position) f.after in
      let g = branch_moves (eqb (value_of f.before f.a) (value_of f.before f.b)) f.over in
      omega arith

  pub fork_other : s.position < o
  fork_other =
      let h = leads_further (walked_leads f.walked) in
      let e = f.other_way in
      let g = branch_moves (not (eqb (value_of f.before f.a) (value_of f.before f.b))) f.over in
      omega arith

  module _ (i : ℕ) (m : Memory) (lead : Leads c s y) (q : Sought) (r : Reached) (this : Found q.from q.met (λ v j. Meets c i m v q.hole j) y r)
      (z : Thread) (ze : z ≡ at_position y o) (p : Reached) (other : Found q.from r.met (λ v j. Meets c i m v q.hole j) z p) (same : r.met ≡ p.met)
      (both k : Cares) (covers : Covers both.of r.cares.of × Covers both.of p.cares.of)
      (back : (s' : Thread) → Rests k.of s s' → (v : Thread) × (Leads c s' v × Rests both.of f.before v)) where
    -- a thread that has come to the branch too, by where it goes
    past : (v : Thread) → Rests both.of f.before v → (j : ℕ) → Unmet q.from r.met j → Meets c i m (branch_done f.over f.a f.b v) q.hole j → ⊥
    past v rests j u w = ⊎_elim this_way other_way (same_or_not (eqb (value_of f.before f.a) (value_of f.before f.b)) (eqb (value_of v f.a) (value_of v f.b)))
      where
        y' : Thread
        y' = branch_done f.over f.a f.b v

        this_way : eqb (value_of f.before f.a) (value_of f.before f.b) ≡ eqb (value_of v f.a) (value_of v f.b) → ⊥
        this_way e =
            this.barren y' (rests_less covers.0 (subst (λ (t : Thread). Rests both.of t y') (sym f.after) (branch_rests f.over f.a f.b f.before v both.of rests (ap (λ (t : Bool). branch_by t f.over) e)))) j u w

        other_way : not (eqb (value_of f.before f.a) (value_of f.before f.b)) ≡ eqb (value_of v f.a) (value_of v f.b) → ⊥
        other_way e =
            let at : o ≡ v.position + branch_by (eqb (value_of v f.a) (value_of v f.b)) f.over = f.other_way ∙ ap₂ (λ (n : ℕ) (t : Bool). n + branch_by t f.over) rests.under.same_position e in
            let is : at_position (branch_done f.over f.a f.b f.before) o ≡ z = sym (ze ∙ ap (λ (t : Thread). at_position t o) f.after) in
            other.barren y' (rests_less covers.1 (subst (λ (t : Thread). Rests both.of t y') is (other_rests f.over f.a f.b f.before v both.of rests o at))) j (subst (λ (l : Met). Unmet q.from l j) same u) w

    pub both_found : Found q.from q.met (λ v j. Meets c i m v q.hole j) s (record { met = r.met; cares = k })
    both_found =
        record {
          better = straight_better c i m s y lead q this.better;
          barren = λ s' rests j u w.
              let b = back s' rests in
              let v = b.0 in
              let at : instr_at c v.position ≡ some (Branch f.over f.a f.b) = ap (instr_at c) (sym b.1.1.under.same_position) ∙ f.is_next in
              let y' = branch_done f.over f.a f.b v in
              past v b.1.1 j u (leads_back (on (Branch f.over f.a f.b) y' at (plain_branch _ v y' refl refl) here) i q.hole j (leads_back b.1.0 i q.hole j w));
        }

-- a walk leads further, whether it ends at a load or store or after a branch
pub ended_further : {c : Code} {s y : Thread} {steps : List Step} {count : ℕ} (f : Option Fork) → Ended c s steps count y f → Walked c s steps count y → (Halts c s → ⊥) → s.position < y.position
ended_further None e w n = walked_further w e n
ended_further {c} {s} {y} {steps} {count} (Some f) e w n = fork_this c s y steps count f.other e

-- after a branch to be looked at both ways
pub ended_forked : {c : Code} {s y : Thread} {steps : List Step} {count : ℕ} {o : Option Fork} {f : Fork} → o ≡ Some f → Ended c s steps count y o → Forked c s steps count y f.other
ended_forked {c} {s} {y} {steps} {count} e ended = subst (Ended c s steps count y) e ended
