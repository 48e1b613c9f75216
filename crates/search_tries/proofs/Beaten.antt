-- What is worth a try of a thread after a load has left it uncertified.
-- Assumes nothing.
use mathlib.Core.Path.{◌≡◌, refl, sym, subst, ◌∙◌}
use mathlib.Core.Bool.{Bool, true, false}
use mathlib.Core.List.{List}
use mathlib.Core.Option.{none, some}
use Prim.Native.Nat.{ℕ, zero, suc, ◌+◌, ◌≤◌}
use lib.Dec.{T, eqb}
use borrow.Author.Tests.{eq-eqb, ne_eqb}
use Rattle.std.specs.Prelude.{Ok, Err}
use Rattle.program.specs.declared.Code.{Code}
use Rattle.program.specs.declared.Operand.{Operand}
use Rattle.program.specs.declared.LoadMode.{LoadMode}
use Rattle.program.specs.declared.Instr.{Instr}
use Rattle.program.specs.declared.Instr.TheVariants.{Load}
use Rattle.program.specs.declared.Program.{Program}
use Rattle.program.specs.Program.{instr_at}
use Rattle.program.specs.declared.Refusal.TheVariants.{NotCertified}
use Rattle.machine.specs.declared.Memory.{Memory}
use Rattle.machine.specs.declared.Thread.{Thread}
use Rattle.machine.specs.declared.Machine.{Machine}
use Rattle.machine.specs.State.{has}
use Rattle.machine.specs.Rules.{next, value_of, address, execute}
use Rattle.certify_cares.specs.Cares.{care_of}
use Rattle.certify_runs.specs.Certify.{certified}
use Rattle.certify_tried.specs.declared.Reached.{Reached}
use Rattle.certify_sought.specs.Aim.{Meets}
use Rattle.certify.specs.Search.{Found}
use Rattle.certify_vain.specs.Tries.{PassedOver}
use Rattle.certify_runs.proofs.Iff.{certified_iff}
use Rattle.certify.proofs.Later.{later_lost}
use Rattle.certify.proofs.Reaching.{found_twice, found_certified}
use Rattle.search_promises.proofs.Law.{same_run}
use Rattle.step.specs.Step.{step, taken}
use Rattle.step.specs.Order.{execution}
use Rattle.step.specs.Inner.{Here, Settles}
use Rattle.step.proofs.Stepping.{settle_yes, settle_no}
use Rattle.search_tries.specs.Worthwhile.{Attempts, Attempted, timely, Worth, Beaten, Narrowed}
use Rattle.search_tries.proofs.Refused.{not_certified}

-- nothing is ruled out
pub narrowed_none : (t : Attempts) (x : Instr) (m : Memory) (s : Thread) (time : ℕ) (cares : List ℕ) → Narrowed t x m s time cares t
narrowed_none t x m s time cares = record { same_zero = refl; beaten = λ u there gone. absurd (subst T gone there); same_promises = refl }

-- of a load, the times passed over
pub narrowed_load : (t : Attempts) (x : Instr) (m : Memory) (s : Thread) (time : ℕ) (cares : List ℕ) (k : LoadMode) (r : ℕ) (a b : Operand) → x ≡ Load k r a b
    → (l : ℕ) → l ≡ address (value_of s a + value_of s b) → (care : ℕ) → care ≡ care_of cares r → (later : ℕ) → PassedOver m s l time care t.later later
    → Narrowed t x m s time cares (record { zero = t.zero; later = later; promises = t.promises })
narrowed_load t x m s time cares k r a b is l le care ce later over =
    let over' = subst (λ (j : ℕ). PassedOver m s j time (care_of cares r) t.later later) le (subst (λ (j : ℕ). PassedOver m s l time j t.later later) ce over) in
    record { same_zero = refl; beaten = λ u there gone. record { mode = k; register = r; a = a; b = b; is_load = is; no_better = over' u there gone }; same_promises = refl }

-- certification does not depend on the thread's number
any_number : (c : Code) (i j : ℕ) (m : Memory) (s : Thread) → m.count ≤ 16 → T (certified c j m s) → T (certified c i m s)
any_number c i j m s room q =
    (certified_iff c i m s).1 (same_run i (record { same_count = refl; long = refl; at = λ k n. (refl, refl) }) room ((certified_iff c j m s).0 q))

-- ---- certified or not, as a search of runs says
module _ (c : Code) (i : ℕ) (m : Memory) (y : Thread) (r : Reached) (found : Found 0 (record { least = 1; second = 1 }) (λ v j. Meets c i m v 0 j) y r) where
  is_certified : eqb r.met.least 0 ≡ certified c i m y
  is_certified = found_certified c i m y r.met (found_twice _ _ _ _ _ found)

  pub found_settles : r.met.least ≡ 0 → Settles c i m y (Ok y)
  found_settles z = settle_yes c i m y _ is_certified (eq-eqb _ _ z)

  pub lost_settles : (r.met.least ≡ 0 → ⊥) → Settles c i m y (Err NotCertified)
  lost_settles n = settle_no c i m y _ is_certified (ne_eqb _ _ n)

-- ---- a load that left the thread uncertified
module _ (c : Code) (m : Memory) (s : Thread) (x : Instr) (is_next : instr_at c s.position ≡ some x) (room : m.count ≤ 16)
    (i time : ℕ) (y : Thread) (does : execute x m time s ≡ next y) (r : Reached) (found : Found 0 (record { least = 1; second = 1 }) (λ v j. Meets c i m v 0 j) y r) (lost : r.met.least ≡ 0 → ⊥) where
  -- a time that is no better leaves the thread uncertified too
  beaten_lost : (u : ℕ) → Beaten x m s time r.cares.of u → (j : ℕ) (y' : Thread) → execute x m u s ≡ next y' → T (certified c j m y') → ⊥
  beaten_lost u w j y' e q =
      later_lost c i m s w.mode w.register w.a w.b time y (load time y does) r found lost u y' w.no_better (load u y' e) (any_number c i j m y' room q)
    where
      load : (n : ℕ) (z : Thread) → execute x m n s ≡ next z → execute (Load w.mode w.register w.a w.b) m n s ≡ next z
      load n z d = subst (λ (o : Instr). execute o m n s ≡ next z) w.is_load d

  beaten_refused : (u : ℕ) → Beaten x m s time r.cares.of u → (p : Program) (z : Machine) (j : ℕ) → Here c m s p z j → taken (step p z (execution j u)) ≡ none
  beaten_refused u w p z j h =
      not_certified p z j x (rw (h.code, h.thread) is_next) u
      (rw (h.code, h.memory, h.thread) (λ (y' : Thread). beaten_lost u w j y'))

  -- what is left is all that is worth a try
  pub narrowed_worth : (t t' : Attempts) → Worth c m s t → Narrowed t x m s time r.cares.of t' → Worth c m s t'
  narrowed_worth t t' old n =
      record {
        times = λ p z j h k l. go p z j h k l;
        promises = λ l p z j h k. old.promises (sym n.same_promises ∙ l) p z j h k;
      }
    where
      go : (p : Program) (z : Machine) (j : ℕ) → Here c m s p z j → (k : ℕ) → timely t' k ≡ false → taken (step p z (execution j k)) ≡ none
      go p z j h zero l = old.times p z j h zero (sym n.same_zero ∙ l)
      go p z j h (suc k) l = by (has t.later (suc k)) refl
        where
          by : (b : Bool) → has t.later (suc k) ≡ b → taken (step p z (execution j (suc k))) ≡ none
          by true e = beaten_refused (suc k) (n.beaten (suc k) (subst T (sym e) tt) l) p z j h
          by false e = old.times p z j h (suc k) e
