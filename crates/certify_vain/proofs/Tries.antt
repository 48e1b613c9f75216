-- What the code relies on, on plain values: times that are in vain.
-- Assumes nothing.
use mathlib.Core.Path.{◌≡◌, subst, subst₂, ◌∙◌}
use mathlib.Core.Bool.{cond}
use mathlib.Core.List.{List}
use Prim.Native.Nat.{ℕ, ◌+◌, ◌≤◌, ◌<◌}
use lib.Dec.{eqb}
use lib.ListN.{length, get_or}
use Rattle.program.proofs.Arrays.{get_d_any}
use Rattle.machine.specs.State.{fresh_forward}
use Rattle.machine.specs.Rules.{value_of, address, read_value}
use Rattle.certify_runs.specs.Below.{Operand, LoadMode, Instr, Load, Memory, Forward, Thread}
use Rattle.certify_cares.specs.Cares.{Agrees}
use Rattle.certify_vain.specs.Tries.{Doubled, Vain}

-- time u is one before t that was tried, and that t is no better than, by what the code read: the forward pair of the location, what counted, the views and the values
pub doubled_here : (m : Memory) (s : Thread) (l : ℕ) (counted : List ℕ) (t u : ℕ) → u < t → u < length counted
    → (pair : Forward) → pair ≡ get_or s.forward l fresh_forward → (v w : ℕ) → v ≡ cond (eqb u pair.time) pair.view u → w ≡ cond (eqb t pair.time) pair.view t
    → (x y : ℕ) → x ≡ read_value m u → y ≡ read_value m t → (get_or counted u 0 ≡ 3 → ⊥) × ((v ≤ w) × Agrees (get_or counted u 0) x y) → Doubled m s l counted t
doubled_here m s l counted t u ut ul pair pe v w ve we x y xe ye h =
    let e = get_d_any 0 3 counted u ul in
    record {
      time = u;
      before = ut;
      tried = λ z. h.0 (e ∙ z);
      low = subst (λ (p : Forward). cond (eqb u p.time) p.view u ≤ cond (eqb t p.time) p.view t) pe (subst₂ (λ (p q : ℕ). p ≤ q) ve we h.1.0);
      alike = subst (λ (i : ℕ). Agrees i (read_value m u) (read_value m t)) e (subst₂ (λ (p q : ℕ). Agrees (get_or counted u 0) p q) xe ye h.1.1);
    }

-- a load with such a time before t is tried at t in vain
pub load_vain : (m : Memory) (s : Thread) (x : Instr) (k : LoadMode) (r : ℕ) (a b : Operand) → x ≡ Load k r a b → (l : ℕ) → l ≡ address (value_of s a + value_of s b)
    → (counted : List ℕ) (t : ℕ) → Doubled m s l counted t → Vain m s x counted t
load_vain m s x k r a b is l at counted t d = record { mode = k; register = r; a = a; b = b; is_load = is; doubled = subst (λ (j : ℕ). Doubled m s j counted t) at d }
