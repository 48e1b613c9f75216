-- The first certifying run from a state, by the first from the state after its next instruction.
-- Assumes nothing.
use mathlib.Core.Path.{◌≡◌, sym, ap, subst, ◌∙◌}
use mathlib.Core.Logic.{◌⊎◌, inl, inr, ⊎_elim}
use mathlib.Core.List.{List, [], ◌∷◌}
use mathlib.Core.Option.{some, some-injective}
use Prim.Native.Nat.{ℕ, ◌≤◌, ◌<◌}
use native.Mathlib.Decide.{ℕ_discrete, dec_lt}
use native.Mathlib.Omega.{arith}
use Rattle.program.specs.Program.{instr_at}
use Rattle.machine.specs.State.{append}
use Rattle.machine.specs.Rules.{next, execute, add_promise}
use Rattle.machine.proofs.Effects.{next_same}
use Rattle.certify_runs.specs.Below.{Code, Instr, Message, Memory, Thread}
use Rattle.certify_runs.specs.Certify.{RunStep, executed, own_message, message_of}
use Rattle.certify_runs.specs.Runs.{Certifying}
use Rattle.certify_runs.specs.First.{Certifies, stop, go, go_own, by_time, own_last, Before, parts, alike, First}
use Rattle.certify_runs.proofs.First.{certifies_run, ends}

-- it is here
pub first_stop : {c : Code} {i : ℕ} {m : Memory} {s : Thread} → s.promises ≡ 0 → First c i m s []
first_stop e = record { certifies = stop e; least = λ k r. inl (ends e r) }

-- a step before both
one_step : (a : RunStep) {l k : List RunStep} → (k ≡ l) ⊎ Before l k → ((a ∷ k) ≡ (a ∷ l)) ⊎ Before (a ∷ l) (a ∷ k)
one_step a = ⊎_elim (λ e. inl (ap (λ (j : List RunStep). a ∷ j) e)) (λ b. inr (alike b))

module _ (c : Code) (i : ℕ) (m : Memory) (s : Thread) (out : s.promises ≡ 0 → ⊥) (x : Instr) (is_next : instr_at c s.position ≡ some x) where
  same_next : {x' : Instr} → instr_at c s.position ≡ some x' → x' ≡ x
  same_next {x'} g = some-injective x' x (sym g ∙ is_next)

  -- the instruction is executed at time t, and comes to nothing at earlier times
  module _ (t : ℕ) (y : Thread) (l : List RunStep) (tl : t ≤ m.count) (does : execute x m t s ≡ next y) (d : First c i m y l)
      (fails : (u : ℕ) (z : Thread) → u < t → execute x m u s ≡ next z → Certifying c i m z → ⊥) where
    after : (u : ℕ) (z : Thread) {k : List RunStep} → execute x m u s ≡ next z → Certifies c i m z k → ((executed u ∷ k) ≡ (executed t ∷ l)) ⊎ Before (executed t ∷ l) (executed u ∷ k)
    after u z {k} e r = elim (ℕ_discrete u t) [
      | yes same ↦ (let here = subst (λ (v : ℕ). execute x m v s ≡ next z) same e in
          let run = subst (λ (v : Thread). Certifies c i m v k) (next_same (sym here ∙ does)) r in
          subst (λ (v : ℕ). ((executed v ∷ k) ≡ (executed t ∷ l)) ⊎ Before (executed t ∷ l) (executed v ∷ k)) (sym same) (one_step (executed t) (d.least k run)))
      | no other ↦ elim (dec_lt u t) [ yes early ↦ absurd (fails u z early e (certifies_run r)) | no late ↦ inr (parts (by_time {t = t} {u = u} (omega arith))) ]
    ]

    at_least : (k : List RunStep) → Certifies c i m s k → (k ≡ (executed t ∷ l)) ⊎ Before (executed t ∷ l) k
    at_least k (stop e) = absurd (out e)
    at_least k (go x' u z n g ul e r) = after u z (subst (λ (v : Instr). execute v m u s ≡ next z) (same_next g) e) r
    at_least k (go_own x' w z n g gw few e r) = inr (parts own_last)

    pub first_at : First c i m s (executed t ∷ l)
    first_at = record { certifies = go x t y out is_next tl does d.certifies; least = at_least }

  -- it is a store with a message of its own, and comes to nothing at any time of the memory
  module _ (w : Message) (y : Thread) (l : List RunStep) (is_own : message_of i s x ≡ some w) (few : m.count < 16)
      (does : execute x (append m w) (append m w).count (add_promise (append m w) s) ≡ next y) (d : First c i (append m w) y l)
      (fails : (u : ℕ) (z : Thread) → u ≤ m.count → execute x m u s ≡ next z → Certifying c i m z → ⊥) where
    own_least : (k : List RunStep) → Certifies c i m s k → (k ≡ (own_message (append m w).count ∷ l)) ⊎ Before (own_message (append m w).count ∷ l) k
    own_least k (stop e) = absurd (out e)
    own_least k (go x' u z n g ul e r) = absurd (fails u z ul (subst (λ (v : Instr). execute v m u s ≡ next z) (same_next g) e) (certifies_run r))
    own_least k (go_own {l = j} x' w' z n g gw fw e r) = as_that w' (some-injective w' w (sym gw ∙ ap (message_of i s) (same_next g) ∙ is_own)) e r
      where
        as_that : (v : Message) → v ≡ w → execute x' (append m v) (append m v).count (add_promise (append m v) s) ≡ next z → Certifies c i (append m v) z j
            → ((own_message (append m v).count ∷ j) ≡ (own_message (append m w).count ∷ l)) ⊎ Before (own_message (append m w).count ∷ l) (own_message (append m v).count ∷ j)
        as_that v same q run =
            let m' = append m w in
            let here : execute x m' m'.count (add_promise m' s) ≡ next z = subst (λ (o : Instr). execute o m' m'.count (add_promise m' s) ≡ next z) (same_next g) (subst (λ (o : Message). execute x' (append m o) (append m o).count (add_promise (append m o) s) ≡ next z) same q) in
            let there = subst (λ (o : Thread). Certifies c i m' o j) (next_same (sym here ∙ does)) (subst (λ (o : Message). Certifies c i (append m o) z j) same run) in
            one_step (own_message m'.count) (d.least j there)

    pub first_own : First c i m s (own_message (append m w).count ∷ l)
    first_own = record { certifies = go_own x w y out is_next is_own few does d.certifies; least = own_least }
