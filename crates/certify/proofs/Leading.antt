-- Instructions that have one way to go on: a run from before them is a run from after them.
-- Assumes nothing.
use mathlib.Core.Path.{◌≡◌, refl, sym, ap, subst, ◌∙◌}
use mathlib.Core.Logic.{inl, inr}
use mathlib.Core.Option.{some, some-injective}
use Prim.Native.Nat.{ℕ}
use native.Mathlib.Omega.{arith}
use borrow.Author.Tests.{eqb-false}
use Rattle.program.specs.Program.{instr_at}
use Rattle.machine.specs.Rules.{next, execute}
use Rattle.machine.proofs.Effects.{Effect, computed, loaded, stored, branched, fenced, effect}
use Rattle.certify_runs.specs.Below.{Code, Instr, Compute, Load, Store, Branch, Fence, Message, Memory, Thread}
use Rattle.certify_runs.specs.Certify.{message_of}
use Rattle.certify_runs.specs.Runs.{done, by, own}
use Rattle.certify_runs.proofs.Executes.{executes}
use Rattle.certify_straight.specs.Straight.{plainly, Leads, here, on}
use Rattle.certify_straight.proofs.Plain.{no_thread, plain_effect}
use Rattle.certify_sought.specs.Aim.{Meets}

-- ---- one plain instruction
-- whatever executes it leaves what it leaves plainly
plain_same : {x : Instr} {m : Memory} {t : ℕ} {s s' s'' : Thread} → plainly x s ≡ some s' → Effect m t s x s'' → s'' ≡ s'
unfolding plainly
plain_same p (computed e) = some-injective _ _ p
plain_same p (loaded d n) = absurd (no_thread p)
plain_same p (stored q a b) = absurd (no_thread p)
plain_same p (branched e) = some-injective _ _ p
plain_same p (fenced e) = some-injective _ _ p

-- it leaves the promises as they were
pub plain_promises : (x : Instr) (s s' : Thread) → plainly x s ≡ some s' → s'.promises ≡ s.promises
unfolding plainly
plain_promises (Compute k r a b) s s' e = ap (λ (y : Thread). y.promises) (sym (some-injective _ _ e))
plain_promises (Load k r a b) s s' e = absurd (no_thread e)
plain_promises (Store k a d) s s' e = absurd (no_thread e)
plain_promises (Branch n a b) s s' e = ap (λ (y : Thread). y.promises) (sym (some-injective _ _ e))
plain_promises (Fence k) s s' e = ap (λ (y : Thread). y.promises) (sym (some-injective _ _ e))

-- it has no message of its own
plain_silent : (x : Instr) (s s' : Thread) → plainly x s ≡ some s' → (i : ℕ) (w : Message) → message_of i s x ≡ some w → ⊥
unfolding plainly
plain_silent (Compute k r a b) s s' p i w e = eqb-false 0 1 refl cc
plain_silent (Load k r a b) s s' p i w e = no_thread p
plain_silent (Store k a d) s s' p i w e = no_thread p
plain_silent (Branch n a b) s s' p i w e = eqb-false 0 1 refl cc
plain_silent (Fence k) s s' p i w e = eqb-false 0 1 refl cc

module _ (c : Code) (m : Memory) (y y' : Thread) (x : Instr) (g : instr_at c y.position ≡ some x) (p : plainly x y ≡ some y') where
  plain_back : (i h k : ℕ) → Meets c i m y h k → Meets c i m y' h k
  plain_back i h k (done (inl z)) = done (inl (z.0, z.1, plain_promises x y y' p ∙ z.2))
  plain_back i h k (done (inr (x', g', w))) = absurd (plain_silent x y y' p i w.message (ap (message_of i y) (some-injective x x' (sym g ∙ g')) ∙ w.is_own))
  plain_back i h k (by x' t s' g' tl e w) =
      let e' = subst (λ (v : Instr). execute v m t y ≡ next s') (sym (some-injective x x' (sym g ∙ g'))) e in
      subst (λ (v : Thread). Meets c i m v h k) (plain_same p (effect x m t y s' e')) w
  plain_back i h k (own x' w s' g' gw room e rest) = absurd (plain_silent x y y' p i w (ap (message_of i y) (some-injective x x' (sym g ∙ g')) ∙ gw))

-- ---- several
pub leads_there : {c : Code} {m : Memory} {s y : Thread} → Leads c s y → (i h k : ℕ) → Meets c i m y h k → Meets c i m s h k
leads_there here i h k w = w
leads_there {m = m} {s} (on x s' g e rest) i h k w = by {m = m} {s = s} x 0 s' g (omega arith) (executes (plain_effect x s s' e m)) (leads_there rest i h k w)

pub leads_back : {c : Code} {m : Memory} {s y : Thread} → Leads c s y → (i h k : ℕ) → Meets c i m s h k → Meets c i m y h k
leads_back here i h k w = w
leads_back {c} {m} {s} (on x s' g e rest) i h k w = leads_back rest i h k (plain_back c m s s' x g e i h k w)
