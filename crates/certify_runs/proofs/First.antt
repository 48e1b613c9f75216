-- `first_run` gives the first certifying run, and none exactly where there is none.
-- Assumes nothing.
use mathlib.Core.Path.{◌≡◌, refl, sym, subst}
use mathlib.Core.Logic.{◌⊎◌, inl, inr, ⊎_elim, ◌↔◌}
use mathlib.Core.Bool.{Bool, true, false, cond}
use mathlib.Core.List.{List, [], ◌∷◌}
use mathlib.Core.Option.{Option, none, some, some-injective}
use Prim.Native.Nat.{ℕ, zero, suc, ◌+◌, ◌-◌, ◌≤◌, ◌<◌}
use native.Mathlib.Decide.{ℕ_discrete}
use native.Mathlib.Omega.{arith}
use lib.Dec.{T, eqb, ltb, eqb→eq, ltb→lt, lt→ltb}
use lib.ListN.{length}
use Rattle.program.specs.Program.{instr_at}
use Rattle.program.proofs.Tests.{eq→eqb}
use Rattle.program.proofs.Counts.{there}
use Rattle.machine.specs.State.{append}
use Rattle.machine.specs.Rules.{execute, add_promise}
use Rattle.machine.proofs.Effects.{effect, moves}
use Rattle.certify_runs.specs.Below.{Code, Instr, Message, Memory, Thread}
use Rattle.certify_runs.specs.Certify.{RunStep, executed, own_message, Steps, found, message_of, by_own_message, one_more, first_run_within, first_run, certified}
use Rattle.certify_runs.specs.Runs.{done, by, own, Fewer, Certifying}
use Rattle.certify_runs.specs.First.{Certifies, stop, go, go_own, by_time, own_last, Before, First}
use Rattle.certify_runs.proofs.Tells.{before_one, Tells, no_run, a_run, tells_one, tells_as, tells_either, tells_where, Among, tells_from, Begins, begins, sooner, tells_through}

-- ---- certifying runs, with their steps
-- a run that certifies is a certifying run
pub certifies_run : {c : Code} {i : ℕ} {m : Memory} {s : Thread} {l : List RunStep} → Certifies c i m s l → Certifying c i m s
certifies_run (stop e) = done e
certifies_run (go x t s' out g tl e r) = by x t s' g tl e (certifies_run r)
certifies_run (go_own x w s' out g gw few e r) = own x w s' g gw few e (certifies_run r)

-- a certifying run, cut at its first empty promise set, certifies
pub run_certifies : {c : Code} {i : ℕ} {m : Memory} {s : Thread} → Certifying c i m s → (l : List RunStep) × Certifies c i m s l
run_certifies (done e) = ([], stop e)
run_certifies {s = s} (by x t s' g tl e r) =
    let q = run_certifies r in
    elim (ℕ_discrete s.promises 0) [ yes z ↦ ([], stop z) | no out ↦ (executed t ∷ q.0, go x t s' out g tl e q.1) ]
run_certifies {m = m} {s} (own x w s' g gw few e r) =
    let q = run_certifies r in
    elim (ℕ_discrete s.promises 0) [ yes z ↦ ([], stop z) | no out ↦ (own_message (append m w).count ∷ q.0, go_own x w s' out g gw few e q.1) ]

-- it is no longer than what is left of the thread
pub run_short : {c : Code} {i : ℕ} {m : Memory} {s : Thread} {l : List RunStep} → Certifies c i m s l → length l ≤ c.count - s.position
run_short (stop e) = omega arith
run_short {c} {i} {m} {s} (go x t s' out g tl e r) =
    let here = (there c s.position x g).0 in
    let on = moves (effect x m t s s' e) in
    let rest = run_short r in
    omega arith
run_short {c} {i} {m} {s} (go_own x w s' out g gw few e r) =
    let here = (there c s.position x g).0 in
    let on = moves (effect x (append m w) (append m w).count (add_promise (append m w) s) s' e) in
    let rest = run_short r in
    omega arith

-- it ends where the promise set is empty
pub ends : {c : Code} {i : ℕ} {m : Memory} {s : Thread} {l : List RunStep} → s.promises ≡ 0 → Certifies c i m s l → l ≡ []
ends e (stop z) = refl
ends e (go x t s' out g tl f r) = absurd (out e)
ends e (go_own x w s' out g gw few f r) = absurd (out e)

-- and goes on where it is not
goes_on : {c : Code} {i : ℕ} {m : Memory} {s : Thread} {l : List RunStep} → (s.promises ≡ 0 → ⊥) → Certifies c i m s l → 0 < length l
goes_on out (stop e) = absurd (out e)
goes_on out (go x t s' n g tl e r) = omega arith
goes_on out (go_own x w s' n g gw few e r) = omega arith

-- ---- those that go on, as `one_more` looks at them
module _ (c : Code) (i : ℕ) (m : Memory) (s : Thread) where
  -- they begin with x, executed at time t
  abbrev Timed : Instr → ℕ → List RunStep → Type 0
  Timed x t = Begins (executed t) (Certifies c i m) (execute x m t s)

  -- or with x and its own message
  abbrev Owning : Instr → Option Message → List RunStep → Type 0
  Owning x none l = ⊥
  Owning x (some w) l =
      Fewer m × Begins (own_message (append m w).count) (Certifies c i (append m w)) (execute x (append m w) (append m w).count (add_promise (append m w) s)) l

  -- where x is the next instruction, if there is one
  abbrev More : Option Instr → List RunStep → Type 0
  More none l = ⊥
  More (some x) l = Among (Timed x) 0 (suc m.count) l ⊎ Owning x (message_of i s x) l

  -- where promises are outstanding they certify
  from_more : (s.promises ≡ 0 → ⊥) → (o : Option Instr) → instr_at c s.position ≡ o → (l : List RunStep) → More o l → Certifies c i m s l
  from_more out none g l z = absurd z
  from_more out (some x) g l z = ⊎_elim (λ q. timed q.0 (omega arith) q.3) (owning (message_of i s x) refl) z
    where
      timed : {k : List RunStep} (t : ℕ) → t ≤ m.count → Timed x t k → Certifies c i m s k
      timed t tl (begins {s = s'} e r) = go x t s' out g tl e r

      owned : {k : List RunStep} (w : Message) → message_of i s x ≡ some w → Fewer m
          → Begins (own_message (append m w).count) (Certifies c i (append m w)) (execute x (append m w) (append m w).count (add_promise (append m w) s)) k → Certifies c i m s k
      owned w gw few (begins {s = s'} e r) = go_own x w s' out g gw few e r

      owning : (o : Option Message) → message_of i s x ≡ o → Owning x o l → Certifies c i m s l
      owning none gw q = absurd q
      owning (some w) gw q = owned w gw q.0 q.1

-- and there are no others
to_more : {c : Code} {i : ℕ} {m : Memory} {s : Thread} {l : List RunStep} → (s.promises ≡ 0 → ⊥) → Certifies c i m s l → More c i m s (instr_at c s.position) l
to_more out (stop e) = absurd (out e)
to_more out (go x t s' n g tl e r) = rw g (inl (t, omega arith, omega arith, begins e r))
to_more out (go_own x w s' n g gw few e r) = rw g (inr (rw gw (few, begins e r)))

-- ---- what the definition tells of them
module _ (c : Code) (i : ℕ) (f : Memory → Thread → Steps) (m : Memory) (s : Thread) (rec : (m' : Memory) (s' : Thread) → s.position < s'.position → Tells (Certifies c i m' s') (f m' s')) where
  -- of those with an own message
  own_told : (x : Instr) (o : Option Message) → Tells (Owning c i m s x o) (by_own_message f x m s o)
  unfolding by_own_message
  own_told x none = no_run (λ l z. z)
  own_told x (some w) =
      let m' = append m w in
      tells_where (ltb m.count 16) (ltb→lt m.count 16) (lt→ltb m.count 16)
      (tells_through (own_message m'.count) (execute x m' m'.count (add_promise m' s)) (λ s' e. rec m' s' (moves (effect x m' m'.count (add_promise m' s) s' e))))

  -- of all that begin with an instruction
  more_told : (o : Option Instr) → Tells (More c i m s o) (one_more f i m s o)
  unfolding one_more
  more_told none = no_run (λ l z. z)
  more_told (some x) =
      tells_either (after (message_of i s x))
      (tells_from (λ t u l k lt. sooner (by_time lt)) (λ t. tells_through (executed t) (execute x m t s) (λ s' e. rec m s' (moves (effect x m t s s' e)))) 0 (suc m.count))
      (own_told x (message_of i s x))
    where
      after : (o : Option Message) (l k : List RunStep) → Among (Timed c i m s x) 0 (suc m.count) l → Owning c i m s x o k → Before l k
      after none l k q z = absurd z
      after (some w) l k q z = sooner own_last q.3 z.1

-- o tells of them where promises are outstanding
stop_told : {c : Code} {i : ℕ} {m : Memory} {s : Thread} {o : Steps} → ((s.promises ≡ 0 → ⊥) → Tells (Certifies c i m s) o)
    → Tells (Certifies c i m s) (cond (eqb s.promises 0) (some []) o)
stop_told {c} {i} {m} {s} {o} h = at (eqb s.promises 0) (eqb→eq s.promises 0) eq→eqb
  where
    at : (b : Bool) → (T b → s.promises ≡ 0) → (s.promises ≡ 0 → T b) → Tells (Certifies c i m s) (cond b (some []) o)
    at true f g = a_run (stop (f tt)) (λ l r. inl (ends (f tt) r))
    at false f g = h g

-- where the count of instructions comes up to the thread's end
pub within_told : (n : ℕ) (c : Code) (i : ℕ) (m : Memory) (s : Thread) → c.count ≤ n + s.position → Tells (Certifies c i m s) (first_run_within n c i m s)
unfolding first_run_within
within_told zero c i m s le = stop_told (λ out. no_run (λ l r. let long = goes_on out r in let short = run_short r in omega arith))
within_told (suc n) c i m s le =
    stop_told (λ out. tells_as (from_more c i m s out (instr_at c s.position) refl) (λ l. to_more out)
    (more_told c i (first_run_within n c i) m s (λ m' s' lt. within_told n c i m' s' (omega arith)) (instr_at c s.position)))

-- ---- the first run
module _ (c : Code) (i : ℕ) (m : Memory) (s : Thread) where
  -- the count of all instructions does
  pub first_told : Tells (Certifies c i m s) (first_run c i m s)
  unfolding first_run
  first_told = within_told c.count c i m s (omega arith)

  -- THE FIRST RUN is what `first_run` gives
  pub first_is : (l : List RunStep) → (first_run c i m s ≡ some l) ↔ First c i m s l
  first_is l = (λ e. told_run (subst (Tells (Certifies c i m s)) e first_told), λ d. tells_one first_told (a_run d.certifies d.least))
    where
      told_run : Tells (Certifies c i m s) (some l) → First c i m s l
      told_run (a_run r h) = record { certifies = r; least = h }

  -- NONE exactly where no run certifies
  pub first_none : (first_run c i m s ≡ none) ↔ ((l : List RunStep) → Certifies c i m s l → ⊥)
  first_none = (λ e. told_none (subst (Tells (Certifies c i m s)) e first_told), λ h. tells_one first_told (no_run h))
    where
      told_none : Tells (Certifies c i m s) none → (l : List RunStep) → Certifies c i m s l → ⊥
      told_none (no_run h) = h

  -- SHOWN: a run is given exactly where the thread is certified
  pub shown : T (certified c i m s) ↔ ((l : List RunStep) × (first_run c i m s ≡ some l))
  unfolding certified
  shown = (at (first_run c i m s) refl, λ q. subst (λ (o : Steps). T (found o)) (sym q.1) tt)
    where
      at : (o : Steps) → first_run c i m s ≡ o → T (found o) → (l : List RunStep) × (first_run c i m s ≡ some l)
      at none e h = absurd h
      at (some l) e h = (l, e)

module _ {c : Code} {i : ℕ} {m : Memory} {s : Thread} {l : List RunStep} (d : First c i m s l) where
  -- there is one first run
  pub first_one : {k : List RunStep} → First c i m s k → l ≡ k
  first_one {k} e = some-injective l k (tells_one (a_run d.certifies d.least) (a_run e.certifies e.least))

  -- no run before it certifies
  pub none_before : (k : List RunStep) → Certifies c i m s k → Before k l → ⊥
  none_before k r b = ⊎_elim (λ e. let z = subst (λ (j : List RunStep). Before j l) e b in before_one z z) (λ a. before_one a b) (d.least k r)
