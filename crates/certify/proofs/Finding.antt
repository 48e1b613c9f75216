-- What is found, and what a failure rests on: cares that ask more, and threads in which an instruction can do no more than in the one that failed.
-- Assumes nothing.
use mathlib.Core.Path.{◌≡◌, refl, sym, subst, ◌∙◌}
use mathlib.Core.Logic.{◌⊎◌, inl, inr, ⊎_elim}
use mathlib.Core.Bool.{Bool, true}
use mathlib.Core.List.{List}
use mathlib.Core.Option.{none, some}
use Prim.Native.Nat.{ℕ}
use borrow.Author.Tests.{eqb-false}
use Rattle.program.specs.declared.Refusal.{Refusal}
use Rattle.machine.specs.Rules.{refused, next, value_of, address, execute}
use Rattle.machine.proofs.Effects.{load_location}
use Rattle.certify_runs.specs.Below.{Code, Operand, StoreMode, Instr, Compute, Load, Store, Branch, Fence, Memory, Thread}
use Rattle.certify_runs.specs.Runs.{Comes, done, by, own}
use Rattle.certify_cares.specs.Cares.{Covers}
use Rattle.certify_cares.specs.declared.Cares.{Cares}
use Rattle.certify_under.specs.Under.{Under, Rests}
use Rattle.certify_under.specs.Vacant.{Vacant}
use Rattle.certify_under.proofs.Resting.{load_too_rests, vacant_does, vacant_zero, store_too, store_at_lem}
use Rattle.certify_straight.specs.Straight.{plainly}
use Rattle.certify_sought.specs.declared.Met.{Met}
use Rattle.certify_sought.specs.declared.Sought.{Sought}
use Rattle.certify_sought.specs.Numbers.{Unmet, Better, same}
use Rattle.certify_sought.specs.Asks.{Elsewhere, StoresSame, LoadsSame, Asks, Likewise}
use Rattle.certify_tried.specs.declared.Reached.{Reached}
use Rattle.certify.specs.Search.{Found}

-- ---- cares that ask more
pub covers_self : (k : List ℕ) → Covers k k
covers_self k = record { agreeing = λ s s' a. a }

pub covers_on : {k l n : List ℕ} → Covers k l → Covers l n → Covers k n
covers_on f g = record { agreeing = λ s s' a. g.agreeing s s' (f.agreeing s s' a) }

pub rests_less : {k l : List ℕ} {s s' : Thread} → Covers k l → Rests k s s' → Rests l s s'
rests_less {s = s} {s'} f h = record { under = h.under; agreeing = f.agreeing s s' h.agreeing }

-- ---- nothing is sought any more
pub found_over : (from : ℕ) (p : Met) (P : Thread → ℕ → Type 0) (s : Thread) (r : Reached) → Better from (P s) p r.met → ((n : ℕ) → Unmet from r.met n → ⊥) → Found from p P s r
found_over from p P s r better over = record { better = better; barren = λ s' rests k u w. over k u }

-- ---- nothing is found
pub found_none : (from : ℕ) (p : Met) (P : Thread → ℕ → Type 0) (s : Thread) (k : Cares) → ((s' : Thread) → Rests k.of s s' → (j : ℕ) → Unmet from p j → P s' j → ⊥)
    → Found from p P s (record { met = p; cares = k })
found_none from p P s k fails = record { better = same; barren = fails }

-- ---- an instruction that another thread executes
pub other : {n : Refusal} {s : Thread} → refused n ≡ next s → ⊥
other {n} {s} e = eqb-false 0 1 refl cc

pub no_thread_left : {s : Thread} → some s ≡ none → ⊥
no_thread_left {s} e = eqb-false 0 1 refl cc

-- a thread in which is so what the tries of a store rest on stores the same, if it executes
pub stores_same : {m : Memory} {s s' : Thread} {q : Sought} (how : StoreMode) (a d : Operand) → Under s s' → StoresSame m s a d s' ⊎ Elsewhere m s.promises q (address (value_of s' a)) → (t : ℕ) (y' : Thread) → execute (Store how a d) m t s' ≡ next y' → StoresSame m s a d s'
stores_same {m} {s} {s'} how a d under either t y' e =
    ⊎_elim (λ here. here) (λ there. let at = store_at_lem m how a d s s' under t y' e in absurd (there.unpromised t at.0 at.1 at.2)) either

-- and does likewise
pub asked_likewise : (x : Instr) (m : Memory) (s s' : Thread) (q : Sought) (apart : Bool) (k : List ℕ) → Asks x m s q apart k → Rests k s s' → (t : ℕ) (y' : Thread) → execute x m t s' ≡ next y' → Likewise apart x m s s'
asked_likewise x m s s' q apart k asked rests t y' e =
    record {
      load = λ how r a b is. asked.load how r a b is s' rests.agreeing;
      store = λ how a d is. stores_same {q = q} how a d rests.under ((asked.store how a d is).store s' rests.agreeing) t y' (subst (λ (o : Instr). execute o m t s' ≡ next y') is e);
    }

-- a thread does as itself
pub likewise_self : (apart : Bool) (x : Instr) (m : Memory) (s : Thread) → Likewise apart x m s s
likewise_self apart x m s = record { load = λ how r a b is. inl refl; store = λ how a d is. record { place = refl; data_kept = λ t out in_memory at value. refl } }

-- fewer threads do likewise where tries are not apart
pub likewise_less : {apart apart' : Bool} {x : Instr} {m : Memory} {s s' : Thread} → (apart ≡ true → apart' ≡ true) → Likewise apart x m s s' → Likewise apart' x m s s'
likewise_less narrower like = record { load = λ how r a b is. ⊎_elim inl (λ z. inr (narrower z.0, z.1, z.2)) (like.load how r a b is); store = like.store }

-- a load from one of two such locations, of which the one has no message, is from one without
pub loads_vacant : (apart : Bool) (m : Memory) (s s' : Thread) (a b : Operand) → LoadsSame apart m s s' a b → Vacant m (load_location s a b) → Vacant m (load_location s' a b)
loads_vacant apart m s s' a b either vacant = ⊎_elim (λ e. subst (Vacant m) e vacant) (λ z. z.2) either

-- what a thread does that does likewise, the one that failed can do
pub does_too : {apart : Bool} (x : Instr) (m : Memory) (s s' : Thread) → plainly x s ≡ none → Under s s' → Likewise apart x m s s' → (t : ℕ) (y' : Thread) → execute x m t s' ≡ next y' → (y : Thread) × (execute x m t s ≡ next y)
unfolding plainly
does_too (Compute how r a b) m s s' halting under like t y' e = absurd (no_thread_left halting)
does_too (Load how r a b) m s s' halting under like t y' e =
    ⊎_elim (λ same_location. load_too_rests m how r a b s s' under same_location t y' e)
    (λ z. let now = vacant_zero m how r a b s' z.2 t y' e in subst (λ (u : ℕ). (y : Thread) × (execute (Load how r a b) m u s ≡ next y)) (sym now) (vacant_does m how r a b s z.1))
    (like.load how r a b refl)
does_too (Store how a d) m s s' halting under like t y' e =
    let here = like.store how a d refl in
    let at = store_at_lem m how a d s s' under t y' e in
    store_too m how a d s s' under here.place t y' (here.data_kept t at.0 at.1 (at.2 ∙ sym here.place) at.3) e
does_too (Branch n a b) m s s' halting under like t y' e = absurd (no_thread_left halting)
does_too (Fence how) m s s' halting under like t y' e = absurd (no_thread_left halting)

-- ---- runs to another goal
pub comes_as : {Goal Goal' : Memory → Thread → Type 0} {Room : Memory → Type 0} {c : Code} {i : ℕ} → ((m : Memory) (s : Thread) → Goal m s → Goal' m s) → {m : Memory} {s : Thread} → Comes Goal Room c i m s → Comes Goal' Room c i m s
comes_as f {m} {s} (done g) = done (f m s g)
comes_as f (by x t s' g tl e r) = by x t s' g tl e (comes_as f r)
comes_as f (own x w s' g gw room e r) = own x w s' g gw room e (comes_as f r)
