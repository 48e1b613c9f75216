-- Promises and stores along a certifying run: no more promises are outstanding than stores are left.
-- Assumes nothing.
use mathlib.Core.Path.{◌≡◌, refl, ap}
use mathlib.Core.Option.{none, some}
use Prim.Native.Nat.{ℕ, suc, ◌+◌, ◌≤◌}
use native.Mathlib.Omega.{arith}
use lib.Count.{ones}
use lib.Dec.{T}
use borrow.Author.Tests.{eqb-false}
use Rattle.program.specs.Counts.{stores_from}
use Rattle.program.proofs.Counts.{stores_past, stores_fall}
use Rattle.program.specs.Inner.{stores_of}
use Rattle.machine.specs.State.{append}
use Rattle.machine.specs.Rules.{value_of, view_of, store_done, add_promise}
use Rattle.machine.proofs.Sets.{with_without, ones_none, ones_without}
use Rattle.machine.proofs.Effects.{store_location, Effect, computed, loaded, stored, branched, fenced, effect, moves}
use Rattle.certify_runs.specs.Below.{Code, Operand, Constant, OfRegister, StoreMode, Instr, Store, Message, Memory, Thread}
use Rattle.certify_runs.specs.Certify.{message_of, certified}
use Rattle.certify_runs.specs.Inner.{outstanding}
use Rattle.certify_runs.specs.Runs.{Comes, Run, done, by, own}
use Rattle.certify_runs.proofs.Iff.{certified_iff}

-- an instruction takes one promise out if it is a store, else none
pub takes : {m : Memory} {t : ℕ} {s : Thread} {x : Instr} {s' : Thread} → Effect m t s x s' → outstanding s ≡ stores_of x + outstanding s'
takes (computed e) = omega arith
takes (loaded r n) = omega arith
takes {m} {t} {s} (stored p a b) = let h = ones_without s.promises t p.out in omega arith
takes (branched e) = omega arith
takes (fenced e) = omega arith

-- ---- a store with its own message
-- a promise changes no register
pub value_promised : (m : Memory) (s : Thread) (a : Operand) → value_of (add_promise m s) a ≡ value_of s a
value_promised m s (Constant n) = refl
value_promised m s (OfRegister r) = refl

-- it is a store, w is its message, and what it makes of the thread s
pub data Owned (i : ℕ) (m : Memory) (w : Message) (s : Thread) : Instr → Thread → Type 0 where
  owned : {k : StoreMode} {a d : Operand} → w ≡ record { location = store_location s a; value = value_of s d; thread = i }
      → Owned i m w s (Store k a d) (store_done k (m.count + 1) (store_location (add_promise (append m w) s) a) (view_of (add_promise (append m w) s) a) (view_of (add_promise (append m w) s) d) (add_promise (append m w) s))

pub no_message_lem : {w : Message} → none ≡ some w → ⊥
no_message_lem {w} e = eqb-false 0 1 refl cc

-- an instruction that has a message of its own, read backwards
pub own_effect : (i : ℕ) (m : Memory) (w : Message) (s : Thread) {x : Instr} {s' : Thread} → message_of i s x ≡ some w
    → Effect (append m w) (append m w).count (add_promise (append m w) s) x s' → Owned i m w s x s'
own_effect i m w s g (computed e) = absurd (no_message_lem g)
own_effect i m w s g (loaded r n) = absurd (no_message_lem g)
own_effect i m w s g (stored {k} {a} {d} p q r) = owned {k = k} {a = a} {d = d} (cc)
own_effect i m w s g (branched e) = absurd (no_message_lem g)
own_effect i m w s g (fenced e) = absurd (no_message_lem g)

-- it leaves the promises as they were
pub own_leaves : {i : ℕ} {m : Memory} {w : Message} {s : Thread} {x : Instr} {s' : Thread} → Owned i m w s x s' → s'.promises ≡ s.promises
own_leaves {i} {m} {w} {s} (owned e) = with_without s.promises (m.count + 1)

-- it is one store
pub own_store_lem : {i : ℕ} {m : Memory} {w : Message} {s : Thread} {x : Instr} {s' : Thread} → Owned i m w s x s' → stores_of x ≡ 1
own_store_lem (owned e) = refl

-- ---- along a run
-- where the goal has stores enough left for all promises, so has each state from which it is reached
pub comes_fit : {Goal : Memory → Thread → Type 0} {Room : Memory → Type 0} {c : Code} {i : ℕ} → ((m : Memory) (s : Thread) → Goal m s → outstanding s ≤ stores_from c s.position)
    → {m : Memory} {s : Thread} → Comes Goal Room c i m s → outstanding s ≤ stores_from c s.position
comes_fit f {m} {s} (done g) = f m s g
comes_fit {c = c} f {m} {s} (by x t s' g tl e r) =
    let h = effect x m t s s' e in
    let a = comes_fit f r in
    let b = takes h in
    let d = stores_past c s.position x g in
    let k = stores_fall c (suc s.position) s'.position (moves h) in
    omega arith
comes_fit {c = c} {i} f {m} {s} (own x w s' g gw room e r) =
    let h = effect x (append m w) (append m w).count (add_promise (append m w) s) s' e in
    let k = moves h in
    let a = comes_fit f r in
    let b = ap ones (own_leaves (own_effect i m w s gw h)) in
    let l = stores_fall c s.position s'.position (omega arith) in
    omega arith

-- a run has no more promises to fulfil than stores to come
pub fits : {Room : Memory → Type 0} {c : Code} {i : ℕ} {m : Memory} {s : Thread} → Run Room c i m s → outstanding s ≤ stores_from c s.position
fits r = comes_fit (λ m s e. let z = ones_none in let f = ap ones e in omega arith) r

-- PROMISES FIT: a certified thread has no more promises outstanding than stores at its position and after it
pub promises_fit : (c : Code) (i : ℕ) (m : Memory) (s : Thread) → T (certified c i m s) → outstanding s ≤ stores_from c s.position
promises_fit c i m s h = fits ((certified_iff c i m s).0 h)
