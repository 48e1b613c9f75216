-- The rules, case by case: each answer from the tests that lead to it.
-- Assumes nothing.
use mathlib.Core.Path.{◌≡◌, refl, sym, ap, ◌∙◌, subst}
use mathlib.Core.Bool.{Bool, true, false, not}
use mathlib.Core.Option.{some}
use Prim.Native.Nat.{ℕ, max, ◌+◌, ◌^◌, ◌≤◌, ◌<◌}
use native.Mathlib.Omega.{arith}
use lib.Dec.{T}
use lib.ListN.{length}
use borrow.Author.Tests.{le-leb, eq-eqb, not-true, not-false, eqb-false}
use Rattle.std.specs.Prelude.{Result, Ok, Err}
use Rattle.theory_views.specs.Views.{view_at}
use Rattle.program.specs.Program.{instr_at}
use Rattle.program.proofs.Tests.{and_left, is_true}
use Rattle.program.proofs.Counts.{there}
use Rattle.program.specs.Inner.{CodeOk}
use Rattle.program.specs.declared.Refusal.{Refusal}
use Rattle.program.specs.declared.Refusal.TheVariants.{NoMessage, NewerMessage, ViewNotBelow}
use Rattle.machine.specs.Below.{Code, Operand, Constant, OfRegister, LoadMode, StoreMode, Instr, Compute, Load, Store, Branch, Fence}
use Rattle.machine.specs.State.{Message, Memory, Thread, append, has, with, with_promises}
use Rattle.machine.specs.Rules.{Executed, refused, next, value_of, view_of, address, load_pre, readable, none_newer, read_view, load_done, load_at, promised, store_done, store_at, execute, add_promise, store_message}
use Rattle.machine.specs.Inner.{ruled, reach, below_time, stored, own_at, own_store}
use Rattle.machine.proofs.Sets.{has_with, with_without}
use Rattle.machine.proofs.Memories.{message_new}

-- an instruction of a well-formed code leaves the position within the code
pub reach_within : (c : Code) → CodeOk c → (n : ℕ) (x : Instr) → instr_at c n ≡ some x → n + reach x ≤ c.count
reach_within c o n (Compute k r a b) e = let l = (there c n (Compute k r a b) e).0 in omega arith
reach_within c o n (Load k r a b) e = let l = (there c n (Load k r a b) e).0 in omega arith
reach_within c o n (Store k a d) e = let l = (there c n (Store k a d) e).0 in omega arith
reach_within c o n (Branch j a b) e = let l = o.lands n j a b e in omega arith
reach_within c o n (Fence k) e = let l = (there c n (Fence k) e).0 in omega arith

-- ---- an answer read backwards
pub ruled_done : (o : Executed) (u : Result Thread Refusal) → u ≡ ruled o → {s : Thread} → u ≡ Ok s → o ≡ next s
ruled_done (refused r) u e h = absurd (eqb-false 0 1 refl cc)
ruled_done (next s') u e {s} h = let z : s' ≡ s = cc in ap next z

pub ruled_refused : (o : Executed) (u : Result Thread Refusal) → u ≡ ruled o → {r : Refusal} → u ≡ Err r → o ≡ refused r
ruled_refused (refused k) u e {r} h = let z : k ≡ r = cc in ap refused z
ruled_refused (next s) u e h = absurd (eqb-false 0 1 refl cc)

-- ---- what a negated test says of the value that was tested
pub was_false : {a b : Bool} → a ≡ b → not a ≡ true → b ≡ false
was_false {a} e h = sym e ∙ not-true a h

pub was_true : {a b : Bool} → a ≡ b → not a ≡ false → b ≡ true
was_true {a} e h = sym e ∙ not-false a h

-- ---- loads
module _ (k : LoadMode) (r : ℕ) (m : Memory) (t l va : ℕ) (s : Thread) where
  pub load_26 : readable m l t ≡ false → load_at k r m t l va s ≡ refused NoMessage
  unfolding load_at
  load_26 e = rw e

  pub load_27 : readable m l t ≡ true → none_newer m l t (max (load_pre k va s.views) (view_at s.coherence l)) ≡ false → load_at k r m t l va s ≡ refused NewerMessage
  unfolding load_at
  load_27 e f = rw (e, f)

  pub load_next : readable m l t ≡ true → none_newer m l t (max (load_pre k va s.views) (view_at s.coherence l)) ≡ true
      → load_at k r m t l va s ≡ next (load_done k r m t l va (max (load_pre k va s.views) (read_view s l t)) s)
  unfolding load_at
  load_next e f = rw (e, f)

-- ---- stores
-- a promise is in the set
pub promised_in : (m : Memory) (t l v : ℕ) (s : Thread) → promised m t l v s ≡ true → T (has s.promises t)
unfolding promised
promised_in m t l v s e =
    let x : T (promised m t l v s) = subst T (sym e) tt in
    search (and_left)

module _ (k : StoreMode) (m : Memory) (t l v va vd : ℕ) (s : Thread) where
  pub store_26 : promised m t l v s ≡ false → store_at k m t l v va vd s ≡ refused NoMessage
  unfolding store_at
  store_26 e = rw e

  pub store_28 : promised m t l v s ≡ true → below_time k t l va vd s ≡ false → store_at k m t l v va vd s ≡ refused ViewNotBelow
  unfolding store_at below_time
  store_28 e f = rw (e, f)

  pub store_next : promised m t l v s ≡ true → below_time k t l va vd s ≡ true → store_at k m t l v va vd s ≡ next (store_done k t l va vd s)
  unfolding store_at below_time
  store_next e f = rw (e, f)

-- ---- a store that appends its own message
module _ (k : StoreMode) (t l va vd : ℕ) (s : Thread) where
  pub own_28 : below_time k t l va vd s ≡ false → own_at k t l va vd s ≡ refused ViewNotBelow
  unfolding own_at
  own_28 e = rw e

  pub own_next : below_time k t l va vd s ≡ true → own_at k t l va vd s ≡ next (stored k t l va vd s)
  unfolding own_at
  own_next e = rw e

-- a thread reads its operands alike, whatever its promises
value_same : (p : ℕ) (s : Thread) (a : Operand) → value_of (with_promises p s) a ≡ value_of s a
value_same p s (Constant n) = refl
value_same p s (OfRegister r) = refl

view_same : (p : ℕ) (s : Thread) (a : Operand) → view_of (with_promises p s) a ≡ view_of s a
view_same p s (Constant n) = refl
view_same p s (OfRegister r) = refl

-- the newest message of a memory is a promise once it is put among them
own_promised : (m : Memory) (w : Message) (s : Thread) → m.count < length m.messages → s.promises < 2 ^ m.count
    → promised (append m w) (m.count + 1) w.location w.value (add_promise (append m w) s) ≡ true
unfolding promised
own_promised m w s room few =
    rw (is_true (has (with s.promises (m.count + 1)) (m.count + 1)) (has_with s.promises m.count few), le-leb (m.count + 1) (m.count + 1) (omega arith), message_new m w room, eq-eqb w.location w.location refl, eq-eqb w.value w.value refl)

own_test_lem : (k : StoreMode) (m : Memory) (w : Message) (va vd : ℕ) (s : Thread) → m.count < length m.messages → s.promises < 2 ^ m.count
    → store_at k (append m w) (m.count + 1) w.location w.value va vd (add_promise (append m w) s) ≡ own_at k (m.count + 1) w.location va vd s
unfolding store_at own_at below_time
own_test_lem k m w va vd s room few = rw (own_promised m w s room few, with_without s.promises (m.count + 1))

-- A STORE OF A CERTIFYING RUN: the promise is put in and taken out again, and 26 is passed
pub own_store_lem : (k : StoreMode) (a d : Operand) (m : Memory) (i : ℕ) (s : Thread) → m.count < length m.messages → s.promises < 2 ^ m.count
    → own_store k a d m i s ≡ own_at k (m.count + 1) (address (value_of s a)) (view_of s a) (view_of s d) s
unfolding own_store execute
own_store_lem k a d m i s room few =
    let p = with s.promises (m.count + 1) in
    rw (value_same p s a, value_same p s d, view_same p s a, view_same p s d) (own_test_lem k m (store_message i a d s) (view_of s a) (view_of s d) s room few)
