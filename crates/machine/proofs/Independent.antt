-- What a load does not look at: each law rules out a misreading of the rules.
-- Assumes nothing.
use mathlib.Core.Path.{◌≡◌, refl, sym, ap, ◌∙◌}
use mathlib.Core.Bool.{Bool, true, false}
use mathlib.Core.List.{List}
use Prim.Native.Nat.{ℕ, max, ◌+◌}
use lib.ListN.{get_or}
use borrow.Author.Tests.{eqb-false}
use Rattle.program.specs.declared.Refusal.{Refusal}
use Rattle.program.specs.declared.Refusal.TheVariants.{NoMessage, NewerMessage}
use Rattle.theory_views.specs.Views.{view_at}
use Rattle.machine.specs.Below.{Operand, Constant, OfRegister, LoadMode, PlainLoad, Acquire, WeakAcquire, Load}
use Rattle.machine.specs.State.{Memory, Register, Views, Thread, fresh_register, with_views, with_promises}
use Rattle.machine.specs.Rules.{Executed, refused, next, test, value_of, view_of, view_of₂, address, load_pre, readable, none_newer, load_at, execute}

-- views with another CAP
abbrev pub with_cap : ℕ → Views → Views
with_cap v w = record { rOld = w.rOld; wOld = w.wOld; rNew = w.rNew; wNew = w.wNew; cap = v; rel = w.rel }

-- the state with another CAP
abbrev pub capped : ℕ → Thread → Thread
capped v s = with_views (with_cap v s.views) s

-- the state with other coherence views
abbrev pub with_coherence : List ℕ → Thread → Thread
with_coherence c s = record { position = s.position; registers = s.registers; coherence = c; forward = s.forward; views = s.views; promises = s.promises }

-- a change of the state that a rule gives
abbrev pub on_next : (Thread → Thread) → Executed → Executed
on_next f (refused r) = refused r
on_next f (next s) = next (f s)

on_test : (f : Thread → Thread) (b : Bool) (r : Refusal) (o : Executed) → on_next f (test b r o) ≡ test b r (on_next f o)
on_test f true r o = refl
on_test f false r o = refl

-- what passes two tests
passed : (b c : Bool) (n k : Refusal) (z x : Thread) → test b n (test c k (next z)) ≡ next x → z ≡ x
passed true true n k z x e = cc
passed true false n k z x e = absurd (eqb-false 0 1 refl cc)
passed false c n k z x e = absurd (eqb-false 0 1 refl cc)

-- an operand is read from the registers alone
operand_same : (s u : Thread) → s.registers ≡ u.registers → (a : Operand) → (value_of s a ≡ value_of u a) × (view_of s a ≡ view_of u a)
operand_same s u e (Constant n) = (refl, refl)
operand_same s u e (OfRegister r) = (ap (λ (w : List Register). (get_or w r fresh_register).value) e, ap (λ (w : List Register). (get_or w r fresh_register).view) e)

pre_same : (k : LoadMode) (va v : ℕ) (w : Views) → load_pre k va (with_cap v w) ≡ load_pre k va w
pre_same PlainLoad va v w = refl
pre_same Acquire va v w = refl
pre_same WeakAcquire va v w = refl

module _ (k : LoadMode) (r : ℕ) (a b : Operand) (m : Memory) (t : ℕ) (s : Thread) where
  -- the load at the place and the address view that the operands have in s
  at_operands : Thread → Executed
  at_operands = load_at k r m t (address (value_of s a + value_of s b)) (view_of₂ s a b)

  same_operands : (u : Thread) → u.registers ≡ s.registers → execute (Load k r a b) m t u ≡ at_operands u
  unfolding execute at_operands
  same_operands u e =
      let p = operand_same u s e a in
      let q = operand_same u s e b in
      rw (p.0, p.1, q.0, q.1)

  -- a load does not look at CAP
  pub load_ignores_cap : (v : ℕ) → on_next (capped 0) (execute (Load k r a b) m t (capped v s)) ≡ on_next (capped 0) (execute (Load k r a b) m t s)
  unfolding execute load_at at_operands
  load_ignores_cap v = rw (same_operands (capped v s) refl) (simp (on_test, pre_same))

  -- a load does not look at the promises, and leaves them
  pub load_ignores_promises : (p : ℕ) → execute (Load k r a b) m t (with_promises p s) ≡ on_next (with_promises p) (execute (Load k r a b) m t s)
  unfolding execute load_at at_operands
  load_ignores_promises p = rw (same_operands (with_promises p s) refl) (simp on_test)

  -- the coherence views can refuse a load, and it raises one: nothing else that it gives depends on them
  pub load_post_ignores_coherence : (c : List ℕ) (x y : Thread) → execute (Load k r a b) m t s ≡ next x → execute (Load k r a b) m t (with_coherence c s) ≡ next y
      → with_coherence c x ≡ with_coherence c y
  unfolding execute load_at at_operands
  load_post_ignores_coherence c x y p q =
      let l = address (value_of s a + value_of s b) in
      let pre = load_pre k (view_of₂ s a b) s.views in
      let one = passed (readable m l t) (none_newer m l t (max pre (view_at s.coherence l))) NoMessage NewerMessage _ x p in
      let other = passed (readable m l t) (none_newer m l t (max pre (view_at c l))) NoMessage NewerMessage _ y (sym (same_operands (with_coherence c s) refl) ∙ q) in
      sym (ap (with_coherence c) one) ∙ ap (with_coherence c) other
