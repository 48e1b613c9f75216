-- The monotone law: what is certified is certified too with smaller views, and with other contents of registers that are not live.
-- Assumes nothing.
use mathlib.Core.Path.{◌≡◌, refl, sym, ap, ap₂, ◌∙◌, subst}
use mathlib.Core.Logic.{◌⊎◌, inl, inr}
use mathlib.Core.Bool.{Bool, true, false, not, ◌||◌}
use mathlib.Core.Option.{some}
use Prim.Native.Nat.{ℕ, zero, suc, max, ◌+◌, ◌<◌}
use native.Mathlib.Omega.{arith}
use lib.Dec.{T, eqb_refl, eqb, eqb→eq}
use lib.ListN.{get_or, set}
use borrow.Author.Tests.{ne_eqb}
use Rattle.theory_views.specs.Views.{view_at}
use Rattle.theory_views.proofs.Entries.{set_both}
use Rattle.program.specs.Program.{instr_at}
use Rattle.program.proofs.Tests.{or_left, or_right, and_both}
use Rattle.machine.specs.State.{append, fresh_register}
use Rattle.machine.specs.Rules.{value_of, view_of, view_of₂, address, combine, compute_done, branch_by, branch_done, fence_done, store_done, readable, none_newer, load_done, store_pre, add_promise}
use Rattle.machine.proofs.Effects.{load_location, load_pre_view, load_post_view, store_location, Promised, Effect, computed, loaded, stored, branched, fenced, effect}
use Rattle.certify_runs.specs.Below.{Code, Operand, Constant, OfRegister, ComputeMode, LoadMode, StoreMode, FenceMode, Instr, Compute, Load, Store, Branch, Fence, Memory, Register, Thread}
use Rattle.certify_runs.specs.Runs.{Comes, done, by, own}
use Rattle.certify_runs.specs.Certify.{message_of, certified}
use Rattle.certify_runs.proofs.Iff.{certified_iff}
use Rattle.certify_runs.proofs.Executes.{executes}
use Rattle.certify_ahead.specs.Live.{is_register, either_register, locates, weighs, writes, skips, Live, here, later, through}
use Rattle.certify_lost.proofs.Lower.{near_sum}
use Rattle.certify_under.specs.Under.{Under}
use Rattle.certify_under.proofs.Under.{promise_under, compute_under, branch_under, fence_under, read_low, post_low, load_under, load_effect, store_under, store_effect}

-- register k holds the same as far as it matters at position n: the value if it is live as a value, modulo 16 if as a location
pub record Agree (c : Code) (k n : ℕ) (x y : Register) : Type 0 where
  pub same : Live c true k n → x.value ≡ y.value
  pub near : Live c false k n → address x.value ≡ address y.value

-- ALIKE: as s', but for what registers hold that does not matter, and with views that are at most those of s'
pub record Alike (c : Code) (s s' : Thread) : Type 0 where
  pub under : Under s s'
  pub registers_agree : (k : ℕ) → Agree c k s'.position (get_or s.registers k fresh_register) (get_or s'.registers k fresh_register)

-- ---- one instruction on both threads
-- a register agrees with itself
agree_self : (c : Code) (k n : ℕ) (x : Register) → Agree c k n x x
agree_self c k n x = record { same = λ l. refl; near = λ l. refl }

module _ (c : Code) (s s' : Thread) (h : Alike c s s') where
  -- an operand's value if it is live, as a value or as a location
  operand_same : (a : Operand) → ((k : ℕ) → T (is_register k a) → Live c true k s'.position) → value_of s a ≡ value_of s' a
  unfolding is_register
  operand_same (Constant n) l = refl
  operand_same (OfRegister r) l = (h.registers_agree r).same (l r (eqb_refl r))

  operand_near : (a : Operand) → ((k : ℕ) → T (is_register k a) → Live c false k s'.position) → address (value_of s a) ≡ address (value_of s' a)
  unfolding is_register
  operand_near (Constant n) l = refl
  operand_near (OfRegister r) l = (h.registers_agree r).near (l r (eqb_refl r))

module _ (c : Code) (s s' : Thread) (h : Alike c s s') (x : Instr) (g : instr_at c s'.position ≡ some x) where
  -- a register that is not written, at a position that may come next
  kept_register : (n : ℕ) → (n ≡ s'.position + 1) ⊎ (n ≡ s'.position + (skips x + 1)) → (k : ℕ) → (T (writes k x) → ⊥)
      → Agree c k n (get_or s.registers k fresh_register) (get_or s'.registers k fresh_register)
  kept_register n f k w =
      let q = h.registers_agree k in
      record { same = λ l. q.same (later x n g w f l); near = λ l. q.near (later x n g w f l) }

  -- the registers, where r is written
  set_registers : (r : ℕ) → ((k : ℕ) → T (writes k x) → k ≡ r) → (y y' : Register) → Agree c r (s'.position + 1) y y' → (k : ℕ)
      → Agree c k (s'.position + 1) (get_or (set s.registers r y) k fresh_register) (get_or (set s'.registers r y') k fresh_register)
  set_registers r only y y' e =
      set_both (λ (k : ℕ) (a b : Register). Agree c k (s'.position + 1) a b) fresh_register y y' s.registers s'.registers r h.under.registers_long
      (λ k n. kept_register (s'.position + 1) (inl refl) k (λ t. n (only k t))) (agree_self c r (s'.position + 1) fresh_register) e

-- what the thread s makes of an instruction that s' executed: it executes too, and the threads stay alike
pub record Followed (c : Code) (m : Memory) (t : ℕ) (s : Thread) (x : Instr) (u' : Thread) : Type 0 where
  pub after : Thread
  pub does : Effect m t s x after
  pub alike : Alike c after u'

module _ (c : Code) (s s' : Thread) (h : Alike c s s') (k : LoadMode) (r : ℕ) (a b : Operand) (g : instr_at c s'.position ≡ some (Load k r a b)) (m : Memory) where
  same_location : load_location s a b ≡ load_location s' a b
  unfolding locates either_register
  same_location =
      near_sum _ _ _ _ (operand_near c s s' h a (λ j t. here (Load k r a b) g (or_left (is_register j a) (is_register j b) t)))
      (operand_near c s s' h b (λ j t. here (Load k r a b) g (or_right (is_register j a) (is_register j b) t)))

  load_writes : (j : ℕ) → T (writes j (Load k r a b)) → j ≡ r
  unfolding writes
  load_writes j t = sym (eqb→eq r j t)

  load_follows : (t : ℕ) → T (readable m (load_location s' a b) t) → T (none_newer m (load_location s' a b) t (max (load_pre_view k s' a b) (view_at s'.coherence (load_location s' a b))))
      → Followed c m t s (Load k r a b) (load_done k r m t (load_location s' a b) (view_of₂ s' a b) (load_post_view k s' a b t) s')
  load_follows t d n =
      record {
        after = load_done k r m t (load_location s a b) (view_of₂ s a b) (load_post_view k s a b t) s;
        does = load_effect s s' h.under a b same_location k r m t d n;
        alike = record {
          under = load_under s s' h.under a b same_location k r m t t _ _ (post_low s s' h.under a b same_location k t t (read_low s s' h.under a b same_location t));
          registers_agree = set_registers c s s' h (Load k r a b) g r load_writes _ _ (record { same = λ l. refl; near = λ l. refl });
        };
      }

module _ (c : Code) (s s' : Thread) (h : Alike c s s') (k : StoreMode) (a d : Operand) (g : instr_at c s'.position ≡ some (Store k a d)) where
  same_place : store_location s a ≡ store_location s' a
  unfolding locates
  same_place = operand_near c s s' h a (λ j t. here (Store k a d) g t)

  same_data : value_of s d ≡ value_of s' d
  unfolding weighs
  same_data = operand_same c s s' h d (λ j t. here (Store k a d) g t)

  store_writes : (j : ℕ) → T (writes j (Store k a d)) → ⊥
  unfolding writes
  store_writes j t = t

  store_follows : (m : Memory) (t : ℕ) → Promised m t (store_location s' a) (value_of s' d) s' → store_pre k (view_of s' a) (view_of s' d) s'.views < t → view_at s'.coherence (store_location s' a) < t
      → Followed c m t s (Store k a d) (store_done k t (store_location s' a) (view_of s' a) (view_of s' d) s')
  store_follows m t p low below =
      record {
        after = store_done k t (store_location s a) (view_of s a) (view_of s d) s;
        does = store_effect s s' h.under k a d same_place m t same_data p low below;
        alike = record {
          under = store_under s s' h.under k a d same_place t;
          registers_agree = λ j. kept_register c s s' h (Store k a d) g (s'.position + 1) (inl refl) j (store_writes j);
        };
      }

module _ (c : Code) (s s' : Thread) (h : Alike c s s') where
  -- a compute whose result is live, as a value or as a location, makes its operands live as values
  same_result : (k : ComputeMode) (r : ℕ) (a b : Operand) → instr_at c s'.position ≡ some (Compute k r a b) → {v : Bool} → Live c v r (s'.position + 1)
      → combine k (value_of s a) (value_of s b) ≡ combine k (value_of s' a) (value_of s' b)
  unfolding either_register
  same_result k r a b g l =
      ap₂ (combine k) (operand_same c s s' h a (λ j t. through k r a b g (or_left (is_register j a) (is_register j b) t) l))
      (operand_same c s s' h b (λ j t. through k r a b g (or_right (is_register j a) (is_register j b) t) l))

  compute_follows : (k : ComputeMode) (r : ℕ) (a b : Operand) (m : Memory) (t : ℕ) → instr_at c s'.position ≡ some (Compute k r a b) → t ≡ 0
      → Followed c m t s (Compute k r a b) (compute_done k r a b s')
  unfolding writes
  compute_follows k r a b m t g e =
      record {
        after = compute_done k r a b s;
        does = computed e;
        alike = record {
          under = compute_under s s' h.under k r a b;
          registers_agree = set_registers c s s' h (Compute k r a b) g r (λ j u. sym (eqb→eq r j u)) _ _ (record { same = same_result k r a b g; near = λ l. ap address (same_result k r a b g l) });
        };
      }

  branch_next : (o : Bool) (n : ℕ) (a b : Operand) → (s'.position + branch_by o n ≡ s'.position + 1) ⊎ (s'.position + branch_by o n ≡ s'.position + (skips (Branch n a b) + 1))
  unfolding skips
  branch_next true n a b = inr refl
  branch_next false n a b = inl refl

  -- a branch that skips something weighs its operands; one that skips nothing goes on at one place
  same_way : (n : ℕ) (a b : Operand) → instr_at c s'.position ≡ some (Branch n a b) → branch_by (eqb (value_of s a) (value_of s b)) n ≡ branch_by (eqb (value_of s' a) (value_of s' b)) n
  unfolding weighs either_register
  same_way zero a b g = one (eqb (value_of s a) (value_of s b)) (eqb (value_of s' a) (value_of s' b))
    where
      one : (o o' : Bool) → branch_by o 0 ≡ branch_by o' 0
      one true true = refl
      one true false = refl
      one false true = refl
      one false false = refl
  same_way (suc n) a b g =
      let x = Branch (suc n) a b in
      let some-skipped : T (not (eqb (suc n) 0)) = subst (λ (o : Bool). T (not o)) (sym (ne_eqb (suc n) 0 (λ z. omega arith))) tt in
      ap₂ (λ (v w : ℕ). branch_by (eqb v w) (suc n))
      (operand_same c s s' h a (λ j u. here x g (and_both (not (eqb (suc n) 0)) (is_register j a || is_register j b) some-skipped (or_left (is_register j a) (is_register j b) u))))
      (operand_same c s s' h b (λ j u. here x g (and_both (not (eqb (suc n) 0)) (is_register j a || is_register j b) some-skipped (or_right (is_register j a) (is_register j b) u))))

  branch_follows : (n : ℕ) (a b : Operand) (m : Memory) (t : ℕ) → instr_at c s'.position ≡ some (Branch n a b) → t ≡ 0 → Followed c m t s (Branch n a b) (branch_done n a b s')
  unfolding writes
  branch_follows n a b m t g e =
      record {
        after = branch_done n a b s;
        does = branched e;
        alike = record {
          under = branch_under s s' h.under n a b (same_way n a b g);
          registers_agree = λ j. kept_register c s s' h (Branch n a b) g _ (branch_next (eqb (value_of s' a) (value_of s' b)) n a b) j (λ u. u);
        };
      }

  fence_follows : (k : FenceMode) (m : Memory) (t : ℕ) → instr_at c s'.position ≡ some (Fence k) → t ≡ 0 → Followed c m t s (Fence k) (fence_done k s')
  unfolding writes
  fence_follows k m t g e =
      record {
        after = fence_done k s;
        does = fenced e;
        alike = record {
          under = fence_under s s' h.under k;
          registers_agree = λ j. kept_register c s s' h (Fence k) g (s'.position + 1) (inl refl) j (λ u. u);
        };
      }

  pub follows : {m : Memory} {t : ℕ} {x : Instr} {u' : Thread} → instr_at c s'.position ≡ some x → Effect m t s' x u' → Followed c m t s x u'
  follows {m} {t} g (computed {k} {r} {a} {b} e) = compute_follows k r a b m t g e
  follows {m} {t} g (loaded {k} {r} {a} {b} d n) = load_follows c s s' h k r a b g m t d n
  follows {m} {t} g (stored {k} {a} {d} p x y) = store_follows c s s' h k a d g m t p x y
  follows {m} {t} g (branched {n} {a} {b} e) = branch_follows n a b m t g e
  follows {m} {t} g (fenced {k} e) = fence_follows k m t g e

-- ---- certification
with_promise : {c : Code} {s s' : Thread} (m : Memory) → Alike c s s' → Alike c (add_promise m s) (add_promise m s')
with_promise m h = record { under = promise_under m h.under; registers_agree = h.registers_agree }

-- the message of a store is the same
pub same_message : (c : Code) (i : ℕ) (s s' : Thread) → Alike c s s' → (x : Instr) → instr_at c s'.position ≡ some x → message_of i s x ≡ message_of i s' x
same_message c i s s' h (Compute k r a b) g = refl
same_message c i s s' h (Load k r a b) g = refl
same_message c i s s' h (Store k a d) g = ap₂ (λ (l v : ℕ). some (record { location = l; value = v; thread = i })) (same_place c s s' h k a d g) (same_data c s s' h k a d g)
same_message c i s s' h (Branch n a b) g = refl
same_message c i s s' h (Fence k) g = refl

-- THE MONOTONE LAW: what a thread alone can come to, one alike can come to, if the goal passes with what is alike
pub comes_alike : {Goal : Memory → Thread → Type 0} {Room : Memory → Type 0} {c : Code} {i : ℕ} → ((m : Memory) (s s' : Thread) → Alike c s s' → Goal m s' → Goal m s)
    → {m : Memory} {s s' : Thread} → Alike c s s' → Comes Goal Room c i m s' → Comes Goal Room c i m s
comes_alike pass {m} {s} {s'} h (done e) = done (pass m s s' h e)
comes_alike {c = c} pass {m} {s} {s'} h (by x t u g tl e r) =
    let w = follows c s s' h g (effect x m t s' u e) in
    by x t w.after (ap (instr_at c) h.under.same_position ∙ g) tl (executes w.does) (comes_alike pass w.alike r)
comes_alike {c = c} {i} pass {m} {s} {s'} h (own x w u g gw room e r) =
    let m' = append m w in
    let f = follows c (add_promise m' s) (add_promise m' s') (with_promise m' h) g (effect x m' m'.count (add_promise m' s') u e) in
    own x w f.after (ap (instr_at c) h.under.same_position ∙ g) (same_message c i s s' h x g ∙ gw) room (executes f.does) (comes_alike pass f.alike r)

-- so it is for certification
pub monotone : (c : Code) (i : ℕ) (m : Memory) (s s' : Thread) → Alike c s s' → T (certified c i m s') → T (certified c i m s)
monotone c i m s s' h t =
    (certified_iff c i m s).1 (comes_alike (λ m u u' a e. a.under.same_promises ∙ e) h ((certified_iff c i m s').0 t))
