-- What a failure rests on, through one instruction: where it is so before, and of what is written, it is so after.
-- Assumes nothing.
use mathlib.Core.Path.{◌≡◌, refl, sym, subst}
use mathlib.Core.List.{List}
use Prim.Native.Nat.{ℕ, suc, ◌+◌, ◌≤◌}
use native.Mathlib.Nat.{le_trans}
use native.Mathlib.Decide.{ℕ_discrete}
use native.Mathlib.Omega.{arith}
use lib.Dec.{T, eqb, eqb→eq, not_T}
use lib.ListN.{get_or, set}
use Rattle.theory_views.proofs.Entries.{set_both}
use Rattle.program.proofs.Tests.{and_left, below_all}
use Rattle.machine.specs.State.{message_at, has, fresh_register}
use Rattle.machine.specs.Rules.{next, value_of, address, combine, compute_done, branch_by, branch_done, fence_done, readable, newer, none_newer, read_value, read_view, execute, add_promise}
use Rattle.machine.proofs.Effects.{load_location, Effect, loaded, stored, effect, readable_time, read_there}
use Rattle.certify_runs.specs.Below.{Operand, ComputeMode, LoadMode, StoreMode, FenceMode, Load, Store, Memory, Register, Thread}
use Rattle.certify_runs.proofs.Executes.{executes}
use Rattle.certify_cares.specs.Cares.{Agrees, same, care_of, Agreeing, AgreeingBut}
use Rattle.certify_under.specs.Threads.{at_position, cohering}
use Rattle.certify_under.specs.Under.{Under, Rests}
use Rattle.certify_under.specs.Vacant.{Vacant}
use Rattle.certify_under.proofs.Under.{under_self, promise_under, compute_under, branched_under, branch_under, fence_under, read_low, post_low, post_unseen, load_under, load_idle_under, load_effect, store_under, store_effect}

-- a thread has what it rests on
pub rests_self : (K : List ℕ) (s : Thread) → Rests K s s
rests_self K s = record { under = under_self s; agreeing = λ j. same refl }

-- a promise more for both
pub promise_rests : {K : List ℕ} {s s' : Thread} (m : Memory) → Rests K s s' → Rests K (add_promise m s) (add_promise m s')
promise_rests m h = record { under = promise_under m h.under; agreeing = h.agreeing }

-- the registers, where r is written
pub set_agreeing : (K : List ℕ) (r : ℕ) (s s' : Thread) (x x' : Register) → Under s s' → AgreeingBut K r s s' → Agrees (care_of K r) x.value x'.value → (j : ℕ)
    → Agrees (care_of K j) (get_or (set s.registers r x) j fresh_register).value (get_or (set s'.registers r x') j fresh_register).value
set_agreeing K r s s' x x' h others written =
    set_both (λ (j : ℕ) (y y' : Register). Agrees (care_of K j) y.value y'.value) fresh_register x x' s.registers s'.registers r h.registers_long others (same refl) written

-- ---- compute, branch, fence
pub compute_rests : (how : ComputeMode) (r : ℕ) (a b : Operand) (s s' : Thread) (K : List ℕ) → Under s s' → AgreeingBut K r s s'
    → Agrees (care_of K r) (combine how (value_of s a) (value_of s b)) (combine how (value_of s' a) (value_of s' b)) → Rests K (compute_done how r a b s) (compute_done how r a b s')
compute_rests how r a b s s' K h others written = record { under = compute_under s s' h how r a b; agreeing = set_agreeing K r s s' _ _ h others written }

pub branch_rests : (n : ℕ) (a b : Operand) (s s' : Thread) (K : List ℕ) → Rests K s s' → branch_by (eqb (value_of s a) (value_of s b)) n ≡ branch_by (eqb (value_of s' a) (value_of s' b)) n
    → Rests K (branch_done n a b s) (branch_done n a b s')
branch_rests n a b s s' K h way = record { under = branch_under s s' h.under n a b way; agreeing = h.agreeing }

-- s goes the other way, to where s' goes
pub other_rests : (n : ℕ) (a b : Operand) (s s' : Thread) (K : List ℕ) → Rests K s s' → (p : ℕ) → p ≡ s'.position + branch_by (eqb (value_of s' a) (value_of s' b)) n → Rests K (at_position (branch_done n a b s) p) (branch_done n a b s')
other_rests n a b s s' K h p at = record { under = branched_under s s' h.under n a b p _ at; agreeing = h.agreeing }

pub fence_rests : (k : FenceMode) (s s' : Thread) (K : List ℕ) → Rests K s s' → Rests K (fence_done k s) (fence_done k s')
fence_rests k s s' K h = record { under = fence_under s s' h.under k; agreeing = h.agreeing }

-- ---- a load of the same location
module _ (m : Memory) (k : LoadMode) (r : ℕ) (a b : Operand) (s s' : Thread) (h : Under s s') (same_location : load_location s a b ≡ load_location s' a b) where
  -- what s' reads s can read
  pub load_too_rests : (t : ℕ) (y' : Thread) → execute (Load k r a b) m t s' ≡ next y' → (y : Thread) × (execute (Load k r a b) m t s ≡ next y)
  load_too_rests t y' e = go y' (effect (Load k r a b) m t s' y' e)
    where
      go : (y' : Thread) → Effect m t s' (Load k r a b) y' → (y : Thread) × (execute (Load k r a b) m t s ≡ next y)
      go y' (loaded d n) = (_, executes (load_effect s s' h a b same_location k r m t d n))

  -- s read at time u and s' at time t, with a view no smaller and a value that agrees
  pub load_rests : (K : List ℕ) → AgreeingBut K r s s' → (u t : ℕ) → Agrees (care_of K r) (read_value m u) (read_value m t) → read_view s (load_location s a b) u ≤ read_view s (load_location s a b) t
      → (y y' : Thread) → execute (Load k r a b) m u s ≡ next y → execute (Load k r a b) m t s' ≡ next y' → Rests K y y'
  load_rests K others u t written low y y' e e' = go y y' (effect (Load k r a b) m u s y e) (effect (Load k r a b) m t s' y' e')
    where
      go : (y y' : Thread) → Effect m u s (Load k r a b) y → Effect m t s' (Load k r a b) y' → Rests K y y'
      go y y' (loaded d n) (loaded d' n') =
          record {
            under = load_under s s' h a b same_location k r m u t _ _ (post_low s s' h a b same_location k u t (le_trans low (read_low s s' h a b same_location t)));
            agreeing = set_agreeing K r s s' _ _ h others written;
          }

-- ---- loads of locations without a message
-- none is newer than another
pub none_newer_lem : (m : Memory) (l t v : ℕ) → Vacant m l → T (none_newer m l t v)
unfolding none_newer
none_newer_lem m l t v vacant =
    below_all _ m.count (λ k kl. not_T (newer m l t v (suc k)) (λ n. let at : T (eqb (message_at m (suc k)).location l) = search and_left in vacant (suc k) (omega arith) kl (eqb→eq _ l at)))

module _ (m : Memory) (k : LoadMode) (r : ℕ) (a b : Operand) where
  -- they execute at time 0
  pub vacant_does : (s : Thread) → Vacant m (load_location s a b) → (y : Thread) × (execute (Load k r a b) m 0 s ≡ next y)
  unfolding readable
  vacant_does s vacant = (_, executes (loaded tt (none_newer_lem m (load_location s a b) 0 _ vacant)))

  -- and at no other
  pub vacant_zero : (s : Thread) → Vacant m (load_location s a b) → (t : ℕ) (y : Thread) → execute (Load k r a b) m t s ≡ next y → t ≡ 0
  vacant_zero s vacant t y e = go y (effect (Load k r a b) m t s y e)
    where
      go : (y : Thread) → Effect m t s (Load k r a b) y → t ≡ 0
      go y (loaded d n) = elim (ℕ_discrete t 0) [
        | yes z ↦ z
        | no z ↦ absurd (vacant t (omega arith) (readable_time m (load_location s a b) t d) (read_there m (load_location s a b) t (omega arith) d))
      ]

  -- s reads at time 0 with no view but its pre-view: with the coherence views of before, it is under what any other leaves at time 0
  pub idle_rests : (s s' : Thread) → Under s s' → (K : List ℕ) → AgreeingBut K r s s' → read_view s (load_location s a b) 0 ≡ 0
      → (y y' : Thread) → execute (Load k r a b) m 0 s ≡ next y → execute (Load k r a b) m 0 s' ≡ next y' → Rests K (cohering y s.coherence) y'
  idle_rests s s' h K others unseen y y' e e' = go y y' (effect (Load k r a b) m 0 s y e) (effect (Load k r a b) m 0 s' y' e')
    where
      go : (y y' : Thread) → Effect m 0 s (Load k r a b) y → Effect m 0 s' (Load k r a b) y' → Rests K (cohering y s.coherence) y'
      go y y' (loaded d n) (loaded d' n') =
          record {
            under = load_idle_under s s' h a b k r m 0 0 _ _ (post_unseen s s' h a b k unseen);
            agreeing = set_agreeing K r s s' _ _ h others (same refl);
          }

-- ---- a store to the same location
module _ (m : Memory) (k : StoreMode) (a d : Operand) (s s' : Thread) (h : Under s s') (near-a : address (value_of s a) ≡ address (value_of s' a)) where
  -- the promise that s' fulfils s can fulfil, if the data are the same
  pub store_too : (t : ℕ) (y' : Thread) → value_of s d ≡ value_of s' d → execute (Store k a d) m t s' ≡ next y' → (y : Thread) × (execute (Store k a d) m t s ≡ next y)
  store_too t y' same_data e = go y' (effect (Store k a d) m t s' y' e)
    where
      go : (y' : Thread) → Effect m t s' (Store k a d) y' → (y : Thread) × (execute (Store k a d) m t s ≡ next y)
      go y' (stored p x z) = (_, executes (store_effect s s' h k a d near-a m t same_data p x z))

  -- both fulfilled the promise at time t, on whatever memories
  pub store_rests : (K : List ℕ) → Agreeing K s s' → (t : ℕ) (n : Memory) (y y' : Thread) → execute (Store k a d) m t s ≡ next y → execute (Store k a d) n t s' ≡ next y' → Rests K y y'
  store_rests K all t n y y' e e' = go y y' (effect (Store k a d) m t s y e) (effect (Store k a d) n t s' y' e')
    where
      go : (y y' : Thread) → Effect m t s (Store k a d) y → Effect n t s' (Store k a d) y' → Rests K y y'
      go y y' (stored p x z) (stored p' x' z') = record { under = store_under s s' h k a d near-a t; agreeing = all }

-- what s' stored stands at a promise of s too
pub store_at_lem : (m : Memory) (k : StoreMode) (a d : Operand) (s s' : Thread) → Under s s' → (t : ℕ) (y' : Thread) → execute (Store k a d) m t s' ≡ next y'
    → T (has s.promises t) × (t ≤ m.count) × ((message_at m t).location ≡ address (value_of s' a)) × ((message_at m t).value ≡ value_of s' d)
store_at_lem m k a d s s' h t y' e = go y' (effect (Store k a d) m t s' y' e)
  where
    go : (y' : Thread) → Effect m t s' (Store k a d) y' → T (has s.promises t) × (t ≤ m.count) × ((message_at m t).location ≡ address (value_of s' a)) × ((message_at m t).value ≡ value_of s' d)
    go y' (stored p x z) = (subst (λ (q : ℕ). T (has q t)) (sym h.same_promises) p.out, p.in_memory, p.at_location, p.at_value)
