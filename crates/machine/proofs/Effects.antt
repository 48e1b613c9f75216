-- The rules read backwards: what an executed instruction left, and under which tests.
-- Assumes nothing.
use mathlib.Core.Path.{◌≡◌, subst, refl}
use mathlib.Core.Logic.{⊎_elim}
use mathlib.Core.Bool.{Bool, true, false, ◌&&◌}
use Prim.Native.Nat.{ℕ, max, ◌+◌, ◌≤◌, ◌<◌}
use native.Mathlib.Omega.{arith}
use lib.Dec.{T, eqb, leb, ltb, eqb→eq, leb→le, ltb→lt}
use borrow.Author.Tests.{eqb-false}
use Rattle.theory_views.specs.Views.{view_at}
use Rattle.program.proofs.Tests.{or_cases, and_left, and_right}
use Rattle.program.specs.declared.Refusal.{Refusal}
use Rattle.program.specs.declared.Refusal.TheVariants.{NoMessage, NewerMessage, ViewNotBelow}
use Rattle.machine.specs.Below.{Operand, ComputeMode, LoadMode, StoreMode, FenceMode, Instr, Compute, Load, Store, Branch, Fence}
use Rattle.machine.specs.State.{Memory, Thread, message_at, has}
use Rattle.machine.specs.Rules.{Executed, next, test, value_of, view_of, view_of₂, address, compute_done, branch_by, branch_done, load_pre, readable, none_newer, read_view, load_done, load_at, store_pre, promised, store_done, store_at, fence_done, execute}

-- the location and the post-view of a load
abbrev pub load_location : Thread → Operand → Operand → ℕ
load_location s a b = address (value_of s a + value_of s b)

abbrev pub load_pre_view : LoadMode → Thread → Operand → Operand → ℕ
load_pre_view k s a b = load_pre k (view_of₂ s a b) s.views

abbrev pub load_post_view : LoadMode → Thread → Operand → Operand → ℕ → ℕ
load_post_view k s a b t = max (load_pre_view k s a b) (read_view s (load_location s a b) t)

-- the location of a store
abbrev pub store_location : Thread → Operand → ℕ
store_location s a = address (value_of s a)

-- an outstanding promise at time t, of location l and value v
pub record Promised (m : Memory) (t l v : ℕ) (s : Thread) : Type 0 where
  pub out : T (has s.promises t)
  pub in_memory : t ≤ m.count
  pub at_location : (message_at m t).location ≡ l
  pub at_value : (message_at m t).value ≡ v

-- what an instruction that executes at time t makes of the thread s
pub data Effect (m : Memory) (t : ℕ) (s : Thread) : Instr → Thread → Type 0 where
  computed : {k : ComputeMode} {r : ℕ} {a b : Operand} → t ≡ 0 → Effect m t s (Compute k r a b) (compute_done k r a b s)
  loaded : {k : LoadMode} {r : ℕ} {a b : Operand} → T (readable m (load_location s a b) t)
      → T (none_newer m (load_location s a b) t (max (load_pre_view k s a b) (view_at s.coherence (load_location s a b))))
      → Effect m t s (Load k r a b) (load_done k r m t (load_location s a b) (view_of₂ s a b) (load_post_view k s a b t) s)
  stored : {k : StoreMode} {a d : Operand} → Promised m t (store_location s a) (value_of s d) s
      → store_pre k (view_of s a) (view_of s d) s.views < t → view_at s.coherence (store_location s a) < t
      → Effect m t s (Store k a d) (store_done k t (store_location s a) (view_of s a) (view_of s d) s)
  branched : {n : ℕ} {a b : Operand} → t ≡ 0 → Effect m t s (Branch n a b) (branch_done n a b s)
  fenced : {k : FenceMode} → t ≡ 0 → Effect m t s (Fence k) (fence_done k s)

pub next_same : {s s' : Thread} → next s ≡ next s' → s ≡ s'
next_same {s} {s'} e = cc

test_passed : (b : Bool) (r : Refusal) (o : Executed) (s' : Thread) → test b r o ≡ next s' → T b × (o ≡ next s')
test_passed true r o s' e = (tt, e)
test_passed false r o s' e = absurd (eqb-false 0 1 refl cc)

promised_facts : (m : Memory) (t l v : ℕ) (s : Thread) → T (promised m t l v s) → Promised m t l v s
unfolding promised
promised_facts m t l v s h =
    let a : T (has s.promises t) = search (and_left, and_right) in
    let b : T (leb t m.count) = search (and_left, and_right) in
    let c : T (eqb (message_at m t).location l) = search (and_left, and_right) in
    let d : T (eqb (message_at m t).value v) = search (and_left, and_right) in
    record { out = a; in_memory = leb→le t m.count b; at_location = eqb→eq _ _ c; at_value = eqb→eq _ _ d }

-- THE RULES, BACKWARDS
pub effect : (x : Instr) (m : Memory) (t : ℕ) (s s' : Thread) → execute x m t s ≡ next s' → Effect m t s x s'
unfolding execute load_at store_at
effect (Compute k r a b) m t s s' e =
    let q = test_passed (eqb t 0) NoMessage _ s' e in
    subst (Effect m t s (Compute k r a b)) (next_same q.1) (computed (eqb→eq t 0 q.0))
effect (Load k r a b) m t s s' e =
    let l = load_location s a b in
    let p = test_passed (readable m l t) NoMessage _ s' e in
    let q = test_passed (none_newer m l t (max (load_pre_view k s a b) (view_at s.coherence l))) NewerMessage _ s' p.1 in
    subst (Effect m t s (Load k r a b)) (next_same q.1) (loaded p.0 q.0)
effect (Store k a d) m t s s' e =
    let l = store_location s a in
    let pre = store_pre k (view_of s a) (view_of s d) s.views in
    let p = test_passed (promised m t l (value_of s d) s) NoMessage _ s' e in
    let q = test_passed (ltb pre t && ltb (view_at s.coherence l) t) ViewNotBelow _ s' p.1 in
    subst (Effect m t s (Store k a d)) (next_same q.1)
    (stored (promised_facts m t l (value_of s d) s p.0) (ltb→lt pre t (and_left (ltb pre t) (ltb (view_at s.coherence l) t) q.0))
    (ltb→lt (view_at s.coherence l) t (and_right (ltb pre t) (ltb (view_at s.coherence l) t) q.0)))
effect (Branch n a b) m t s s' e =
    let q = test_passed (eqb t 0) NoMessage _ s' e in
    subst (Effect m t s (Branch n a b)) (next_same q.1) (branched (eqb→eq t 0 q.0))
effect (Fence k) m t s s' e =
    let q = test_passed (eqb t 0) NoMessage _ s' e in
    subst (Effect m t s (Fence k)) (next_same q.1) (fenced (eqb→eq t 0 q.0))

-- a branch moves on, whichever way it goes
pub branch_moves : (b : Bool) (n : ℕ) → 0 < branch_by b n
branch_moves true n = omega arith
branch_moves false n = omega arith

-- an instruction moves the position on
pub moves : {m : Memory} {t : ℕ} {s : Thread} {x : Instr} {s' : Thread} → Effect m t s x s' → s.position < s'.position
moves (computed e) = omega arith
moves (loaded r n) = omega arith
moves (stored p a b) = omega arith
moves {s = s} (branched {n} {a} {b} e) = let h = branch_moves (eqb (value_of s a) (value_of s b)) n in omega arith
moves (fenced e) = omega arith

-- a time that can be read is a time of the memory
pub readable_time : (m : Memory) (l t : ℕ) → T (readable m l t) → t ≤ m.count
unfolding readable
readable_time m l t h =
    ⊎_elim (λ a. let e = eqb→eq t 0 a in omega arith) (λ b. leb→le t m.count (and_left (leb t m.count) (eqb (message_at m t).location l) b))
    (or_cases (eqb t 0) (leb t m.count && eqb (message_at m t).location l) h)

-- what can be read after time 0 is a message to the location
pub read_there : (m : Memory) (l t : ℕ) → 0 < t → T (readable m l t) → (message_at m t).location ≡ l
unfolding readable
read_there m l t p h =
    ⊎_elim (λ a. let e = eqb→eq t 0 a in absurd (omega arith)) (λ b. eqb→eq (message_at m t).location l (and_right (leb t m.count) (eqb (message_at m t).location l) b))
    (or_cases (eqb t 0) (leb t m.count && eqb (message_at m t).location l) h)

-- an instruction executes at a time of the memory
pub effect_time : {m : Memory} {t : ℕ} {s : Thread} {x : Instr} {s' : Thread} → Effect m t s x s' → t ≤ m.count
effect_time (computed e) = omega arith
effect_time {m} {t} {s} (loaded {k} {r} {a} {b} d n) = readable_time m (load_location s a b) t d
effect_time (stored p a b) = p.in_memory
effect_time (branched e) = omega arith
effect_time (fenced e) = omega arith
