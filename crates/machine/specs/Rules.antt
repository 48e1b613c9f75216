-- The rules: what executing one instruction at a time makes of a thread, or why it is refused.
-- Assumes nothing.
use Rattle.std.specs.Prelude.{Bool, true, false, not, cond, ◌&&◌, ◌||◌, ℕ, suc, max, ◌+◌, ◌-◌, ◌%◌, eqb, leb, ltb, get_or}
use Rattle.std.specs.Int.Bits.{bit_xor}
use Rattle.theory_views.specs.Views.{view_at}
use Rattle.program.specs.Tests.{below}
use Rattle.program.specs.declared.Refusal.{Refusal}
use Rattle.program.specs.declared.Refusal.TheVariants.{NoMessage, NewerMessage, ViewNotBelow}
use Rattle.machine.specs.Below.{Operand, Constant, OfRegister, ComputeMode, Add, Subtract, ExclusiveOr, Equal, LoadMode, PlainLoad, Acquire, WeakAcquire, StoreMode, PlainStore, Release, FenceMode, DmbSy, DmbLd, DmbSt, Isb, Instr, Compute, Load, Store, Branch, Fence}
use Rattle.machine.specs.State.{Message, Memory, Views, Thread, fresh_register, fresh_forward, message_at, has, with, raise_r_old, raise_w_old, raise_r_new, raise_w_new, raise_cap, raise_rel, with_position, with_register, raise_coherence, with_forward, with_views, with_promises, take_out}

-- the answer of a rule: a refusal, or the thread's next state
pub data Executed : Type 0 where
  refused : Refusal → Executed
  next : Thread → Executed

-- go on if the test passes, else refuse
abbrev pub test : Bool → Refusal → Executed → Executed
test true r o = o
test false r o = refused r

-- ---- operands
-- a constant is itself, a register's value is what it holds
abbrev pub value_of : Thread → Operand → ℕ
value_of s (Constant n) = n
value_of s (OfRegister r) = (get_or s.registers r fresh_register).value

-- an operand's view: 0 for a constant, for a register the one that it holds
abbrev pub view_of : Thread → Operand → ℕ
view_of s (Constant n) = 0
view_of s (OfRegister r) = (get_or s.registers r fresh_register).view

-- of two operands the larger
abbrev pub view_of₂ : Thread → Operand → Operand → ℕ
view_of₂ s a b = max (view_of s a) (view_of s b)

-- one of the 16 locations: the address modulo 16
abbrev pub address : ℕ → ℕ
address n = n % 16

-- the position n further on
abbrev pub advance : ℕ → Thread → Thread
advance n s = with_position (s.position + n) s

-- ---- compute: r has the result, with the view of both operands
-- the result is a byte: sums and differences wrap at 256
unfoldable pub combine : ComputeMode → ℕ → ℕ → ℕ
combine Add x y = (x + y) % 256
combine Subtract x y = (x + 256 - y) % 256
combine ExclusiveOr x y = bit_xor x y
combine Equal x y = cond (eqb x y) 1 0

abbrev pub compute_done : ComputeMode → ℕ → Operand → Operand → Thread → Thread
compute_done k r a b s = advance 1 (with_register r (combine k (value_of s a) (value_of s b)) (view_of₂ s a b) s)

-- ---- branch: the view of both operands raises CAP; where their values are equal, n instructions are passed over
abbrev pub branch_by : Bool → ℕ → ℕ
branch_by true n = n + 1
branch_by false n = 1

abbrev pub branch_done : ℕ → Operand → Operand → Thread → Thread
branch_done n a b s = advance (branch_by (eqb (value_of s a) (value_of s b)) n) (with_views (raise_cap (view_of₂ s a b) s.views) s)

-- ---- load at time t; l is the location, va the address view
-- the pre-view merges the address view and rNew, and for an acquire that is not weak Rel too
abbrev pub load_pre : LoadMode → ℕ → Views → ℕ
load_pre PlainLoad va w = max va w.rNew
load_pre Acquire va w = max (max va w.rNew) w.rel
load_pre WeakAcquire va w = max va w.rNew

-- l can be read at time t: that is 0, or has a message to l
unfoldable pub readable : Memory → ℕ → ℕ → Bool
readable m l t = eqb t 0 || (leb t m.count && eqb (message_at m t).location l)

-- the message at time u is to l, and u is above t and up to v
abbrev pub newer : Memory → ℕ → ℕ → ℕ → ℕ → Bool
newer m l t v u = eqb (message_at m u).location l && ltb t u && leb u v

-- no message to l stands after time t and up to time v
unfoldable pub none_newer : Memory → ℕ → ℕ → ℕ → Bool
none_newer m l t v = below (λ k. not (newer m l t v (suc k))) m.count

-- what is read at time t: 0 at time 0, else what the message has
unfoldable pub read_value : Memory → ℕ → ℕ
read_value m t = cond (eqb t 0) 0 (message_at m t).value

-- the read view: at the forward time of l its forward view, at any other time that time
abbrev pub read_view : Thread → ℕ → ℕ → ℕ
read_view s l t = let w = get_or s.forward l fresh_forward in cond (eqb t w.time) w.view t

-- both acquires raise rNew and wNew; a plain load raises them by 0, which leaves them
abbrev pub if_acquire : LoadMode → ℕ → ℕ
if_acquire PlainLoad v = 0
if_acquire Acquire v = v
if_acquire WeakAcquire v = v

-- the post-view raises rOld, and for either acquire rNew and wNew; the address view raises CAP
abbrev pub load_views : LoadMode → ℕ → ℕ → Views → Views
load_views k va post w = raise_cap va (raise_w_new (if_acquire k post) (raise_r_new (if_acquire k post) (raise_r_old post w)))

-- r has the value, with the post-view, which also raises the coherence view of l
abbrev pub load_done : LoadMode → ℕ → Memory → ℕ → ℕ → ℕ → ℕ → Thread → Thread
load_done k r m t l va post s = advance 1 (with_views (load_views k va post s.views) (raise_coherence l post (with_register r (read_value m t) post s)))

unfoldable pub load_at : LoadMode → ℕ → Memory → ℕ → ℕ → ℕ → Thread → Executed
load_at k r m t l va s =
    let pre = load_pre k va s.views in
    test (readable m l t) NoMessage
    (test (none_newer m l t (max pre (view_at s.coherence l))) NewerMessage
    (next (load_done k r m t l va (max pre (read_view s l t)) s)))

-- ---- store at time t; l is the location, v the value, va and vd the views of address and data
-- the pre-view merges the views of both operands, wNew and CAP, and for a release rOld and wOld too
abbrev pub store_pre : StoreMode → ℕ → ℕ → Views → ℕ
store_pre PlainStore va vd w = max (max va vd) (max w.wNew w.cap)
store_pre Release va vd w = max (max (max va vd) (max w.wNew w.cap)) (max w.rOld w.wOld)

-- the thread has promised the value v at l for time t, and has not fulfilled it yet
unfoldable pub promised : Memory → ℕ → ℕ → ℕ → Thread → Bool
promised m t l v s = has s.promises t && leb t m.count && eqb (message_at m t).location l && eqb (message_at m t).value v

-- a release raises Rel; a plain store raises it by 0, which leaves it
abbrev pub if_release : StoreMode → ℕ → ℕ
if_release PlainStore t = 0
if_release Release t = t

-- t raises wOld, and for a release Rel; the address view raises CAP
abbrev pub store_views : StoreMode → ℕ → ℕ → Views → Views
store_views k t va w = raise_cap va (raise_rel (if_release k t) (raise_w_old t w))

-- t is no promise any more, and raises the coherence view of l; the forward pair of l is t with the view of both operands
abbrev pub store_done : StoreMode → ℕ → ℕ → ℕ → ℕ → Thread → Thread
store_done k t l va vd s =
    advance 1 (with_forward l t (max va vd) (with_views (store_views k t va s.views) (raise_coherence l t (take_out t s))))

-- t is above two views: the pre-view and the coherence view of l
unfoldable pub store_at : StoreMode → Memory → ℕ → ℕ → ℕ → ℕ → ℕ → Thread → Executed
store_at k m t l v va vd s =
    test (promised m t l v s) NoMessage
    (test (ltb (store_pre k va vd s.views) t && ltb (view_at s.coherence l) t) ViewNotBelow
    (next (store_done k t l va vd s)))

-- ---- fence
-- dmb sy: rOld and wOld raise rNew and wNew; dmb ld: rOld raises both; dmb st: wOld raises wNew; isb: CAP raises rNew
abbrev pub fence_views : FenceMode → Views → Views
fence_views DmbSy w = raise_w_new (max w.rOld w.wOld) (raise_r_new (max w.rOld w.wOld) w)
fence_views DmbLd w = raise_w_new w.rOld (raise_r_new w.rOld w)
fence_views DmbSt w = raise_w_new w.wOld w
fence_views Isb w = raise_r_new w.cap w

abbrev pub fence_done : FenceMode → Thread → Thread
fence_done k s = advance 1 (with_views (fence_views k s.views) s)

-- ---- one instruction, executed at time t; only loads and stores have times other than 0
unfoldable pub execute : Instr → Memory → ℕ → Thread → Executed
execute (Compute k r a b) m t s = test (eqb t 0) NoMessage (next (compute_done k r a b s))
execute (Load k r a b) m t s = load_at k r m t (address (value_of s a + value_of s b)) (view_of₂ s a b) s
execute (Store k a d) m t s = store_at k m t (address (value_of s a)) (value_of s d) (view_of s a) (view_of s d) s
execute (Branch n a b) m t s = test (eqb t 0) NoMessage (next (branch_done n a b s))
execute (Fence k) m t s = test (eqb t 0) NoMessage (next (fence_done k s))

-- ---- promise: memory has one message more, which the thread has promised; the thread is where it was
-- the thread with the newest message of m among its promises
abbrev pub add_promise : Memory → Thread → Thread
add_promise m s = with_promises (with s.promises m.count) s

-- the message of a store of thread i: data d to address a
abbrev pub store_message : ℕ → Operand → Operand → Thread → Message
store_message i a d s = record { location = address (value_of s a); value = value_of s d; thread = i }
