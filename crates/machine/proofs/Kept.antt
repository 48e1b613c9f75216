-- The fresh machine is well formed; an executed instruction and a promise keep a machine well formed.
-- Assumes nothing.
use mathlib.Core.Path.{◌≡◌, refl, sym, ap, ◌∙◌, subst}
use mathlib.Core.Logic.{⊎_elim}
use mathlib.Core.Bool.{Bool, true, false, cond}
use mathlib.Core.Option.{some}
use Prim.Native.Nat.{ℕ, suc, ◌+◌, ◌^◌, ◌≤◌, ◌<◌, zero-le}
use native.Mathlib.Decide.{ℕ_discrete, dec_lt}
use native.Mathlib.Omega.{arith}
use lib.Dec.{T, eqb}
use lib.ListN.{length, get_or, set, length-set}
use lib.Pow.{pow_pos}
use lib.Seq.{get_or-set_same, get_or-set_other}
use Rattle.theory_views.proofs.Entries.{set_all, replicate_all}
use Rattle.theory_views.proofs.Merging.{length_raise, raise_below}
use Rattle.program.specs.Program.{instr_at, code_of}
use Rattle.program.proofs.Counts.{there}
use Rattle.program.proofs.Formed.{ProgramOk}
use Rattle.program.specs.Inner.{CodeOk}
use Rattle.machine.specs.Below.{Code, Program, Operand, Constant, OfRegister, LoadMode, PlainLoad, Acquire, WeakAcquire, StoreMode, PlainStore, Release, FenceMode, DmbSy, DmbLd, DmbSt, Isb, Instr}
use Rattle.machine.specs.State.{Message, Memory, Register, Forward, Views, Thread, Machine, no_message, fresh_memory, fresh_register, fresh_forward, fresh_thread, fresh, thread_of, message_at, append, has, with, without, raise_cap, with_position, with_register, raise_coherence, with_forward, with_views, with_promises}
use Rattle.machine.specs.Rules.{value_of, view_of, view_of₂, branch_by, load_pre, read_view, load_views, store_views, fence_views, add_promise}
use Rattle.machine.proofs.Sets.{has_positive, has_none, has_time, has_removed, has_added, without_small, with_small, grown_small}
use Rattle.machine.proofs.Memories.{message_stays, message_new}
use Rattle.machine.proofs.Effects.{readable_time, load_location, load_post_view, store_location, Effect, computed, loaded, stored, branched, fenced}
use Rattle.machine.proofs.Formed.{MessageOk, MemoryOk, ViewsOk, ThreadOk, MachineOk}

-- ---- the start
-- the fresh state is well formed
pub fresh_thread_ok : (c : Code) (i : ℕ) (m : Memory) → ThreadOk c i m fresh_thread
unfolding fresh_thread
fresh_thread_ok c i m =
    record {
      within = zero-le;
      registers = refl;
      register_views = replicate_all (λ w. w.view ≤ m.count) 8 fresh_register zero-le;
      locations = refl;
      coherence_views = replicate_all (λ w. w ≤ m.count) 16 0 zero-le;
      forwards = refl;
      forward_times = replicate_all (λ w. w.time ≤ m.count) 16 fresh_forward zero-le;
      forward_views = replicate_all (λ w. w.view ≤ m.count) 16 fresh_forward zero-le;
      views_ok = omega arith;
      promises_in = pow_pos m.count;
      own = λ t h. absurd (has_none 0 t refl h);
    }

-- THE FRESH MACHINE IS WELL FORMED
pub fresh_ok : (p : Program) → MachineOk p fresh
unfolding fresh
fresh_ok p =
    let all = replicate_all (λ s. s ≡ fresh_thread) 4 fresh_thread refl in
    record {
      memory_ok = record { room = zero-le; places = refl; messages = λ t a b. absurd (omega arith); unused = λ k l. replicate_all (λ w. w ≡ no_message) 16 no_message refl k };
      four = refl;
      states = λ i l. subst (ThreadOk (code_of p i) i fresh_memory) (sym (all i)) (fresh_thread_ok (code_of p i) i fresh_memory);
      unused = λ i l. all i;
    }

-- ---- a change of one part of a thread's state
module _ {c : Code} {i : ℕ} {m : Memory} {s : Thread} (o : ThreadOk c i m s) where
  position_kept : (n : ℕ) → n ≤ c.count → ThreadOk c i m (with_position n s)
  position_kept n h = search

  register_kept : (r v w : ℕ) → w ≤ m.count → ThreadOk c i m (with_register r v w s)
  register_kept r v w h =
      let x : Register = record { value = v; view = w } in
      let size = length-set s.registers r x ∙ o.registers in
      let all = set_all (λ y. y.view ≤ m.count) fresh_register x s.registers r o.register_views h in
      search

  coherence_kept : (l v : ℕ) → v ≤ m.count → ThreadOk c i m (raise_coherence l v s)
  coherence_kept l v h =
      let size = length_raise s.coherence l v ∙ o.locations in
      let all = raise_below m.count s.coherence l v o.coherence_views h in
      search

  forward_kept : (l t v : ℕ) → t ≤ m.count → v ≤ m.count → ThreadOk c i m (with_forward l t v s)
  forward_kept l t v h g =
      let x : Forward = record { time = t; view = v } in
      let size = length-set s.forward l x ∙ o.forwards in
      let times = set_all (λ y. y.time ≤ m.count) fresh_forward x s.forward l o.forward_times h in
      let all = set_all (λ y. y.view ≤ m.count) fresh_forward x s.forward l o.forward_views g in
      search

  views_kept : (w : Views) → ViewsOk m.count w → ThreadOk c i m (with_views w s)
  views_kept w h = search

  promises_kept : (q : ℕ) → q < 2 ^ m.count → ((t : ℕ) → T (has q t) → (message_at m t).thread ≡ i) → ThreadOk c i m (with_promises q s)
  promises_kept q h g = search

-- ---- views are times of the memory
cond_le : (b : Bool) (x y n : ℕ) → x ≤ n → y ≤ n → cond b x y ≤ n
cond_le true x y n h g = h
cond_le false x y n h g = g

module _ {n : ℕ} {w : Views} (o : ViewsOk n w) where
  load_pre_time : (k : LoadMode) (va : ℕ) → va ≤ n → load_pre k va w ≤ n
  load_pre_time PlainLoad va h = omega arith
  load_pre_time Acquire va h = omega arith
  load_pre_time WeakAcquire va h = omega arith

  load_views_ok : (k : LoadMode) (va post : ℕ) → va ≤ n → post ≤ n → ViewsOk n (load_views k va post w)
  load_views_ok PlainLoad va post h g = omega arith
  load_views_ok Acquire va post h g = omega arith
  load_views_ok WeakAcquire va post h g = omega arith

  store_views_ok : (k : StoreMode) (t va : ℕ) → t ≤ n → va ≤ n → ViewsOk n (store_views k t va w)
  store_views_ok PlainStore t va h g = omega arith
  store_views_ok Release t va h g = omega arith

  fence_views_ok : (k : FenceMode) → ViewsOk n (fence_views k w)
  fence_views_ok DmbSy = omega arith
  fence_views_ok DmbLd = omega arith
  fence_views_ok DmbSt = omega arith
  fence_views_ok Isb = omega arith

-- ---- an executed instruction
one_on : (c : Code) (n : ℕ) {x : Instr} → instr_at c n ≡ some x → n + 1 ≤ c.count
one_on c n {x} e = let l = (there c n x e).0 in omega arith

branch_lands : (b : Bool) (k n e : ℕ) → k + suc n ≤ e → k + branch_by b n ≤ e
branch_lands true k n e h = omega arith
branch_lands false k n e h = omega arith

module _ {c : Code} {i : ℕ} {m : Memory} {s : Thread} (o : ThreadOk c i m s) where
  view_time : (a : Operand) → view_of s a ≤ m.count
  view_time (Constant n) = zero-le
  view_time (OfRegister r) = o.register_views r

  two_views_time : (a b : Operand) → view_of₂ s a b ≤ m.count
  two_views_time a b = let x = view_time a in let y = view_time b in omega arith

  read_time : (l t : ℕ) → t ≤ m.count → read_view s l t ≤ m.count
  read_time l t h = let w = get_or s.forward l fresh_forward in cond_le (eqb t w.time) w.view t m.count (o.forward_views l) h

-- an executed instruction keeps the thread well formed
pub exec_ok : {c : Code} {i : ℕ} {m : Memory} {s : Thread} {t : ℕ} {x : Instr} {s' : Thread}
    → CodeOk c → ThreadOk c i m s → instr_at c s.position ≡ some x → Effect m t s x s' → ThreadOk c i m s'
exec_ok {c} {s = s} co o e (computed {a = a} {b = b} z) = position_kept (register_kept o _ _ _ (two_views_time o a b)) _ (one_on c s.position e)
exec_ok {c} {m = m} {s = s} {t = t} co o e (loaded {k} {r} {a} {b} d n) =
    let l = load_location s a b in
    let va = two_views_time o a b in
    let pre = load_pre_time o.views_ok k (view_of₂ s a b) va in
    let read = read_time o l t (readable_time m l t d) in
    let post : load_post_view k s a b t ≤ m.count = omega arith in
    position_kept (views_kept (coherence_kept (register_kept o r _ _ post) l _ post) _ (load_views_ok o.views_ok k _ _ va post)) _ (one_on c s.position e)
exec_ok {c} {m = m} {s = s} {t = t} co o e (stored {k} {a} {d} q n n') =
    let l = store_location s a in
    let tm = q.in_memory in
    let va = view_time o a in
    let vd = view_time o d in
    let out = promises_kept o (without s.promises t) (without_small s.promises m.count t o.promises_in) (λ u h. o.own u (has_removed s.promises t u q.out h).0) in
    position_kept (forward_kept (views_kept (coherence_kept out l t tm) _ (store_views_ok o.views_ok k t _ tm va)) l t _ tm (omega arith)) _ (one_on c s.position e)
exec_ok {s = s} co o e (branched {n} {a} {b} z) =
    let va = two_views_time o a b in
    position_kept (views_kept o (raise_cap (view_of₂ s a b) s.views) (omega arith)) _ (branch_lands (eqb (value_of s a) (value_of s b)) s.position n _ (co.lands s.position n a b e))
exec_ok {c} {s = s} co o e (fenced {k} z) = position_kept (views_kept o _ (fence_views_ok o.views_ok k)) _ (one_on c s.position e)

-- ---- a longer memory
own_grown : {c : Code} {i : ℕ} {m : Memory} {s : Thread} (w : Message) → ThreadOk c i m s → (t : ℕ) → T (has s.promises t) → (message_at (append m w) t).thread ≡ i
own_grown {m = m} {s = s} w o t h =
    ap (λ (y : Message). y.thread) (message_stays m w t (has_positive s.promises t h) (has_time s.promises m.count t o.promises_in h)) ∙ o.own t h

-- another message keeps a thread well formed
pub grow_ok : {c : Code} {i : ℕ} {m : Memory} {s : Thread} (w : Message) → ThreadOk c i m s → ThreadOk c i (append m w) s
grow_ok {m = m} {s = s} w o =
    let more : (v : ℕ) → v ≤ m.count → v ≤ m.count + 1 = λ v h. omega arith in
    record {
      within = o.within;
      registers = o.registers;
      register_views = λ k. more _ (o.register_views k);
      locations = o.locations;
      coherence_views = λ k. more _ (o.coherence_views k);
      forwards = o.forwards;
      forward_times = λ k. more _ (o.forward_times k);
      forward_views = λ k. more _ (o.forward_views k);
      views_ok = omega arith;
      promises_in = grown_small s.promises m.count o.promises_in;
      own = own_grown w o;
    }

-- so does its own promise
pub promise_ok : {n : ℕ} {c : Code} {i : ℕ} {m : Memory} {s : Thread} (w : Message) → MemoryOk n m → m.count < 16 → w.thread ≡ i → ThreadOk c i m s
    → ThreadOk c i (append m w) (add_promise (append m w) s)
promise_ok {m = m} {s = s} w mo room q o =
    promises_kept (grow_ok w o) (with s.promises (m.count + 1)) (with_small s.promises m.count o.promises_in)
    (λ t h. ⊎_elim (λ e. ap (λ (u : ℕ). (message_at (append m w) u).thread) e ∙ ap (λ (y : Message). y.thread) (message_new m w (omega arith)) ∙ q) (own_grown w o t) (has_added s.promises m.count t o.promises_in h))

-- another message keeps the memory well formed
pub memory_grow_ok : {n : ℕ} {m : Memory} {w : Message} → MemoryOk n m → m.count < 16 → MessageOk n w → MemoryOk n (append m w)
memory_grow_ok {n} {m} {w} o room k =
    record {
      room = omega arith;
      places = length-set m.messages m.count w ∙ o.places;
      messages = λ t a b.
          elim (dec_lt m.count t) [
            | yes l ↦ let e : m.count + 1 ≡ t = omega arith in subst (λ (u : ℕ). MessageOk n (message_at (append m w) u)) e (subst (MessageOk n) (sym (message_new m w (omega arith))) k)
            | no l ↦ subst (MessageOk n) (sym (message_stays m w t a (omega arith))) (o.messages t a (omega arith))
          ];
      unused = λ j l. get_or-set_other m.messages m.count j w no_message (λ e. omega arith) ∙ o.unused j (omega arith);
    }

-- ---- the machine
module _ (p : Program) (x : Machine) (i : ℕ) (few : p.threads ≤ 4) (four : length x.threads ≡ 4) (is : i < p.threads)
    (unused : (j : ℕ) → p.threads ≤ j → thread_of x j ≡ fresh_thread) where
  -- the memory and the state of thread i replaced
  replaced_ok : (m : Memory) (s : Thread) → MemoryOk p.threads m → ((j : ℕ) → j < p.threads → ThreadOk (code_of p j) j m (thread_of x j)) → ThreadOk (code_of p i) i m s
      → MachineOk p (record { memory = m; threads = set x.threads i s })
  replaced_ok m s mo others this =
      record {
        memory_ok = mo;
        four = length-set x.threads i s ∙ four;
        states = λ j l.
            elim (ℕ_discrete j i) [
              | yes e ↦ subst (λ (u : ℕ). ThreadOk (code_of p u) u m (get_or (set x.threads i s) u fresh_thread)) (sym e) (subst (ThreadOk (code_of p i) i m) (sym (get_or-set_same x.threads i s fresh_thread (omega arith))) this)
              | no e ↦ subst (ThreadOk (code_of p j) j m) (sym (get_or-set_other x.threads i j s fresh_thread e)) (others j l)
            ];
        unused = λ j l. get_or-set_other x.threads i j s fresh_thread (λ e. omega arith) ∙ unused j l;
      }

-- an executed instruction keeps the machine well formed
pub executed_ok : (p : Program) (x : Machine) (i t : ℕ) (c : Instr) (s : Thread) → ProgramOk p → MachineOk p x → i < p.threads
    → instr_at (code_of p i) (thread_of x i).position ≡ some c → Effect x.memory t (thread_of x i) c s
    → MachineOk p (record { memory = x.memory; threads = set x.threads i s })
executed_ok p x i t c s po o l e f =
    replaced_ok p x i po.few_threads o.four l o.unused x.memory s o.memory_ok o.states (exec_ok (po.codes i l) (o.states i l) e f)

-- a promise keeps the machine well formed
pub promised_ok : (p : Program) (x : Machine) (i l v : ℕ) → MachineOk p x → p.threads ≤ 4 → i < p.threads → l < 16 → x.memory.count < 16
    → let m = append x.memory (record { location = l; value = v; thread = i }) in MachineOk p (record { memory = m; threads = set x.threads i (add_promise m (thread_of x i)) })
promised_ok p x i l v o few h k room =
    let w : Message = record { location = l; value = v; thread = i } in
    let m = append x.memory w in
    replaced_ok p x i few o.four h o.unused m (add_promise m (thread_of x i)) (memory_grow_ok o.memory_ok room (record { location = k; thread = h }))
    (λ j q. grow_ok w (o.states j q)) (promise_ok w o.memory_ok room refl (o.states i h))
