-- Well formed: what a machine that passes the test has, and a machine that has it passes the test.
-- Assumes nothing.
use mathlib.Core.Path.{◌≡◌, refl, sym, ap, ◌∙◌, subst}
use mathlib.Core.Logic.{◌↔◌}
use mathlib.Core.Bool.{Bool, ◌&&◌}
use mathlib.Core.List.{List}
use Prim.Native.Nat.{ℕ, zero, suc, ◌-◌, ◌^◌, ◌≤◌, ◌<◌, zero-le}
use native.Mathlib.Nat.{not-suc-le-zero}
use native.Mathlib.Decide.{dec_lt}
use native.Mathlib.Omega.{arith}
use lib.Dec.{T, eqb, leb, eqb→eq, leb→le, le→leb, ltb→lt, lt→ltb}
use lib.ListN.{length, get_or, replicate, length-replicate, get_or-replicate, get_or-eq_default}
use lib.Seq.{ext_get_or}
use Rattle.theory_views.specs.Views.{view_at}
use Rattle.program.specs.Tests.{all_of, below}
use Rattle.program.specs.Program.{code_of}
use Rattle.program.proofs.Tests.{and_left, and_right, and_both, eq→eqb, implied, implies, end, also, all_each, all_at, below_at, below_all, below_used, below_spare, below_both}
use Rattle.machine.specs.Below.{Code, Program}
use Rattle.machine.specs.State.{Message, Memory, Register, Forward, Views, Thread, Machine, no_message, fresh_register, fresh_forward, fresh_views, fresh_thread, thread_of, message_at, has}
use Rattle.machine.specs.WellFormed.{message_test, unused_message, memory_test, views_test, own_test, thread_test, unused_thread, machine_test}
use Rattle.machine.proofs.Sets.{has_positive, has_time}

-- ---- the facts
-- a message of one of the threads, at a location below 16
pub record MessageOk (threads : ℕ) (w : Message) : Type 0 where
  pub location : w.location < 16
  pub thread : w.thread < threads

-- at most 16 messages; the entries after them are 0
pub record MemoryOk (threads : ℕ) (m : Memory) : Type 0 where
  pub room : m.count ≤ 16
  pub places : length m.messages ≡ 16
  pub messages : (t : ℕ) → 0 < t → t ≤ m.count → MessageOk threads (message_at m t)
  pub unused : (k : ℕ) → m.count ≤ k → get_or m.messages k no_message ≡ no_message

-- every view is at most n
pub record ViewsOk (n : ℕ) (w : Views) : Type 0 where
  pub rOld : w.rOld ≤ n
  pub wOld : w.wOld ≤ n
  pub rNew : w.rNew ≤ n
  pub wNew : w.wNew ≤ n
  pub cap : w.cap ≤ n
  pub rel : w.rel ≤ n

-- thread i, with code c, on memory m: every view and forward time is at most the message count; the promises are at its own messages
pub record ThreadOk (c : Code) (i : ℕ) (m : Memory) (s : Thread) : Type 0 where
  pub within : s.position ≤ c.count
  pub registers : length s.registers ≡ 8
  pub register_views : (k : ℕ) → (get_or s.registers k fresh_register).view ≤ m.count
  pub locations : length s.coherence ≡ 16
  pub coherence_views : (k : ℕ) → view_at s.coherence k ≤ m.count
  pub forwards : length s.forward ≡ 16
  pub forward_times : (k : ℕ) → (get_or s.forward k fresh_forward).time ≤ m.count
  pub forward_views : (k : ℕ) → (get_or s.forward k fresh_forward).view ≤ m.count
  pub views_ok : ViewsOk m.count s.views
  pub promises_in : s.promises < 2 ^ m.count
  pub own : (t : ℕ) → T (has s.promises t) → (message_at m t).thread ≡ i

-- a machine of program p; the threads that p has not are as at the start
pub record MachineOk (p : Program) (x : Machine) : Type 0 where
  pub memory_ok : MemoryOk p.threads x.memory
  pub four : length x.threads ≡ 4
  pub states : (i : ℕ) → i < p.threads → ThreadOk (code_of p i) i x.memory (thread_of x i)
  pub unused : (i : ℕ) → p.threads ≤ i → thread_of x i ≡ fresh_thread

-- ---- lists
module _ {A : Type 0} (d : A) (xs : List A) (n : ℕ) (e : length xs ≡ n) where
  -- what holds at each place below n, and of the default, holds at every place
  past : (P : ℕ → A → Type 0) → ((k : ℕ) → P k d) → ((k : ℕ) → k < n → P k (get_or xs k d)) → (k : ℕ) → P k (get_or xs k d)
  past P z h k = go (dec_lt k n)
    where
      go : Dec (k < n) → P k (get_or xs k d)
      go (yes l) = h k l
      go (no l) = subst (P k) (sym (get_or-eq_default xs d (omega arith))) (z k)

  -- a test that each entry passes, and the default, passes at every place
  entries : (f : A → Bool) → T (f d) → T (below (λ k. f (get_or xs k d)) n) → (k : ℕ) → T (f (get_or xs k d))
  entries f z h = past (λ k w. T (f w)) (λ k. z) (below_at _ n h)

  -- a list of entries that all pass a test which only d passes
  all_default : (f : A → Bool) → ((w : A) → T (f w) → w ≡ d) → T (below (λ k. f (get_or xs k d)) n) → xs ≡ replicate n d
  all_default f same h =
      ext_get_or d xs (replicate n d) (e ∙ sym (length-replicate n d)) (λ k l. same (get_or xs k d) (below_at _ n h k (omega arith)) ∙ sym (get_or-replicate n k d d (omega arith)))

-- from each place below n to each time from 1 to n
times : (P : ℕ → Type 0) (n : ℕ) → ((k : ℕ) → k < n → P (suc k)) → (t : ℕ) → 0 < t → t ≤ n → P t
times P n h zero a b = absurd (not-suc-le-zero a)
times P n h (suc k) a b = h k b

-- ---- memory
message_at_lem : (n : ℕ) (w : Message) → T (message_test n w) → MessageOk n w
unfolding message_test
message_at_lem n w h = let q = all_at _ h in record { location = ltb→lt w.location 16 (q 0); thread = ltb→lt w.thread n (q 1) }

message_of_lem : (n : ℕ) (w : Message) → MessageOk n w → T (message_test n w)
unfolding message_test
message_of_lem n w o = all_each (search (end, also, lt→ltb))

no_message_lem : (w : Message) → T (unused_message w) → w ≡ no_message
unfolding unused_message
no_message_lem w h =
    let q = all_at _ h in
    λ j. record { location = eqb→eq w.location 0 (q 0) j; value = eqb→eq w.value 0 (q 1) j; thread = eqb→eq w.thread 0 (q 2) j }

no_message_test : T (unused_message no_message)
unfolding unused_message all_of
no_message_test = tt

pub message_place : (m : Memory) (k : ℕ) → message_at m (suc k) ≡ get_or m.messages k no_message
message_place m k = let e : suc k - 1 ≡ k = omega arith in ap (λ (j : ℕ). get_or m.messages j no_message) e

module _ (n : ℕ) (m : Memory) where
  memory_at : T (memory_test n m) → MemoryOk n m
  unfolding memory_test
  memory_at h =
      let q = all_at _ h in
      let few = leb→le m.count 16 (q 0) in
      let full = eqb→eq (length m.messages) 16 (q 1) in
      record {
        room = few;
        places = full;
        messages = times (λ t. MessageOk n (message_at m t)) m.count (λ k l. message_at_lem n (message_at m (suc k)) (below_used _ _ m.count 16 few (q 2) k l));
        unused = past no_message m.messages 16 full (λ k w. m.count ≤ k → w ≡ no_message) (λ k l. refl)
            (λ k l g. sym (message_place m k) ∙ no_message_lem (message_at m (suc k)) (below_spare _ _ m.count 16 (q 2) k l g));
      }

  memory_of : MemoryOk n m → T (memory_test n m)
  unfolding memory_test
  memory_of o =
      all_each (
      also (le→leb m.count 16 o.room)
      (also (eq→eqb o.places)
      (also (below_both _ _ m.count 16 (λ k l. message_of_lem n (message_at m (suc k)) (o.messages (suc k) (omega arith) l)) (λ k l b. subst (λ (w : Message). T (unused_message w)) (sym (message_place m k ∙ o.unused k l)) no_message_test))
      end))
      )

-- ---- a thread
module _ (n : ℕ) (w : Views) where
  views_at : T (views_test n w) → ViewsOk n w
  unfolding views_test
  views_at h =
      let q = all_at _ h in
      record {
        rOld = leb→le w.rOld n (q 0);
        wOld = leb→le w.wOld n (q 1);
        rNew = leb→le w.rNew n (q 2);
        wNew = leb→le w.wNew n (q 3);
        cap = leb→le w.cap n (q 4);
        rel = leb→le w.rel n (q 5);
      }

  views_of : ViewsOk n w → T (views_test n w)
  unfolding views_test
  views_of o = all_each (search (end, also, le→leb) depth 9)

module _ (c : Code) (i : ℕ) (m : Memory) (s : Thread) where
  thread_at : T (thread_test c i m s) → ThreadOk c i m s
  unfolding thread_test own_test
  thread_at h =
      let n = m.count in
      let q = all_at _ h in
      let eight = eqb→eq (length s.registers) 8 (q 1) in
      let sixteen = eqb→eq (length s.coherence) 16 (q 3) in
      let pairs = eqb→eq (length s.forward) 16 (q 5) in
      let small = ltb→lt s.promises (2 ^ n) (q 8) in
      let z = le→leb 0 n zero-le in
      let r = entries fresh_register s.registers 8 eight (λ w. leb w.view n) z (q 2) in
      let v = entries 0 s.coherence 16 sixteen (λ w. leb w n) z (q 4) in
      let f = entries fresh_forward s.forward 16 pairs (λ w. leb w.time n && leb w.view n) (and_both (leb 0 n) (leb 0 n) z z) (q 6) in
      record {
        within = leb→le s.position c.count (q 0);
        registers = eight;
        register_views = λ k. leb→le (get_or s.registers k fresh_register).view n (r k);
        locations = sixteen;
        coherence_views = λ k. leb→le (view_at s.coherence k) n (v k);
        forwards = pairs;
        forward_times = λ k. let w = get_or s.forward k fresh_forward in leb→le w.time n (and_left (leb w.time n) (leb w.view n) (f k));
        forward_views = λ k. let w = get_or s.forward k fresh_forward in leb→le w.view n (and_right (leb w.time n) (leb w.view n) (f k));
        views_ok = views_at n s.views (q 7);
        promises_in = small;
        own = λ t b.
            times (λ u. T (has s.promises u) → (message_at m u).thread ≡ i) n
            (λ k l y. eqb→eq (message_at m (suc k)).thread i (implied (has s.promises (suc k)) (eqb (message_at m (suc k)).thread i) (below_at _ n (q 9) k l) y))
            t (has_positive s.promises t b) (has_time s.promises n t small b) b;
      }

  thread_of_lem : ThreadOk c i m s → T (thread_test c i m s)
  unfolding thread_test own_test
  thread_of_lem o =
      let n = m.count in
      all_each (
      also (le→leb s.position c.count o.within)
      (also (eq→eqb o.registers)
      (also (below_all _ 8 (λ k l. le→leb (get_or s.registers k fresh_register).view n (o.register_views k)))
      (also (eq→eqb o.locations)
      (also (below_all _ 16 (λ k l. le→leb (view_at s.coherence k) n (o.coherence_views k)))
      (also (eq→eqb o.forwards)
      (also (below_all _ 16 (λ k l. let w = get_or s.forward k fresh_forward in and_both (leb w.time n) (leb w.view n) (le→leb w.time n (o.forward_times k)) (le→leb w.view n (o.forward_views k))))
      (also (views_of n s.views o.views_ok)
      (also (lt→ltb s.promises (2 ^ n) o.promises_in)
      (also (below_all _ n (λ k l. implies (has s.promises (suc k)) (eqb (message_at m (suc k)).thread i) (λ y. eq→eqb (o.own (suc k) y)))) end)))))))))
      )

-- ---- a thread that is not used
both_zero : (a b : ℕ) → T (eqb a 0 && eqb b 0) → (a ≡ 0) × (b ≡ 0)
both_zero a b h = (eqb→eq a 0 (and_left (eqb a 0) (eqb b 0) h), eqb→eq b 0 (and_right (eqb a 0) (eqb b 0) h))

zero_register : (w : Register) → T (eqb w.value 0 && eqb w.view 0) → w ≡ fresh_register
zero_register w h = let q = both_zero w.value w.view h in λ j. record { value = q.0 j; view = q.1 j }

zero_forward : (w : Forward) → T (eqb w.time 0 && eqb w.view 0) → w ≡ fresh_forward
zero_forward w h = let q = both_zero w.time w.view h in λ j. record { time = q.0 j; view = q.1 j }

zero_views : (w : Views) → ViewsOk 0 w → w ≡ fresh_views
zero_views w o =
    let a : w.rOld ≡ 0 = omega arith in
    let b : w.wOld ≡ 0 = omega arith in
    let c : w.rNew ≡ 0 = omega arith in
    let d : w.wNew ≡ 0 = omega arith in
    let e : w.cap ≡ 0 = omega arith in
    let f : w.rel ≡ 0 = omega arith in
    λ j. record { rOld = a j; wOld = b j; rNew = c j; wNew = d j; cap = e j; rel = f j }

unused_thread_lem : (s : Thread) → T (unused_thread s) → s ≡ fresh_thread
unfolding unused_thread fresh_thread
unused_thread_lem s h =
    let q = all_at _ h in
    let a = eqb→eq s.position 0 (q 0) in
    let b = all_default fresh_register s.registers 8 (eqb→eq (length s.registers) 8 (q 1)) (λ w. eqb w.value 0 && eqb w.view 0) zero_register (q 2) in
    let c = all_default 0 s.coherence 16 (eqb→eq (length s.coherence) 16 (q 3)) (λ w. eqb w 0) (λ w. eqb→eq w 0) (q 4) in
    let d = all_default fresh_forward s.forward 16 (eqb→eq (length s.forward) 16 (q 5)) (λ w. eqb w.time 0 && eqb w.view 0) zero_forward (q 6) in
    let e = zero_views s.views (views_at 0 s.views (q 7)) in
    let f = eqb→eq s.promises 0 (q 8) in
    λ j. record { position = a j; registers = b j; coherence = c j; forward = d j; views = e j; promises = f j }

fresh_test : T (unused_thread fresh_thread)
unfolding unused_thread fresh_thread all_of below views_test
fresh_test = tt

-- ---- the machine
module _ (p : Program) (x : Machine) where
  machine_at : p.threads ≤ 4 → T (machine_test p x) → MachineOk p x
  unfolding machine_test
  machine_at few h =
      let q = all_at _ h in
      let full = eqb→eq (length x.threads) 4 (q 1) in
      record {
        memory_ok = memory_at p.threads x.memory (q 0);
        four = full;
        states = λ i l. thread_at (code_of p i) i x.memory (thread_of x i) (below_used _ _ p.threads 4 few (q 2) i l);
        unused = past fresh_thread x.threads 4 full (λ i s. p.threads ≤ i → s ≡ fresh_thread) (λ i l. refl) (λ i l g. unused_thread_lem (thread_of x i) (below_spare _ _ p.threads 4 (q 2) i l g));
      }

  machine_of_lem : MachineOk p x → T (machine_test p x)
  unfolding machine_test
  machine_of_lem o =
      all_each (
      also (memory_of p.threads x.memory o.memory_ok)
      (also (eq→eqb o.four)
      (also (below_both _ _ p.threads 4 (λ i l. thread_of_lem (code_of p i) i x.memory (thread_of x i) (o.states i l)) (λ i l b. subst (λ (s : Thread). T (unused_thread s)) (sym (o.unused i l)) fresh_test)) end))
      )

-- THE MACHINE'S TEST
pub machine_iff : (p : Program) → p.threads ≤ 4 → (x : Machine) → T (machine_test p x) ↔ MachineOk p x
machine_iff p few x = (machine_at p x few, machine_of_lem p x)
