-- Exploration leaves out nothing: a promise after which the thread is certified is one that the exploration reaches, with a hole in its place that can be neither read nor fulfilled.
-- Assumes nothing.
use mathlib.Core.Path.{◌≡◌, refl, sym, ap, ap₂, ◌∙◌, subst}
use mathlib.Core.Logic.{inr, ⊎_elim, ◌≢◌}
use mathlib.Core.Option.{some}
use Prim.Native.Nat.{ℕ, suc, ◌+◌, ◌*◌, ◌-◌, ◌≤◌, ◌<◌}
use native.Mathlib.Nat.{le_trans, le-max_right, mod-lt}
use native.Mathlib.Decide.{ℕ_discrete}
use native.Mathlib.Omega.{arith}
use lib.Dec.{T, lit<}
use lib.ListN.{length, get_or, set, length-set}
use lib.Seq.{get_or-set_same, get_or-set_other}
use borrow.Author.Tests.{eqb-false}
use Rattle.theory_views.specs.Views.{view_at, raise_at}
use Rattle.theory_views.proofs.Entries.{set_all, set_both}
use Rattle.theory_views.proofs.Merging.{length_raise, raise_reaches}
use Rattle.machine.specs.State.{no_message, message_at, append, has, with, fresh_forward, with_promises}
use Rattle.machine.specs.Rules.{value_of, address, read_view, execute, add_promise}
use Rattle.machine.proofs.Sets.{has_positive, has_none, has_without, has_with, with_without}
use Rattle.machine.proofs.Memories.{message_stays, message_new}
use Rattle.machine.proofs.Effects.{load_location, load_post_view, Effect, computed, loaded, stored, branched, fenced, effect, read_there}
use Rattle.certify_runs.specs.Below.{Code, Operand, LoadMode, Instr, Compute, Load, Store, Branch, Fence, Message, Memory, Forward, Thread}
use Rattle.certify_runs.specs.Certify.{message_of, certified}
use Rattle.certify_runs.specs.Runs.{done, by, own, Certifying}
use Rattle.certify_sought.specs.Aim.{fill, Fills, Meets}
use Rattle.search_promises.specs.Explored.{hole, Fillable}
use Rattle.certify_runs.proofs.Iff.{onward_next, certified_iff}
use Rattle.certify_runs.proofs.Fit.{Owned, owned, own_effect}
use Rattle.certify_runs.proofs.Dead.{dead_ends}
use Rattle.certify_runs.proofs.Law.{read_view_lem}
use Rattle.certify_runs.specs.Inner.{Sound}
use Rattle.certify_runs.proofs.Executes.{executes}
use Rattle.certify_runs.proofs.Twins.{Twin, Twins, carry, carry_store, carry_all}

-- ---- two memories that are the same but at time h
-- as many messages on as many places, each the twin of the other but at time h
pub record Same (h : ℕ) (m m' : Memory) : Type 0 where
  pub same_count : m.count ≡ m'.count
  pub long : length m.messages ≡ length m'.messages
  pub at : (k : ℕ) → suc k ≢ h → Twin (get_or m.messages k no_message) (get_or m'.messages k no_message)

-- the second is to the first as the first to the second
pub turned : {h : ℕ} {m m' : Memory} → Same h m m' → Same h m' m
turned q = record { same_count = sym q.same_count; long = sym q.long; at = λ k n. let e = q.at k n in (sym e.0, sym e.1) }

-- the messages that stand are twins
pub twins : {h : ℕ} {m m' : Memory} → Same h m m' → Twins h m m'
twins q = record { same_count = q.same_count; at = λ t p l n. q.at (t - 1) (λ e. n (omega arith)) }

-- messages of one location and value are appended to both
same_append : (h : ℕ) (m m' : Memory) (w w' : Message) → Same h m m' → Twin w w' → Same h (append m w) (append m' w')
same_append h m m' w w' q e =
    record {
      same_count = ap (λ (n : ℕ). n + 1) q.same_count;
      long = length-set m.messages m.count w ∙ q.long ∙ sym (length-set m'.messages m'.count w');
      at = subst (λ (n : ℕ). (k : ℕ) → suc k ≢ h → Twin (get_or (set m.messages m.count w) k no_message) (get_or (set m'.messages n w') k no_message)) q.same_count
          (set_both (λ k x y. suc k ≢ h → Twin x y) no_message w w' m.messages m'.messages m.count q.long (λ k n. q.at k) (λ n. (refl, refl)) (λ n. e));
    }

-- with a message in the hole all are twins
pub same_filled : (h : ℕ) (m m' : Memory) (w : Message) → Same h m m' → 0 < h → h ≤ m.count → m.count ≤ 16 → length m.messages ≡ 16 → Twin (message_at m h) w → Same 17 m (fill m' h w)
same_filled h m m' w q pos low room places e =
    let count = q.same_count in
    let long' : length m'.messages ≡ 16 = sym q.long ∙ places in
    record {
      same_count = q.same_count;
      long = q.long ∙ sym (length-set m'.messages (h - 1) w);
      at = λ k n. go k (ℕ_discrete k (h - 1)) (omega arith);
    }
  where
    go : (k : ℕ) → Dec (k ≡ h - 1) → h - 1 < length m'.messages → Twin (get_or m.messages k no_message) (get_or (set m'.messages (h - 1) w) k no_message)
    go k (yes f) l =
        subst (λ (j : ℕ). Twin (get_or m.messages j no_message) (get_or (set m'.messages (h - 1) w) j no_message)) (sym f)
        (subst (Twin (get_or m.messages (h - 1) no_message)) (sym (get_or-set_same m'.messages (h - 1) w no_message l)) e)
    go k (no f) l =
        subst (Twin (get_or m.messages k no_message)) (sym (get_or-set_other m'.messages (h - 1) k w no_message f)) (q.at k (λ z. f (omega arith)))

-- the message of a store, of one thread and of another
own_other : (i j : ℕ) (s : Thread) (x : Instr) (w : Message) → message_of i s x ≡ some w → (w' : Message) × (message_of j s x ≡ some w') × Twin w w'
own_other i j s (Compute k r a b) w e = absurd (eqb-false 0 1 refl cc)
own_other i j s (Load k r a b) w e = absurd (eqb-false 0 1 refl cc)
own_other i j s (Store k a d) w e =
    let q : record { location = address (value_of s a); value = value_of s d; thread = i } ≡ w = cc in
    (record { location = address (value_of s a); value = value_of s d; thread = j }, refl, (ap (λ (z : Message). z.location) (sym q), ap (λ (z : Message). z.value) (sym q)))
own_other i j s (Branch n a b) w e = absurd (eqb-false 0 1 refl cc)
own_other i j s (Fence k) w e = absurd (eqb-false 0 1 refl cc)

-- what a store with its own message does on the one memory it does on the other, for whichever thread
pub own_carried : {h : ℕ} {m m' : Memory} → Same h m m' → m.count + 1 ≢ h → (i j : ℕ) (s : Thread) (x : Instr) (w : Message) → message_of i s x ≡ some w
    → {s' : Thread} → Effect (append m w) (append m w).count (add_promise (append m w) s) x s'
    → (w' : Message) × (message_of j s x ≡ some w') × Same h (append m w) (append m' w') × Effect (append m' w') (append m' w').count (add_promise (append m' w') s) x s'
own_carried {h} {m} {m'} q apart i j s x w gw {s'} f =
    let o = own_other i j s x w gw in
    let w' = o.0 in
    let q' = same_append h m m' w w' q o.2 in
    let f' = carry_store h (append m w) (append m' w') (twins q') i s x gw apart f in
    (w', o.1, q', subst (λ (n : ℕ). Effect (append m' w') (n + 1) (with_promises (with s.promises (n + 1)) s) x s') q.same_count f')

-- WHO STORED IS NEVER READ: on memories whose messages are twins a thread has the same certifying runs
pub same_run : {c : Code} {i : ℕ} (j : ℕ) {m m' : Memory} {s : Thread} → Same 17 m m' → m.count ≤ 16 → Certifying c i m s → Certifying c j m' s
same_run j q room (done e) = done e
same_run j {m} {m'} {s} q room (by x t s' g tl e r) =
    by x t s' g (subst (λ (c : ℕ). t ≤ c) q.same_count tl) (executes (carry_all (twins q) room (effect x m t s s' e))) (same_run j q room r)
same_run {c} {i} j {m} {m'} {s} q room (own x w s' g gw few e r) =
    let o = own_carried q (λ z. omega arith) i j s x w gw (effect x (append m w) (append m w).count (add_promise (append m w) s) s' e) in
    own x o.0 s' g o.1 (subst (λ (n : ℕ). n < 16) q.same_count few) (executes o.3) (same_run j o.2 (omega arith) r)

-- ---- the promise at time h, of number k, is outstanding, and is no forward time
pub record Open (h k : ℕ) (m : Memory) (s : Thread) : Type 0 where
  pub places : length m.messages ≡ 16
  pub room : m.count ≤ 16
  pub in_memory : h ≤ m.count
  pub out : T (has s.promises h)
  pub byte : (message_at m h).value < 256
  pub number : 256 * (message_at m h).location + (message_at m h).value ≡ k
  pub locations : length s.coherence ≡ 16
  pub no_forward : (l : ℕ) → (get_or s.forward l fresh_forward).time ≢ h

module _ (h k : ℕ) (m : Memory) (s : Thread) (d : Open h k m s) where
  -- it is so for another thread on the memory, by what is said of that thread
  kept : (s' : Thread) → T (has s'.promises h) → length s'.coherence ≡ 16 → ((l : ℕ) → (get_or s'.forward l fresh_forward).time ≢ h) → Open h k m s'
  kept s' p c n = record { places = d.places; room = d.room; in_memory = d.in_memory; out = p; byte = d.byte; number = d.number; locations = c; no_forward = n }

  -- no promise is at time 0
  pub positive : 0 < h
  positive = has_positive s.promises h d.out

  -- an instruction at another time leaves it so
  pub open_after : {u : ℕ} {x : Instr} {s' : Thread} → u ≢ h → Effect m u s x s' → Open h k m s'
  open_after n (computed e) = kept _ d.out d.locations d.no_forward
  open_after n (loaded r e) = kept _ d.out (length_raise s.coherence _ _ ∙ d.locations) d.no_forward
  open_after {u} n (stored p x y) =
      kept _ (has_without s.promises u h p.out n d.out) (length_raise s.coherence _ u ∙ d.locations)
      (set_all (λ (y : Forward). y.time ≢ h) fresh_forward _ s.forward _ d.no_forward n)
  open_after n (branched e) = kept _ d.out d.locations d.no_forward
  open_after n (fenced e) = kept _ d.out d.locations d.no_forward

  -- and so does a store with its own message
  pub open_own : {i : ℕ} {w : Message} {x : Instr} {s' : Thread} → m.count < 16 → Owned i m w s x s' → Open h k (append m w) s'
  open_own {i} {w} few (owned e) =
      let low : h ≤ m.count = d.in_memory in
      record {
        places = length-set m.messages m.count w ∙ d.places;
        room = omega arith;
        in_memory = omega arith;
        out = subst (λ (p : ℕ). T (has p h)) (sym (with_without s.promises (m.count + 1))) d.out;
        byte = subst (λ (z : Message). z.value < 256) (sym (message_stays m w h positive low)) d.byte;
        number = ap (λ (z : Message). 256 * z.location + z.value) (message_stays m w h positive low) ∙ d.number;
        locations = length_raise s.coherence _ _ ∙ d.locations;
        no_forward = set_all (λ (z : Forward). z.time ≢ h) fresh_forward _ s.forward _ d.no_forward (λ q. omega (arith, low));
      }

  -- a load of it raises the coherence view up to it
  read_high : (o : LoadMode) (a b : Operand) → (message_at m h).location ≡ load_location s a b
      → h ≤ view_at (raise_at s.coherence (load_location s a b) (load_post_view o s a b h)) (message_at m h).location
  read_high o a b at =
      let here = load_location s a b in
      let post = load_post_view o s a b h in
      let in_range_lem : here < length s.coherence = subst (λ (n : ℕ). here < n) (sym d.locations) (mod-lt (value_of s a + value_of s b) (lit< tt)) in
      let up : h ≤ post = subst (λ (n : ℕ). n ≤ post) (read_view_lem s here h (d.no_forward here)) (le-max_right _ (read_view s here h)) in
      subst (λ (n : ℕ). h ≤ view_at (raise_at s.coherence here post) n) (sym at) (le_trans up (raise_reaches s.coherence here post in_range_lem))

  -- an instruction at time h, after which the thread is certified, fills the hole on the other memory: one that reads the promise would put it out of reach
  at_hole : {c : Code} {i : ℕ} {m' : Memory} → Same h m m' → {x : Instr} {s' : Thread} → Effect m h s x s' → Certifying c i m s' → Fills c 0 x h k m' s
  at_hole q (computed e) r = let p = positive in absurd (omega arith)
  at_hole q (loaded {k = o} {r = n} {a} {b} rd low) r = absurd (dead_ends (record { in_memory = d.in_memory; out = d.out; high = read_high o a b (read_there m _ h positive rd) }) r)
  at_hole {c} {i} {m'} q {s' = s'} (stored {k = o} {a} {d = b} p pre low) r =
      let w : Message = record { location = address (value_of s a); value = value_of s b; thread = 0 } in
      let x = Store o a b in
      let full = fill m' h w in
      let room = d.room in
      let q' = same_filled h m m' w q positive d.in_memory room d.places (p.at_location, p.at_value) in
      let f = carry_all (twins q') room (stored {k = o} {a = a} {d = b} p pre low) in
      record {
        message = w;
        is_own = refl;
        byte = subst (λ (y : ℕ). y < 256) p.at_value d.byte;
        number = ap₂ (λ (x y : ℕ). 256 * x + y) (sym p.at_location) (sym p.at_value) ∙ d.number;
        keeps = onward_next (certified c 0 full) (execute x full h s) _ (executes f) ((certified_iff c 0 full _).1 (same_run 0 q' room r));
      }
  at_hole q (branched e) r = let p = positive in absurd (omega arith)
  at_hole q (fenced e) r = let p = positive in absurd (omega arith)

-- ---- the second memory has a hole at time h: a message at no location
abbrev pub Hole : ℕ → Memory → Type 0
Hole h m = (message_at m h).location ≡ 16

-- it stays one when a message is appended after it
pub hole_stays : {h : ℕ} (m : Memory) (w : Message) → 0 < h → h ≤ m.count → Hole h m → Hole h (append m w)
hole_stays {h} m w pos low z = ap (λ (y : Message). y.location) (message_stays m w h pos low) ∙ z

-- ---- along a run on m: the exploration follows it on m' up to the store that fulfils the promise
explored_run : {c : Code} {i h k : ℕ} {m m' : Memory} {s : Thread} → Same h m m' → Hole h m' → Open h k m s → Certifying c i m s → Meets c 0 m' s h k
explored_run {h = h} {s = s} q z d (done e) = absurd (has_none s.promises h e d.out)
explored_run {c} {i} {h} {k} {m} {m'} {s} q z d (by x t s' g tl e r) =
    let f = effect x m t s s' e in
    elim (ℕ_discrete t h) [
      | yes p ↦ done (inr (x, g, at_hole h k m s d q (subst (λ (u : ℕ). Effect m u s x s') p f) r))
      | no n ↦
          let f' = ⊎_elim (λ y. y) (λ p. let low = p.location in absurd (omega arith)) (carry h m m' (twins q) n f) in
          by x t s' g (subst (λ (c : ℕ). t ≤ c) q.same_count tl) (executes f') (explored_run q z (open_after h k m s d n f) r)
    ]
explored_run {c} {i} {h} {k} {m} {m'} {s} q z d (own x w s' g gw few e r) =
    let f = effect x (append m w) (append m w).count (add_promise (append m w) s) s' e in
    let low = d.in_memory in
    let o = own_carried q (λ y. omega arith) i 0 s x w gw f in
    own x o.0 s' g o.1 (subst (λ (n : ℕ). n < 16) q.same_count few) (executes o.3)
    (explored_run o.2 (hole_stays m' o.0 (positive h k m s d) (subst (λ (n : ℕ). h ≤ n) q.same_count low) z) (open_own h k m s d few (own_effect i m w s gw f)) r)

-- ---- a promise (l, v) that thread i makes now, and the hole in its place
module _ (i l v : ℕ) (m : Memory) where
  -- the memory with it
  abbrev pub promise : Memory
  promise = append m (record { location = l; value = v; thread = i })

  -- the memories are the same but at its time
  pub promise_same : Same (m.count + 1) promise (append m hole)
  promise_same =
      record {
        same_count = refl;
        long = length-set m.messages m.count _ ∙ sym (length-set m.messages m.count hole);
        at = set_both (λ k a b. suc k ≢ m.count + 1 → Twin a b) no_message _ hole m.messages m.messages m.count refl (λ k n o. (refl, refl)) (λ o. (refl, refl))
            (λ o. absurd (o (omega arith)));
      }

  module _ (s : Thread) (ok : Sound m s) (few : m.count < 16) where
    -- what is appended now is at the time after the last
    newest : (w : Message) → message_at (append m w) (m.count + 1) ≡ w
    newest w = message_new m w (subst (λ (n : ℕ). m.count < n) (sym ok.places) few)

    -- the hole is one
    pub promise_hole : Hole (m.count + 1) (append m hole)
    promise_hole = ap (λ (z : Message). z.location) (newest hole)

    -- the promise is outstanding
    pub promise_open : v < 256 → Open (m.count + 1) (256 * l + v) promise (add_promise promise s)
    promise_open small =
        record {
          places = length-set m.messages m.count _ ∙ ok.places;
          room = omega arith;
          in_memory = omega arith;
          out = has_with s.promises m.count ok.promises_in;
          byte = subst (λ (z : Message). z.value < 256) (sym (newest _)) small;
          number = ap (λ (z : Message). 256 * z.location + z.value) (newest _);
          locations = ok.locations;
          no_forward = λ k q. let le = ok.forwards k in omega arith;
        }

-- EXPLORATION LEAVES OUT NOTHING: a promise (l, v) after which the thread is certified is one that the exploration reaches
pub explored_law : (c : Code) (i l v : ℕ) (m : Memory) (s : Thread) → Sound m s → v < 256 → m.count < 16
    → T (certified c i (append m (record { location = l; value = v; thread = i })) (add_promise (append m (record { location = l; value = v; thread = i })) s))
    → Fillable c m s (256 * l + v)
explored_law c i l v m s ok small few h =
    let m' = promise i l v m in
    explored_run (promise_same i l v m) (promise_hole i l v m s ok few) (promise_open i l v m s ok few small) ((certified_iff c i m' (add_promise m' s)).0 h)
