-- The candidate law: a promise after which the thread is certified is a store that the thread could come to without views and promises.
-- Assumes nothing.
use mathlib.Core.Path.{◌≡◌, refl, sym, ap, ap₂, ◌∙◌, subst, subst₂}
use mathlib.Core.Logic.{⊎_elim, ◌≢◌}
use mathlib.Core.Bool.{Bool, true, false, cond, ◌&&◌}
use mathlib.Core.List.{List, map}
use mathlib.Core.Option.{Option, some}
use Prim.Native.Nat.{ℕ, zero, suc, ◌+◌, ◌≤◌, ◌<◌}
use native.Mathlib.Nat.{le_trans, le-max_right, mod-lt}
use native.Mathlib.Decide.{ℕ_discrete}
use native.Mathlib.Omega.{arith}
use lib.Dec.{T, eqb, leb, eqb→eq, leb→le, lit<}
use lib.ListN.{length, get_or, set, length-set, get_or-map}
use borrow.Author.Tests.{ne_eqb}
use Rattle.theory_views.specs.Views.{view_at, raise_at}
use Rattle.theory_views.proofs.Entries.{set_all, map-set}
use Rattle.theory_views.proofs.Merging.{length_raise, raise_reaches}
use Rattle.program.proofs.Tests.{or_cases, and_left, and_right}
use Rattle.program.proofs.Counts.{there}
use Rattle.machine.specs.State.{message_at, append, has, fresh_register, fresh_forward}
use Rattle.machine.specs.Rules.{value_of, address, combine, branch_by, readable, read_value, read_view, add_promise}
use Rattle.machine.proofs.Sets.{has_positive, has_none, has_without, has_with, with_without}
use Rattle.machine.proofs.Memories.{message_stays, message_new}
use Rattle.machine.proofs.Effects.{load_location, load_post_view, Effect, computed, loaded, stored, branched, fenced, effect, moves}
use Rattle.certify_runs.specs.Below.{Code, Operand, Constant, OfRegister, LoadMode, Instr, Message, Memory, Register, Forward, Thread}
use Rattle.certify_runs.specs.Certify.{certified}
use Rattle.certify_runs.specs.Runs.{done, by, own, Certifying}
use Rattle.certify_runs.specs.Inner.{Sound}
use Rattle.certify_runs.proofs.Iff.{certified_iff}
use Rattle.certify_runs.proofs.Fit.{Owned, owned, own_effect}
use Rattle.certify_runs.proofs.Dead.{Dead, dead_ends}
use Rattle.certify_runs.proofs.Candidates.{Write, is_in, insert, writes_up_to, values, value_in, read_each, relaxed, stores_reached, candidates, in_here, in_there, read_zero, read_in, writes_seen}

value_same : (s : Thread) (a : Operand) → value_of s a ≡ value_in (values s) a
value_same s (Constant n) = refl
value_same s (OfRegister r) = sym (get_or-map (λ (x : Register). x.value) s.registers r fresh_register)

values_set : (s : Thread) (r n w : ℕ) → map (λ (x : Register). x.value) (set s.registers r (record { value = n; view = w })) ≡ set (values s) r n
values_set s r n w = map-set (λ (x : Register). x.value) s.registers r (record { value = n; view = w })

-- the write of a store, as the run without views has it
abbrev written : Thread → Operand → Operand → Write
written s a d = record { location = address (value_in (values s) a); value = value_in (values s) d }

-- time 0 holds 0
pub read_none : (m : Memory) → read_value m 0 ≡ 0
unfolding read_value
read_none m = refl

-- a time that is not 0 holds the value of its message
pub read_value_lem : (m : Memory) (t : ℕ) → 0 < t → read_value m t ≡ (message_at m t).value
unfolding read_value
read_value_lem m t h = rw (ne_eqb t 0 (λ e. omega arith))

-- a time that is not the forward time is read with itself as the view
pub read_view_lem : (s : Thread) (l t : ℕ) → (get_or s.forward l fresh_forward).time ≢ t → read_view s l t ≡ t
read_view_lem s l t n = go (eqb t (get_or s.forward l fresh_forward).time) refl
  where
    go : (b : Bool) → eqb t (get_or s.forward l fresh_forward).time ≡ b → cond b (get_or s.forward l fresh_forward).view t ≡ t
    go true e = absurd (n (sym (eqb→eq t (get_or s.forward l fresh_forward).time (subst T (sym e) tt))))
    go false e = refl

-- the promise at time t, of location l and value v, is outstanding, and is no forward time; ws holds all other messages
record Live (t l v : ℕ) (m : Memory) (s : Thread) (ws : List Write) : Type 0 where
  in_memory : t ≤ m.count
  out : T (has s.promises t)
  at_location : (message_at m t).location ≡ l
  at_value : (message_at m t).value ≡ v
  places : length m.messages ≡ 16
  locations : length s.coherence ≡ 16
  no_forward : (k : ℕ) → (get_or s.forward k fresh_forward).time ≢ t
  seen : (u : ℕ) → 0 < u → u ≤ m.count → u ≢ t → T (is_in ws (message_at m u).location (message_at m u).value)

-- ---- one instruction of the run; g goes on from there in the run without views
module _ (t l v : ℕ) (g : ℕ → List ℕ → List Write → List Write) (m : Memory) (s : Thread) (ws : List Write) (d : Live t l v m s ws) where
  kept : (s' : Thread) → T (has s'.promises t) → length s'.coherence ≡ 16 → ((k : ℕ) → (get_or s'.forward k fresh_forward).time ≢ t) → Live t l v m s' ws
  kept s' p c n =
      record { in_memory = d.in_memory; out = p; at_location = d.at_location; at_value = d.at_value; places = d.places; locations = c; no_forward = n; seen = d.seen }

  -- a load of time t raises the coherence view up to t
  reaches : (k : LoadMode) (a b : Operand) (u : ℕ) → (message_at m u).location ≡ load_location s a b → u ≡ t
      → t ≤ view_at (raise_at s.coherence (load_location s a b) (load_post_view k s a b u)) (message_at m t).location
  reaches k a b u at same =
      let here = load_location s a b in
      let post = load_post_view k s a b u in
      let inside : here < length s.coherence = subst (λ (n : ℕ). here < n) (sym d.locations) (mod-lt (value_of s a + value_of s b) (lit< tt)) in
      let self = read_view_lem s here u (subst (λ (n : ℕ). (get_or s.forward here fresh_forward).time ≢ n) (sym same) (d.no_forward here)) in
      let up : t ≤ post = subst (λ (n : ℕ). n ≤ post) (self ∙ same) (le-max_right _ (read_view s here u)) in
      subst (λ (n : ℕ). t ≤ view_at (raise_at s.coherence here post) n) (sym at ∙ ap (λ (n : ℕ). (message_at m n).location) same)
      (le_trans up (raise_reaches s.coherence here post inside))

  -- the run without views reads what the load reads
  load_reads : (f : ℕ → List Write) (here u : ℕ) → T (readable m here u) → ((message_at m u).location ≡ here → u ≢ t) → T (is_in (f (read_value m u)) l v) → T (is_in (read_each ws here f) l v)
  unfolding readable
  load_reads f here zero r other q = read_zero f here l v ws (rw (read_none m) at q)
  load_reads f here (suc u) r other q =
      let le = leb (suc u) m.count in
      let at = eqb (message_at m (suc u)).location here in
      ⊎_elim (λ z. let n = eqb→eq (suc u) 0 z in absurd (omega arith))
      (λ w. let lc = eqb→eq (message_at m (suc u)).location here (and_right le at w) in
      read_in f here l v (message_at m (suc u)).value ws
      (subst (λ (n : ℕ). T (is_in ws n (message_at m (suc u)).value)) lc (d.seen (suc u) (omega arith) (leb→le (suc u) m.count (and_left le at w)) (other lc)))
      (rw (read_value_lem m (suc u) (omega arith)) at q))
      (or_cases (eqb (suc u) 0) (le && at) r)

  law_by : {u : ℕ} {x : Instr} {s' : Thread} → Effect m u s x s' → (Dead t m s' → ⊥)
      → ((ws' : List Write) → Live t l v m s' ws' → T (is_in (g s'.position (values s') ws') l v)) → T (is_in (relaxed g s.position (values s) ws (some x)) l v)
  unfolding relaxed
  law_by (computed {k} {r} {a} {b} e) alive rec =
      subst (λ (vs : List ℕ). T (is_in (g (s.position + 1) vs ws) l v))
      (values_set s r _ _ ∙ ap (λ (n : ℕ). set (values s) r n) (ap₂ (combine k) (value_same s a) (value_same s b)))
      (rec ws (kept _ d.out d.locations d.no_forward))
  law_by {u} (loaded {k} {r} {a} {b} rd n) alive rec =
      let f : ℕ → List Write = λ n. g (s.position + 1) (set (values s) r n) ws in
      let q = rec ws (kept _ d.out (length_raise s.coherence _ _ ∙ d.locations) d.no_forward) in
      let q' : T (is_in (f (read_value m u)) l v) = subst (λ (vs : List ℕ). T (is_in (g (s.position + 1) vs ws) l v)) (values_set s r _ _) q in
      subst₂ (λ (x y : ℕ). T (is_in (read_each ws (address (x + y)) f) l v)) (value_same s a) (value_same s b)
      (load_reads f (load_location s a b) u rd (λ at same. alive (record { in_memory = d.in_memory; out = d.out; high = reaches k a b u at same })) q')
  law_by {u} (stored {k} {a} {d = b} p pre low) alive rec = go (ℕ_discrete u t)
    where
      w : Write
      w = written s a b

      go : Dec (u ≡ t) → T (is_in (insert w (g (s.position + 1) (values s) (insert w ws))) l v)
      go (yes same) =
          in_here w (g (s.position + 1) (values s) (insert w ws)) l v
          (sym (ap address (value_same s a)) ∙ sym p.at_location ∙ ap (λ (n : ℕ). (message_at m n).location) same ∙ d.at_location)
          (sym (value_same s b) ∙ sym p.at_value ∙ ap (λ (n : ℕ). (message_at m n).value) same ∙ d.at_value)
      go (no other) =
          in_there w (g (s.position + 1) (values s) (insert w ws)) l v
          (rec (insert w ws)
          (record {
            in_memory = d.in_memory;
            out = has_without s.promises u t p.out other d.out;
            at_location = d.at_location;
            at_value = d.at_value;
            places = d.places;
            locations = length_raise s.coherence _ u ∙ d.locations;
            no_forward = set_all (λ (y : Forward). y.time ≢ t) fresh_forward _ s.forward _ d.no_forward other;
            seen = λ n a0 an nt. in_there w ws _ _ (d.seen n a0 an nt);
          }))
  law_by (branched {n} {a} {b} e) alive rec =
      subst₂ (λ (x y : ℕ). T (is_in (g (s.position + branch_by (eqb x y) n) (values s) ws) l v)) (value_same s a) (value_same s b)
      (rec ws (kept _ d.out d.locations d.no_forward))
  law_by (fenced e) alive rec = rec ws (kept _ d.out d.locations d.no_forward)

  -- a store with its own message
  law_own : {i : ℕ} {w : Message} {x : Instr} {s' : Thread} → Owned i m w s x s' → m.count < 16
      → ((ws' : List Write) → Live t l v (append m w) s' ws' → T (is_in (g s'.position (values s') ws') l v)) → T (is_in (relaxed g s.position (values s) ws (some x)) l v)
  unfolding relaxed
  law_own {i} {w} (owned {k} {a} {d = b} e) few rec =
      in_there y (g (s.position + 1) (values s) (insert y ws)) l v
      (rec (insert y ws)
      (record {
        in_memory = omega (arith, low);
        out = subst (λ (p : ℕ). T (has p t)) (sym (with_without s.promises (m.count + 1))) d.out;
        at_location = ap (λ (z : Message). z.location) stays ∙ d.at_location;
        at_value = ap (λ (z : Message). z.value) stays ∙ d.at_value;
        places = length-set m.messages m.count w ∙ d.places;
        locations = length_raise s.coherence _ _ ∙ d.locations;
        no_forward = set_all (λ (z : Forward). z.time ≢ t) fresh_forward _ s.forward _ d.no_forward (λ q. omega (arith, low));
        seen = λ n n0 nm nt. go n n0 nm nt (ℕ_discrete n (m.count + 1));
      }))
    where
      y : Write
      y = written s a b

      low : t ≤ m.count
      low = d.in_memory

      stays : message_at (append m w) t ≡ message_at m t
      stays = message_stays m w t (has_positive s.promises t d.out) low

      newest : message_at (append m w) (m.count + 1) ≡ w
      newest = message_new m w (subst (λ (n : ℕ). m.count < n) (sym d.places) few)

      go : (n : ℕ) → 0 < n → n ≤ m.count + 1 → n ≢ t → Dec (n ≡ m.count + 1)
          → T (is_in (insert y ws) (message_at (append m w) n).location (message_at (append m w) n).value)
      go n n0 nm nt (yes q) =
          let made = sym e ∙ sym newest ∙ ap (message_at (append m w)) (sym q) in
          in_here y ws _ _ (sym (ap address (value_same s a)) ∙ ap (λ (z : Message). z.location) made) (sym (value_same s b) ∙ ap (λ (z : Message). z.value) made)
      go n n0 nm nt (no q) =
          let le : n ≤ m.count = omega arith in
          in_there y ws _ _ (subst (λ (z : Message). T (is_in ws z.location z.value)) (sym (message_stays m w n n0 le)) (d.seen n n0 le nt))

-- ---- along the run, within as many instructions as the thread has left
law_run : (n : ℕ) {c : Code} {i t l v : ℕ} {m : Memory} {s : Thread} {ws : List Write} → Live t l v m s ws → Certifying c i m s → c.count ≤ n + s.position
    → T (is_in (stores_reached n c s.position (values s) ws) l v)
unfolding stores_reached
law_run zero {t = t} {s = s} d (done e) le = absurd (has_none s.promises t e d.out)
law_run zero {c} {s = s} d (by x u s' q tl e r) le = let h = (there c s.position x q).0 in absurd (omega arith)
law_run zero {c} {s = s} d (own x w s' q qw few e r) le = let h = (there c s.position x q).0 in absurd (omega arith)
law_run (suc n) {t = t} {s = s} d (done e) le = absurd (has_none s.promises t e d.out)
law_run (suc n) {c} {i} {t} {l} {v} {m} {s} {ws} d (by x u s' q tl e r) le =
    let h = effect x m u s s' e in
    let k = moves h in
    subst (λ (o : Option Instr). T (is_in (relaxed (stores_reached n c) s.position (values s) ws o) l v)) (sym q)
    (law_by t l v (stores_reached n c) m s ws d h (λ dead. dead_ends dead r) (λ ws' d'. law_run n d' r (omega arith)))
law_run (suc n) {c} {i} {t} {l} {v} {m} {s} {ws} d (own x w s' q qw few e r) le =
    let h = effect x (append m w) (append m w).count (add_promise (append m w) s) s' e in
    let k = moves h in
    subst (λ (o : Option Instr). T (is_in (relaxed (stores_reached n c) s.position (values s) ws o) l v)) (sym q)
    (law_own t l v (stores_reached n c) m s ws d (own_effect i m w s qw h) few (λ ws' d'. law_run n d' r (omega arith)))

-- THE CANDIDATE LAW: a promise after which the thread is certified is one of the candidates
pub candidate_law : (c : Code) (i l v : ℕ) (m : Memory) (s : Thread) → Sound m s → m.count < 16
    → T (certified c i (append m (record { location = l; value = v; thread = i })) (add_promise (append m (record { location = l; value = v; thread = i })) s))
    → T (is_in (candidates c m s) l v)
unfolding candidates
candidate_law c i l v m s ok few h =
    law_run c.count
    (record {
      in_memory = omega arith;
      out = has_with s.promises m.count ok.promises_in;
      at_location = ap (λ (z : Message). z.location) newest;
      at_value = ap (λ (z : Message). z.value) newest;
      places = length-set m.messages m.count w ∙ ok.places;
      locations = ok.locations;
      no_forward = λ k q. let le = ok.forwards k in omega arith;
      seen = λ u u0 um ut. let le : u ≤ m.count = omega arith in
          subst (λ (z : Message). T (is_in (writes_up_to m m.count) z.location z.value)) (sym (message_stays m w u u0 le)) (writes_seen m m.count u u0 le);
    })
    ((certified_iff c i (append m w) (add_promise (append m w) s)).0 h) (omega arith)
  where
    w : Message
    w = record { location = l; value = v; thread = i }

    newest : message_at (append m w) (m.count + 1) ≡ w
    newest = message_new m w (subst (λ (n : ℕ). m.count < n) (sym ok.places) few)
