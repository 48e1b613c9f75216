-- What is lost is never written: a promise that is lost is not fulfilled, and the hole is not filled.
-- Assumes nothing.
use mathlib.Core.Path.{◌≡◌, refl, sym, ap, ◌∙◌, subst}
use mathlib.Core.Logic.{inl, inr, ⊎_elim}
use mathlib.Core.Option.{some, some-injective}
use Prim.Native.Nat.{ℕ, ◌-◌, ◌≤◌, ◌<◌}
use native.Mathlib.Omega.{arith}
use lib.Dec.{T}
use lib.Seq.{get_or-set_other}
use Rattle.program.specs.Program.{instr_at}
use Rattle.machine.specs.State.{no_message, message_at, append, has, with}
use Rattle.machine.specs.Rules.{next, value_of, view_of, store_pre, execute, add_promise}
use Rattle.machine.proofs.Sets.{has_positive, has_none, has_without}
use Rattle.machine.proofs.Memories.{message_stays}
use Rattle.machine.proofs.Effects.{store_location, Effect, computed, loaded, stored, branched, fenced, effect}
use Rattle.certify_runs.specs.Below.{Code, Operand, StoreMode, Instr, Compute, Load, Store, Branch, Fence, Message, Memory, Thread}
use Rattle.certify_runs.specs.Certify.{message_of, certified}
use Rattle.certify_runs.specs.Runs.{Comes, done, by, own}
use Rattle.certify_runs.proofs.Iff.{onward_inv, certified_iff}
use Rattle.certify_runs.proofs.Fit.{no_message_lem, own_effect, own_leaves}
use Rattle.certify_cares.specs.declared.Cares.{Cares}
use Rattle.certify_lost.specs.declared.wanted.Wanted.{Wanted}
use Rattle.certify_lost.specs.Lost.{Goes, start, Fits, Misses, late, elsewhere, other, Lost, Above, Filling, PromiseLost, HoleLost, Fruitless}
use Rattle.certify_lost.proofs.Lower.{store_pre_low}
use Rattle.certify_lost.proofs.Going.{lower_self, arrives_from}
use Rattle.certify_under.specs.Under.{Rests}
use Rattle.certify_sought.specs.declared.Sought.{Sought}
use Rattle.certify_sought.specs.Numbers.{Unmet}
use Rattle.certify_sought.specs.Aim.{fill, Aim, Meets}
use Rattle.certify.specs.Search.{Found}
use Rattle.certify.proofs.Finding.{found_none}
use Rattle.certify.proofs.Filling.{fills_out}

-- ---- what is lost stays lost
-- after an instruction
goes_by : {c : Code} (m : Memory) (t : ℕ) (x : Instr) (s s' : Thread) → instr_at c s.position ≡ some x → execute x m t s ≡ next s' → Goes c s s'
goes_by m t x s s' g e = record { memory = m; time = t; promises = s.promises; instr = x; is_next = g; does = e }

-- and after a store with a message of its own
goes_own : {c : Code} (m : Memory) (t : ℕ) (x : Instr) (s s' : Thread) → instr_at c s.position ≡ some x → execute x m t (add_promise m s) ≡ next s' → Goes c s s'
goes_own m t x s s' g e = record { memory = m; time = t; promises = with s.promises m.count; instr = x; is_next = g; does = e }

lost_after : {c : Code} {s s' : Thread} {w : Wanted} → Goes c s s' → Lost c s w → Lost c s' w
lost_after g lost y a = lost y (arrives_from g a)

-- where the goal is nowhere while something holds that instructions keep, it is not come to
never_comes : {Goal : Memory → Thread → Type 0} {Room : Memory → Type 0} {c : Code} {i : ℕ} (Holds : Memory → Thread → Type 0) → ((m : Memory) (s : Thread) → Holds m s → Goal m s → ⊥)
    → ((m : Memory) (t : ℕ) (x : Instr) (s s' : Thread) → Holds m s → instr_at c s.position ≡ some x → execute x m t s ≡ next s' → Holds m s')
    → ((m : Memory) (v : Message) (x : Instr) (s s' : Thread) → Holds m s → instr_at c s.position ≡ some x → message_of i s x ≡ some v → execute x (append m v) (append m v).count (add_promise (append m v) s) ≡ next s' → Holds (append m v) s')
    → {m : Memory} {s : Thread} → Holds m s → Comes Goal Room c i m s → ⊥
never_comes Holds never keeps keeps-own {m} {s} h (done a) = never m s h a
never_comes Holds never keeps keeps-own {m} {s} h (by x t s' g tl e r) = never_comes Holds never keeps keeps-own (keeps m t x s s' h g e) r
never_comes Holds never keeps keeps-own {m} {s} h (own x v s' g gv room e r) = never_comes Holds never keeps keeps-own (keeps-own m v x s s' h g gv e) r

-- ---- a message that is missed
-- a store that misses it does not write it
misses_time : {w : Wanted} {t : ℕ} {s : Thread} {k : StoreMode} {a d : Operand} → Misses w s k a d → store_pre k (view_of s a) (view_of s d) s.views < t → t ≡ w.time → Fits w (store_location s a) (value_of s d) → ⊥
misses_time {s = s} {k} {a} {d} (late h) low e f =
    let l = store_pre_low k 0 (view_of s a) 0 (view_of s d) s.views s.views (omega arith) (omega arith) (lower_self s.views) in
    omega arith
misses_time (elsewhere n) low e f = n f.0
misses_time (other n) low e f = n f.1

-- ---- promises
-- the promise of a message that is wanted is outstanding, and lost
record Losing (c : Code) (w : Wanted) (m : Memory) (s : Thread) : Type 0 where
  in_memory : w.time ≤ m.count
  out : T (has s.promises w.time)
  fits : Fits w (message_at m w.time).location (message_at m w.time).value
  lost : Lost c s w

module _ {c : Code} {w : Wanted} {m : Memory} {s : Thread} (o : Losing c w m s) where
  -- an instruction leaves it outstanding
  out_after : {t : ℕ} {x : Instr} {s' : Thread} → instr_at c s.position ≡ some x → Effect m t s x s' → T (has s'.promises w.time)
  out_after g (computed e) = o.out
  out_after g (loaded r n) = o.out
  out_after {t} g (stored {k} {a} {d} p pre below) =
      has_without s.promises t w.time p.out (λ e.
      let at = ap (message_at m) (sym e) in
      let here = ap (λ (v : Message). v.location) at ∙ p.at_location in
      let value = ap (λ (v : Message). v.value) at ∙ p.at_value in
      misses_time (o.lost s start k a d g) pre e (rw (here, value) at o.fits)) o.out
  out_after g (branched e) = o.out
  out_after g (fenced e) = o.out

  -- and lost
  losing_by : (t : ℕ) (x : Instr) (s' : Thread) → instr_at c s.position ≡ some x → execute x m t s ≡ next s' → Losing c w m s'
  losing_by t x s' g e = record { in_memory = o.in_memory; out = out_after g (effect x m t s s' e); fits = o.fits; lost = lost_after (goes_by m t x s s' g e) o.lost }

  -- so does a store with its own message
  losing_own : (i : ℕ) (v : Message) (x : Instr) (s' : Thread) → instr_at c s.position ≡ some x → message_of i s x ≡ some v
      → execute x (append m v) (append m v).count (add_promise (append m v) s) ≡ next s' → Losing c w (append m v) s'
  losing_own i v x s' g gv e =
      let known = o.in_memory in
      let h = effect x (append m v) (append m v).count (add_promise (append m v) s) s' e in
      let stays = message_stays m v w.time (has_positive s.promises w.time o.out) known in
      record {
        in_memory = omega arith;
        out = subst (λ (p : ℕ). T (has p w.time)) (sym (own_leaves (own_effect i m v s gv h))) o.out;
        fits = subst (λ (u : Message). Fits w u.location u.value) (sym stays) o.fits;
        lost = lost_after (goes_own (append m v) (append m v).count x s s' g e) o.lost;
      }

  -- and so does a message in the hole, which is at another time
  losing_fill : {h : ℕ} (v : Message) → 0 < h → (h ≡ w.time → ⊥) → Losing c w (fill m h v) s
  losing_fill {h} v low n =
      let positive = has_positive s.promises w.time o.out in
      let stays = get_or-set_other m.messages (h - 1) (w.time - 1) v no_message (λ e. n (omega arith)) in
      record { in_memory = o.in_memory; out = o.out; fits = subst (λ (u : Message). Fits w u.location u.value) (sym stays) o.fits; lost = o.lost }

-- the promise set is not empty
not_empty : {c : Code} {w : Wanted} (m : Memory) (s : Thread) → Losing c w m s → s.promises ≡ 0 → ⊥
not_empty {w = w} m s o e = has_none s.promises w.time e o.out

-- nor is it once the hole is filled
never_aim : {c : Code} {i h k : ℕ} {w : Wanted} → (h ≡ w.time → ⊥) → (m : Memory) (s : Thread) → Losing c w m s → Aim c i h k m s → ⊥
never_aim n m s o (inl e) = not_empty m s o e.2
never_aim {c} {i} {h} {k} {w} n m s o (inr (x, g, f)) =
    let m' = fill m h f.message in
    let q = onward_inv (certified c i m') (execute x m' h s) f.keeps in
    let filled = losing_fill o f.message (has_positive s.promises h (fills_out f)) n in
    never_comes (Losing c w) not_empty (λ m t x s s' l. losing_by l t x s') (λ m v x s s' l. losing_own l i v x s') (losing_by filled h x q.0 g q.1) ((certified_iff c i m' q.0).0 q.2)

-- LOST: a promise that is lost is never fulfilled
promise_law : (c : Code) (i : ℕ) (m : Memory) (s : Thread) (w : Wanted) (h k : ℕ) → Losing c w m s → (h ≡ w.time → ⊥) → Meets c i m s h k → ⊥
promise_law c i m s w h k o n r = never_comes (Losing c w) (never_aim n) (λ m t x s s' l. losing_by l t x s') (λ m v x s s' l. losing_own l i v x s') o r

-- ---- the hole
-- the store's own message is not one that is missed
own_missed : (i : ℕ) {w : Wanted} {m : Memory} {t : ℕ} {v : Message} {s : Thread} {x : Instr} {y : Thread} → message_of i s x ≡ some v → Effect m t s x y
    → ((k : StoreMode) (a d : Operand) → x ≡ Store k a d → Misses w s k a d) → t ≡ w.time → Fits w v.location v.value → ⊥
own_missed i g (computed e) misses at f = no_message_lem g
own_missed i g (loaded r n) misses at f = no_message_lem g
own_missed i {w} g (stored {k} {a} {d} p pre below) misses at f =
    misses_time (misses k a d refl) pre at (subst (λ (u : Message). Fits w u.location u.value) (sym (some-injective _ _ g)) f)
own_missed i g (branched e) misses at f = no_message_lem g
own_missed i g (fenced e) misses at f = no_message_lem g

-- it is to one of the locations
own_place : (i : ℕ) (s : Thread) (x : Instr) (v : Message) → message_of i s x ≡ some v → v.location < 16
own_place i s (Compute k r a b) v g = absurd (no_message_lem g)
own_place i s (Load k r a b) v g = absurd (no_message_lem g)
own_place i s (Store k a d) v g = let e = ap (λ (u : Message). u.location) (some-injective _ _ g) in omega arith
own_place i s (Branch n a b) v g = absurd (no_message_lem g)
own_place i s (Fence k) v g = absurd (no_message_lem g)

-- LOST: a hole that no store ahead can fill is never filled
hole_law : (c : Code) (i : ℕ) (m : Memory) (s : Thread) (w : Wanted) (h from top k : ℕ) → (h ≡ 0 → ⊥) → Filling h from top w → from ≤ k → k < top → Lost c s w → Meets c i m s h k → ⊥
hole_law c i m s w h from top k there filling low high lost r = never_comes (λ m s. Lost c s w) never (λ m t x s s' l g e. lost_after (goes_by m t x s s' g e) l) (λ m v x s s' l g gv e. lost_after (goes_own (append m v) (append m v).count x s s' g e) l) lost r
  where
    never : (m : Memory) (s : Thread) → Lost c s w → Aim c i h k m s → ⊥
    never m s lost (inl e) = there e.0
    never m s lost (inr (x, g, f)) =
        let m' = fill m h f.message in
        let q = onward_inv (certified c i m') (execute x m' h s) f.keeps in
        let number = f.number in
        own_missed i f.is_own (effect x m' h s q.0 q.1) (λ j a d is. lost s start j a d (g ∙ ap some is)) (sym filling.at_hole)
        (filling.fits f.message.location f.message.value (own_place i s x f.message f.is_own) f.byte (omega arith) (omega arith))

-- ---- so a search finds nothing
pub fruitless_found : (c : Code) (i : ℕ) (m : Memory) (s : Thread) (q : Sought) (K : Cares) → Fruitless c m s q.hole q.from q.met.second K.of
    → Found q.from q.met (λ y k. Meets c i m y q.hole k) s (record { met = q.met; cares = K })
fruitless_found c i m s q K lost = found_none q.from q.met (λ y k. Meets c i m y q.hole k) s K (λ s' rests k unmet r. ⊎_elim (λ o. promised s' rests k r o) (λ o. filled s' rests k unmet r o) lost)
  where
    above : (s' : Thread) → Rests K.of s s' → Above s s'
    above s' rests = record { same_position = rests.under.same_position; views_low = rests.under.views_low }

    promised : (s' : Thread) → Rests K.of s s' → (k : ℕ) → Meets c i m s' q.hole k → PromiseLost c m s q.hole K.of → ⊥
    promised s' rests k r o =
        let out = subst (λ (p : ℕ). T (has p o.wanted.time)) rests.under.same_promises o.out in
        promise_law c i m s' o.wanted q.hole k (record { in_memory = o.in_memory; out = out; fits = o.fits; lost = o.lost s' (above s' rests) rests.agreeing }) o.no_hole r

    filled : (s' : Thread) → Rests K.of s s' → (k : ℕ) → Unmet q.from q.met k → Meets c i m s' q.hole k → HoleLost c s q.hole q.from q.met.second K.of → ⊥
    filled s' rests k unmet r o = hole_law c i m s' o.wanted q.hole q.from q.met.second k o.there o.filling unmet.0 unmet.1 (o.lost s' (above s' rests) rests.agreeing) r
