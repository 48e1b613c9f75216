-- The loadless law: where no load stands ahead, of the memory count only the messages that the thread has promised.
-- Assumes nothing.
use mathlib.Core.Path.{◌≡◌, refl, sym, ap, ◌∙◌, subst}
use mathlib.Core.Logic.{inl, inr, ◌≢◌}
use mathlib.Core.List.{List}
use mathlib.Core.Option.{some}
use Prim.Native.Nat.{ℕ, ◌+◌, ◌-◌, ◌≤◌}
use native.Mathlib.Omega.{arith}
use lib.Dec.{T}
use lib.ListN.{length, get_or, set, length-set}
use Rattle.theory_views.proofs.Entries.{set_both}
use Rattle.program.specs.Program.{instr_at}
use Rattle.machine.specs.State.{no_message, message_at, append, has, with, with_promises}
use Rattle.machine.specs.Rules.{execute, add_promise}
use Rattle.machine.proofs.Sets.{has_removed}
use Rattle.machine.proofs.Effects.{Effect, computed, loaded, stored, branched, fenced, effect, moves}
use Rattle.certify_runs.specs.Below.{Code, Operand, LoadMode, Instr, Load, Message, Memory, Thread}
use Rattle.certify_runs.specs.Certify.{certified}
use Rattle.certify_runs.specs.Runs.{Comes, done, by, own, Fewer}
use Rattle.certify_runs.proofs.Iff.{onward_inv, onward_next, certified_iff}
use Rattle.certify_runs.proofs.Fit.{own_effect, own_leaves}
use Rattle.certify_runs.proofs.Executes.{executes}
use Rattle.certify_ahead.specs.Loadless.{Loadless}
use Rattle.certify_sought.specs.Aim.{fill, Fills, Aim, Meets}

-- the same number of messages, and the same at the times of the set p
pub record Kept (m m' : Memory) (p : ℕ) : Type 0 where
  pub same_count : m.count ≡ m'.count
  pub same_length : length m.messages ≡ length m'.messages
  pub at_promises : (t : ℕ) → T (has p t) → message_at m t ≡ message_at m' t

-- ---- memories, a message put in
-- where w is put in both, entries that were the same are, and so are those at its place
put_both : (xs ys : List Message) (j : ℕ) (w : Message) → length xs ≡ length ys → (k : ℕ) → (k ≢ j → get_or xs k no_message ≡ get_or ys k no_message) → get_or (set xs j w) k no_message ≡ get_or (set ys j w) k no_message
put_both xs ys j w e k h =
    set_both (λ o a b. o ≡ k → a ≡ b) no_message w w xs ys j e (λ o n q. subst (λ (v : ℕ). v ≢ j → get_or xs v no_message ≡ get_or ys v no_message) (sym q) h n) (λ q. refl) (λ q. refl) k refl

module _ {m m' : Memory} {p : ℕ} (k : Kept m m' p) where
  -- of fewer times
  kept_less : {q : ℕ} → ((t : ℕ) → T (has q t) → T (has p t)) → Kept m m' q
  kept_less f = record { same_count = k.same_count; same_length = k.same_length; at_promises = λ t o. k.at_promises t (f t o) }

  -- with the same message put in at the same place
  put_in : (j : ℕ) (w : Message) (t : ℕ) → (t - 1 ≢ j → message_at m t ≡ message_at m' t) → get_or (set m.messages j w) (t - 1) no_message ≡ get_or (set m'.messages j w) (t - 1) no_message
  put_in j w t = put_both m.messages m'.messages j w k.same_length (t - 1)

  lengths : (j j' : ℕ) (w : Message) → length (set m.messages j w) ≡ length (set m'.messages j' w)
  lengths j j' w = length-set m.messages j w ∙ k.same_length ∙ sym (length-set m'.messages j' w)

  -- in the hole
  kept_fill : (h : ℕ) (w : Message) → Kept (fill m h w) (fill m' h w) p
  kept_fill h w = record { same_count = k.same_count; same_length = lengths (h - 1) (h - 1) w; at_promises = λ t o. put_in (h - 1) w t (λ n. k.at_promises t o) }

  -- or after all others
  append_in : (w : Message) (t : ℕ) → (t - 1 ≢ m.count → message_at m t ≡ message_at m' t) → message_at (append m w) t ≡ message_at (append m' w) t
  append_in w t h = put_in m.count w t h ∙ ap (λ (j : ℕ). get_or (set m'.messages j w) (t - 1) no_message) k.same_count

  kept_append : (w : Message) → Kept (append m w) (append m' w) p
  kept_append w = record { same_count = ap (λ (o : ℕ). o + 1) k.same_count; same_length = lengths m.count m'.count w; at_promises = λ t o. append_in w t (λ n. k.at_promises t o) }

-- ---- one instruction
-- it is no load
abbrev NoLoad : Instr → Type 0
NoLoad x = (how : LoadMode) (r : ℕ) (a b : Operand) → x ≡ Load how r a b → ⊥

-- an instruction that is no load executes alike where as many messages stand and the one at its time is the same
same_effect : {m m' : Memory} {t : ℕ} {s : Thread} {x : Instr} {y : Thread} → NoLoad x → m.count ≡ m'.count → (T (has s.promises t) → message_at m t ≡ message_at m' t) → Effect m' t s x y → Effect m t s x y
same_effect plain n e (computed z) = computed z
same_effect plain n e (loaded {k} {r} {a} {b} d z) = absurd (plain k r a b refl)
same_effect plain n e (stored p pre low) =
    let there = e p.out in
    let within = p.in_memory in
    stored (record { out = p.out; in_memory = omega arith; at_location = ap (λ (w : Message). w.location) there ∙ p.at_location; at_value = ap (λ (w : Message). w.value) there ∙ p.at_value }) pre low
same_effect plain n e (branched z) = branched z
same_effect plain n e (fenced z) = fenced z

-- what is promised after it was promised before
promised_before : {m : Memory} {t : ℕ} {s : Thread} {x : Instr} {y : Thread} → Effect m t s x y → (u : ℕ) → T (has y.promises u) → T (has s.promises u)
promised_before (computed z) u o = o
promised_before (loaded d n) u o = o
promised_before {t = t} {s = s} (stored p pre low) u o = (has_removed s.promises t u p.out o).0
promised_before (branched z) u o = o
promised_before (fenced z) u o = o

-- a store with its own message too
own_same : {m m' : Memory} {s : Thread} {x : Instr} {y : Thread} (w : Message) → NoLoad x → Kept m m' s.promises → Effect (append m' w) (append m' w).count (add_promise (append m' w) s) x y → Effect (append m w) (append m w).count (add_promise (append m w) s) x y
own_same {m} {m'} {s} {x} {y} w plain k f =
    same_effect plain (kept_append k w).same_count (λ o. append_in k w (m.count + 1) (λ n. absurd (n (omega arith))))
    (subst (λ (o : ℕ). Effect (append m' w) (o + 1) (with_promises (with s.promises (o + 1)) s) x y) (sym k.same_count) f)

-- ---- runs
module _ (c : Code) (i n : ℕ) (free : Loadless c n) where
  -- the thread's next instruction is no load
  no_load : (s : Thread) {x : Instr} → n ≤ s.position → instr_at c s.position ≡ some x → NoLoad x
  no_load s le g how r a b e = free s.position le how r a b (g ∙ ap some e)

  -- what a thread alone can come to it can come to on the other memory, if the goal passes to it
  loadless_comes : {Goal : Memory → Thread → Type 0} → ((m m' : Memory) (s : Thread) → n ≤ s.position → Kept m m' s.promises → Goal m' s → Goal m s)
      → {m m' : Memory} {s : Thread} → n ≤ s.position → Kept m m' s.promises → Comes Goal Fewer c i m' s → Comes Goal Fewer c i m s
  loadless_comes pass {m} {m'} {s} le k (done g) = done (pass m m' s le k g)
  loadless_comes pass {m} {m'} {s} le k (by x t y g tl e r) =
      let f = effect x m' t s y e in
      let on = moves f in
      let count = k.same_count in
      by {m = m} x t y g (omega arith) (executes (same_effect (no_load s le g) count (k.at_promises t) f)) (loadless_comes pass (omega arith) (kept_less k (promised_before f)) r)
  loadless_comes pass {m} {m'} {s} le k (own x w y g gw room e r) =
      let f = effect x (append m' w) (append m' w).count (add_promise (append m' w) s) y e in
      let on = moves f in
      let count = k.same_count in
      own {m = m} x w y g gw (omega arith) (executes (own_same w (no_load s le g) k f))
      (loadless_comes pass {m = append m w} (omega arith) (subst (Kept (append m w) (append m' w)) (sym (own_leaves (own_effect i m' w s gw f))) (kept_append k w)) r)

  -- so it is for certification
  loadless_certified : {m m' : Memory} (s : Thread) → n ≤ s.position → Kept m m' s.promises → T (certified c i m' s) → T (certified c i m s)
  loadless_certified {m} {m'} s le k t = (certified_iff c i m s).1 (loadless_comes (λ m m' s le k e. e) le k ((certified_iff c i m' s).0 t))

  -- and for a store that fills the hole
  loadless_fills : {x : Instr} {h j : ℕ} {m m' : Memory} {s : Thread} → n ≤ s.position → instr_at c s.position ≡ some x → Kept m m' s.promises → Fills c i x h j m' s → Fills c i x h j m s
  loadless_fills {x} {h} {j} {m} {m'} {s} le g k f =
      let w = f.message in
      let q = onward_inv (certified c i (fill m' h w)) (execute x (fill m' h w) h s) f.keeps in
      let d = effect x (fill m' h w) h s q.0 q.1 in
      let on = moves d in
      let filled = kept_fill k h w in
      let does = executes (same_effect (no_load s le g) filled.same_count (filled.at_promises h) d) in
      record {
        message = w;
        is_own = f.is_own;
        byte = f.byte;
        number = f.number;
        keeps = onward_next (certified c i (fill m h w)) (execute x (fill m h w) h s) q.0 does (loadless_certified q.0 (omega arith) (kept_less filled (promised_before d)) q.2);
      }

-- THE LOADLESS LAW: where no load stands at the thread's position or after it, it comes to the same on memories with as many messages that differ only in what it has not promised
pub loadless_law : (c : Code) (i h j n : ℕ) → Loadless c n → (m m' : Memory) (s : Thread) → n ≤ s.position → Kept m m' s.promises → Meets c i m' s h j → Meets c i m s h j
loadless_law c i h j n free m m' s le k r = loadless_comes c i n free aims le k r
  where
    aims : (m m' : Memory) (s : Thread) → n ≤ s.position → Kept m m' s.promises → Aim c i h j m' s → Aim c i h j m s
    aims m m' s le k (inl e) = inl e
    aims m m' s le k (inr (x, g, f)) = inr (x, g, loadless_fills c i n free le g k f)
