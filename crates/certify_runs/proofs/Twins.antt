-- Two memories whose messages are twins, but for the one at a time h: what an instruction does on the one it does on the other.
-- Assumes nothing.
use mathlib.Core.Path.{◌≡◌, refl, sym, ap, ap₂, ◌∙◌, subst}
use mathlib.Core.Logic.{◌⊎◌, inl, inr, ⊎_elim, ◌≢◌}
use mathlib.Core.Bool.{Bool, true, false, not, cond, ◌&&◌, ◌||◌}
use mathlib.Core.Option.{some}
use Prim.Native.Nat.{ℕ, zero, suc, max, ◌+◌, ◌≤◌, ◌<◌}
use native.Mathlib.Nat.{mod-lt}
use native.Mathlib.Decide.{ℕ_discrete, dec_lt}
use native.Mathlib.Omega.{arith}
use lib.Dec.{T, eqb, leb, ltb, eqb→eq, leb→le, lit<}
use lib.ListN.{length}
use Rattle.theory_views.specs.Views.{view_at, raise_at}
use Rattle.theory_views.proofs.Merging.{raise_same}
use Rattle.program.proofs.Tests.{and_left, and_right, below_at, below_all}
use Rattle.machine.specs.State.{message_at, with_register, raise_coherence, with_views}
use Rattle.machine.specs.Rules.{value_of, view_of₂, advance, newer, readable, none_newer, read_value, read_view, load_views}
use Rattle.machine.proofs.Sets.{has_positive}
use Rattle.machine.proofs.Effects.{load_location, load_pre_view, load_post_view, Promised, Effect, computed, loaded, stored, branched, fenced, readable_time, effect_time}
use Rattle.certify_runs.specs.Below.{Instr, Load, Message, Memory, Thread}
use Rattle.certify_runs.specs.Certify.{message_of}
use Rattle.certify_runs.proofs.Fit.{no_message_lem}

-- messages of one location and value; no rule reads their threads
abbrev pub Twin : Message → Message → Type 0
Twin x y = (x.location ≡ y.location) × (x.value ≡ y.value)

-- as many messages, each the twin of the other but at time h
pub record Twins (h : ℕ) (m m' : Memory) : Type 0 where
  pub same_count : m.count ≡ m'.count
  pub at : (t : ℕ) → 0 < t → t ≤ m.count → t ≢ h → Twin (message_at m t) (message_at m' t)

-- a load by s, which left s', has raised the coherence view of the location of the message at h up to h
pub record Passed (h : ℕ) (m : Memory) (s s' : Thread) : Type 0 where
  pub in_memory : h ≤ m.count
  pub location : (message_at m h).location < 16
  pub high : length s.coherence ≡ 16 → h ≤ view_at s'.coherence (message_at m h).location

module _ (h : ℕ) (m m' : Memory) (q : Twins h m m') where
  -- what can be read at another time can be read there
  readable_same : (l t : ℕ) → t ≢ h → T (readable m l t) → T (readable m' l t)
  unfolding readable
  readable_same l zero n r = tt
  readable_same l (suc t) n r = subst T (ap₂ (λ (c k : ℕ). eqb (suc t) 0 || (leb (suc t) c && eqb k l)) q.same_count (q.at (suc t) (omega arith) (readable_time m l (suc t) r) n).0) r

  -- its value is the same
  read_same : (t : ℕ) → t ≤ m.count → t ≢ h → read_value m t ≡ read_value m' t
  unfolding read_value
  read_same zero le n = refl
  read_same (suc t) le n = ap (λ (z : ℕ). cond (eqb (suc t) 0) 0 z) (q.at (suc t) (omega arith) le n).1

  -- where no message is newer none is, if the one at h is not
  newer_but : (l t v : ℕ) → (h ≤ m'.count → T (not (newer m' l t v h))) → T (none_newer m l t v) → T (none_newer m' l t v)
  unfolding none_newer
  newer_but l t v other r = below_all _ m'.count (λ k kl. let kl' = subst (λ (n : ℕ). k < n) (sym q.same_count) kl in go k kl kl' (ℕ_discrete (suc k) h) (below_at _ m.count r k kl'))
    where
      go : (k : ℕ) → k < m'.count → k < m.count → Dec (suc k ≡ h) → T (not (newer m l t v (suc k))) → T (not (newer m' l t v (suc k)))
      go k kl kl' (yes e) z = subst (λ (n : ℕ). T (not (newer m' l t v n))) (sym e) (other (omega arith))
      go k kl kl' (no n) z = subst (λ (j : ℕ). T (not (eqb j l && ltb t (suc k) && leb (suc k) v))) (q.at (suc k) (omega arith) kl' n).0 z

  -- where no message is newer none is, or the one at h is
  newer_same : (l t v : ℕ) → T (none_newer m l t v) → T (none_newer m' l t v) ⊎ ((h ≤ m'.count) × ((message_at m' h).location ≡ l) × (h ≤ v))
  newer_same l t v r = go (newer m' l t v h) refl (dec_lt m'.count h)
    where
      here : Bool
      here = eqb (message_at m' h).location l

      go : (b : Bool) → newer m' l t v h ≡ b → Dec (m'.count < h) → T (none_newer m' l t v) ⊎ ((h ≤ m'.count) × ((message_at m' h).location ≡ l) × (h ≤ v))
      go false e d = inl (newer_but l t v (λ low. subst (λ (b : Bool). T (not b)) (sym e) tt) r)
      go true e (yes far) = inl (newer_but l t v (λ low. absurd (omega arith)) r)
      go true e (no near) =
          let z : T (here && ltb t h && leb h v) = subst T (sym e) tt in
          inr (omega arith, eqb→eq _ l (and_left here (ltb t h) (and_left (here && ltb t h) (leb h v) z)), leb→le h v (and_right (here && ltb t h) (leb h v) z))

  -- what is promised at another time is promised there
  promised_same : (t l v : ℕ) (s : Thread) → t ≢ h → Promised m t l v s → Promised m' t l v s
  promised_same t l v s n p =
      let e = q.at t (has_positive s.promises t p.out) p.in_memory n in
      record {
        out = p.out;
        in_memory = subst (λ (k : ℕ). t ≤ k) q.same_count p.in_memory;
        at_location = sym e.0 ∙ p.at_location;
        at_value = sym e.1 ∙ p.at_value;
      }

  -- THE KEY LEMMA: an instruction at another time than h does to the thread on the one memory what it does on the other, or it is a load that passes the message at h
  pub carry : {t : ℕ} {s : Thread} {x : Instr} {s' : Thread} → t ≢ h → Effect m t s x s' → Effect m' t s x s' ⊎ Passed h m' s s'
  carry n (computed e) = inl (computed e)
  carry {t} {s} n (loaded {k} {r} {a} {b} d e) =
      let l = load_location s a b in
      let post = load_post_view k s a b t in
      let small : l < 16 = mod-lt (value_of s a + value_of s b) (lit< tt) in
      ⊎_elim
      (λ none. inl (subst (λ (z : ℕ). Effect m' t s (Load k r a b) (advance 1 (with_views (load_views k (view_of₂ s a b) post s.views) (raise_coherence l post (with_register r z post s))))) (sym (read_same t (readable_time m l t d) n))
      (loaded {k = k} {r = r} {a = a} {b = b} (readable_same l t n d) none)))
      (λ p. inr (record {
        in_memory = p.0;
        location = subst (λ (j : ℕ). j < 16) (sym p.1) small;
        high = λ places. subst (λ (j : ℕ). h ≤ view_at (raise_at s.coherence l post) j) (sym p.1)
            (subst (λ (j : ℕ). h ≤ j) (sym (raise_same s.coherence l post (subst (λ (j : ℕ). l < j) (sym places) small)))
            (up (load_pre_view k s a b) (view_at s.coherence l) (read_view s l t) p.2));
      }))
      (newer_same l t _ e)
    where
      up : (x y z : ℕ) → h ≤ max x y → h ≤ max y (max x z)
      up x y z le = omega arith
  carry {t} {s} n (stored p x y) = inl (stored (promised_same t _ _ s n p) x y)
  carry n (branched e) = inl (branched e)
  carry n (fenced e) = inl (fenced e)

  -- an instruction that has a message is a store, and passes none
  pub carry_store : (i : ℕ) (y : Thread) (x : Instr) {w : Message} → message_of i y x ≡ some w → {t : ℕ} {s s' : Thread} → t ≢ h → Effect m t s x s' → Effect m' t s x s'
  carry_store i y x g n (computed e) = absurd (no_message_lem g)
  carry_store i y x g n (loaded d e) = absurd (no_message_lem g)
  carry_store i y x g {t} {s} n (stored p low high) = stored (promised_same t _ _ s n p) low high
  carry_store i y x g n (branched e) = absurd (no_message_lem g)
  carry_store i y x g n (fenced e) = absurd (no_message_lem g)

-- where all messages are twins every instruction does the same
pub carry_all : {m m' : Memory} → Twins 17 m m' → m.count ≤ 16 → {t : ℕ} {s : Thread} {x : Instr} {s' : Thread} → Effect m t s x s' → Effect m' t s x s'
carry_all {m} {m'} q room f =
    let count = q.same_count in
    let early = effect_time f in
    ⊎_elim (λ g. g) (λ p. let late = p.in_memory in absurd (omega arith)) (carry 17 m m' q (λ z. omega arith) f)
