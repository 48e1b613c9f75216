-- A store that appends its own message: what the thread comes to from there, and what a failure rests on.
-- Assumes nothing.
use mathlib.Core.Path.{◌≡◌, refl, sym, ap, ap₂, subst, ◌∙◌}
use mathlib.Core.Logic.{◌⊎◌, ⊎_elim}
use mathlib.Core.Bool.{Bool, true, false, not}
use mathlib.Core.List.{List}
use mathlib.Core.Option.{none, some-injective}
use Prim.Native.Nat.{ℕ, ◌+◌, ◌*◌, ◌^◌, ◌≤◌, ◌<◌}
use native.Mathlib.Omega.{arith}
use lib.Count.{ones}
use lib.Dec.{T}
use lib.ListN.{length-set}
use borrow.Author.Tests.{not-true}
use Rattle.std.specs.Prelude.{Result, Ok, Err}
use Rattle.program.specs.Counts.{stores_from}
use Rattle.program.proofs.Counts.{stores_fall}
use Rattle.program.specs.declared.Refusal.{Refusal}
use Rattle.machine.specs.State.{append, has}
use Rattle.machine.specs.Rules.{next, value_of, address, execute, add_promise, store_message}
use Rattle.machine.specs.Inner.{ruled, own_store}
use Rattle.machine.proofs.Cases.{ruled_done, ruled_refused}
use Rattle.machine.proofs.Memories.{message_stays}
use Rattle.machine.proofs.Sets.{has_positive, has_time}
use Rattle.machine.proofs.Effects.{effect, moves}
use Rattle.certify_runs.specs.Below.{Code, Operand, StoreMode, Instr, Compute, Load, Store, Branch, Fence, Message, Memory, Thread}
use Rattle.certify_runs.specs.Certify.{message_of}
use Rattle.certify_runs.proofs.Fit.{value_promised, no_message_lem, own_effect, own_leaves, comes_fit}
use Rattle.certify_ahead.specs.Loadless.{Loadless}
use Rattle.certify_cares.specs.Cares.{Agrees, Agreeing, Covers}
use Rattle.certify_cares.specs.declared.Cares.{Cares}
use Rattle.certify_cares.proofs.Agreeing.{same_value, same_address}
use Rattle.certify_under.specs.Under.{Rests}
use Rattle.certify_under.proofs.Resting.{promise_rests, store_too, store_rests}
use Rattle.certify_sought.specs.declared.Met.{Met}
use Rattle.certify_sought.specs.declared.Sought.{Sought}
use Rattle.certify_sought.specs.Numbers.{Unmet, Better}
use Rattle.certify_sought.specs.Aim.{Meets}
use Rattle.certify_sought.proofs.Numbers.{better_as}
use Rattle.certify_tried.specs.declared.Reached.{Reached}
use Rattle.certify_tried.specs.Tried.{Appends}
use Rattle.certify.specs.Search.{Owns, Found}
use Rattle.certify.proofs.Finding.{rests_less, found_none, other}
use Rattle.certify.proofs.Stores.{aim_fits}
use Rattle.certify.proofs.Loadless.{Kept, loadless_law}

module _ (c : Code) (i : ℕ) (m : Memory) (s : Thread) (x : Instr) (q : Sought) (k : Cares) where
  pub owns_none : ((y : Thread) → message_of i y x ≡ none) → Found q.from q.met (λ y j. Owns c i m y x q.hole j) s (record { met = q.met; cares = k })
  owns_none e = found_none q.from q.met (λ y j. Owns c i m y x q.hole j) s k (λ s' rests j u w. no_message_lem (sym (e s') ∙ w.is_own))

  -- there is no room, or too few stores are left after it
  owns_never : (k₁ : StoreMode) (a d : Operand) → x ≡ Store k₁ a d → (16 ≤ m.count) ⊎ (stores_from c (s.position + 1) < ones s.promises)
      → Found q.from q.met (λ y j. Owns c i m y x q.hole j) s (record { met = q.met; cares = k })
  owns_never k₁ a d is full =
      found_none q.from q.met (λ y j. Owns c i m y x q.hole j) s k (λ s' rests j u w.
      ⊎_elim (λ none. let few = w.fewer in omega arith) (λ few.
      let f = comes_fit (aim_fits c i q.hole j) w.goes_on in
      let does = effect x (append m w.message) (append m w.message).count (add_promise (append m w.message) s') w.after w.does in
      let p = ap ones (own_leaves (own_effect i m w.message s' w.is_own does)) in
      let out = ap ones rests.under.same_promises in
      let at = rests.under.same_position in
      let z = moves does in
      let u = stores_fall c (s.position + 1) w.after.position (omega arith) in
      omega arith) full)

  -- it is not tried
  pub owns_untried : (b : Bool) → Appends c m s x b → not b ≡ true → Found q.from q.met (λ y j. Owns c i m y x q.hole j) s (record { met = q.met; cares = k })
  owns_untried b h n = go x refl
    where
      no_message_of : (o : Instr) → ((y : Thread) → message_of i y o ≡ none) → x ≡ o → Found q.from q.met (λ y j. Owns c i m y x q.hole j) s (record { met = q.met; cares = k })
      no_message_of o silent e = owns_none (λ y. ap (message_of i y) e ∙ silent y)

      go : (o : Instr) → x ≡ o → Found q.from q.met (λ y j. Owns c i m y x q.hole j) s (record { met = q.met; cares = k })
      go (Compute how r a b) e = no_message_of (Compute how r a b) (λ y. refl) e
      go (Load how r a b) e = no_message_of (Load how r a b) (λ y. refl) e
      go (Store how a d) e = owns_never how a d e (h.never (not-true b n) how a d e)
      go (Branch how a b) e = no_message_of (Branch how a b) (λ y. refl) e
      go (Fence how) e = no_message_of (Fence how) (λ y. refl) e

  -- the store has its own message
  module _ (how : StoreMode) (a d : Operand) (is : x ≡ Store how a d) (few : m.count < 16) (u : Result Thread Refusal) (e : u ≡ ruled (own_store how a d m i s)) where
    w : Message
    w = store_message i a d s

    m' : Memory
    m' = append m w

    its_store : (s' : Thread) (j : ℕ) (o : Owns c i m s' x q.hole j) → execute (Store how a d) (append m o.message) (append m o.message).count (add_promise (append m o.message) s') ≡ next o.after
    its_store s' j o = subst (λ (z : Instr). execute z (append m o.message) (append m o.message).count (add_promise (append m o.message) s') ≡ next o.after) is o.does

    -- what the thread comes to after it
    pub owns_better : (m₁ : Memory) → m₁ ≡ append m (store_message i a d s) → {y₁ : Thread} → u ≡ Ok y₁ → {p p' : Met} → Better q.from (Meets c i m₁ y₁ q.hole) p p' → Better q.from (λ j. Owns c i m s x q.hole j) p p'
    unfolding own_store w m'
    owns_better m₁ me {y₁} z =
        better_as (λ j p. record {
          message = w;
          after = y₁;
          is_own = ap (message_of i s) is;
          fewer = few;
          does = ap (λ (v : Instr). execute v m' m'.count (add_promise m' s)) is ∙ ruled_done (own_store how a d m i s) u e z;
          goes_on = subst (λ (y : Memory). Meets c i y y₁ q.hole j) me p;
        })

    -- it is noted to rest on its location
    module _ (placed : Cares) (near : (v v' : Thread) → Agreeing placed.of v v' → Agrees (65536 * 65535) (value_of v a) (value_of v' a)) where
      same_place : (s' : Thread) → Rests placed.of s s' → address (value_of s a) ≡ address (value_of s' a)
      same_place s' rests = same_address (near s s' rests.agreeing)

      promised_place : (s' : Thread) → Rests placed.of s s' → address (value_of (add_promise m' s) a) ≡ address (value_of (add_promise m' s') a)
      promised_place s' rests = ap address (value_promised m' s a) ∙ same_place s' rests ∙ sym (ap address (value_promised m' s' a))

      -- a thread in which is so what it rests on has, after its own store, what the failure rests on
      own_after : (s' : Thread) → Rests placed.of s s' → {y₁ : Thread} → u ≡ Ok y₁ → (K : List ℕ) → Agreeing K s s' → (j : ℕ) (o : Owns c i m s' x q.hole j) → Rests K y₁ o.after
      unfolding own_store w m'
      own_after s' rests {y₁} z K all j o =
          store_rests m' how a d (add_promise m' s) (add_promise m' s') (promise_rests m' rests).under (promised_place s' rests) K all m'.count (append m o.message) y₁ o.after (ruled_done (own_store how a d m i s) u e z) (its_store s' j o)

      -- where no load stands ahead, the data do not count
      owns_apart : Loadless c s.position → s.promises < 2 ^ m.count → (m₁ : Memory) → m₁ ≡ append m (store_message i a d s) → {y₁ : Thread} → u ≡ Ok y₁
          → (then : Reached) → Found q.from q.met (λ y j. Meets c i m₁ y q.hole j) y₁ then → (k' : Cares) → Covers k'.of then.cares.of → Covers k'.of placed.of
          → Found q.from q.met (λ y j. Owns c i m y x q.hole j) s (record { met = then.met; cares = k' })
      unfolding w m'
      owns_apart loadless within m₁ me z then found k' more more' = record { better = owns_better m₁ me z found.better; barren = barren }
        where
          barren : (s' : Thread) → Rests k'.of s s' → (j : ℕ) → Unmet q.from then.met j → Owns c i m s' x q.hole j → ⊥
          barren s' rests j l o =
              let h = effect x (append m o.message) (append m o.message).count (add_promise (append m o.message) s') o.after o.does in
              let left : o.after.promises ≡ s.promises = own_leaves (own_effect i m o.message s' o.is_own h) ∙ sym rests.under.same_promises in
              let on = moves h in
              let at = rests.under.same_position in
              let kept : Kept m' (append m o.message) o.after.promises = record {
                same_count = refl;
                same_length = length-set m.messages m.count w ∙ sym (length-set m.messages m.count o.message);
                at_promises = λ t out.
                    let mine = subst (λ (p : ℕ). T (has p t)) left out in
                    let low = has_positive s.promises t mine in
                    let high = has_time s.promises m.count t within mine in
                    message_stays m w t low high ∙ sym (message_stays m o.message t low high);
              } in
              let run = loadless_law c i q.hole j s.position loadless m' (append m o.message) o.after (omega arith) kept o.goes_on in
              found.barren o.after (own_after s' (rests_less more' rests) z then.cares.of (rests_less more rests).agreeing j o) j l (subst (λ (y : Memory). Meets c i y o.after q.hole j) (sym me) run)

      -- it is noted to rest on its data too
      module _ (noted : (v v' : Thread) → Agreeing placed.of v v' → Agrees 2 (value_of v d) (value_of v' d)) where
        same_data : (s' : Thread) → Rests placed.of s s' → value_of s d ≡ value_of s' d
        same_data s' rests = same_value (noted s s' rests.agreeing)

        promised_data : (s' : Thread) → Rests placed.of s s' → value_of (add_promise m' s) d ≡ value_of (add_promise m' s') d
        promised_data s' rests = value_promised m' s d ∙ same_data s' rests ∙ sym (value_promised m' s' d)

        -- a thread in which is so what it rests on has the same message
        own_same : (s' : Thread) → Rests placed.of s s' → (j : ℕ) (o : Owns c i m s' x q.hole j) → o.message ≡ w
        unfolding w
        own_same s' rests j o =
            let mine : store_message i a d s' ≡ o.message = some-injective _ _ (sym (ap (message_of i s') is) ∙ o.is_own) in
            sym (ap₂ (λ (l v : ℕ). record { location = l; value = v; thread = i }) (same_place s' rests) (same_data s' rests) ∙ mine)

        pub owns_stuck : {n : Refusal} → u ≡ Err n → Found q.from q.met (λ y j. Owns c i m y x q.hole j) s (record { met = q.met; cares = placed })
        unfolding own_store w m'
        owns_stuck z =
            found_none q.from q.met (λ y j. Owns c i m y x q.hole j) s placed (λ s' rests j l o.
            let its = subst (λ (v : Message). execute (Store how a d) (append m v) (append m v).count (add_promise (append m v) s') ≡ next o.after) (own_same s' rests j o) (its_store s' j o) in
            let mine = store_too m' how a d (add_promise m' s) (add_promise m' s') (promise_rests m' rests).under (promised_place s' rests) m'.count o.after (promised_data s' rests) its in
            other (sym (ruled_refused (own_store how a d m i s) u e z) ∙ mine.1))

        owns_goes : (m₁ : Memory) → m₁ ≡ append m (store_message i a d s) → {y₁ : Thread} → u ≡ Ok y₁ → (then : Reached) → Found q.from q.met (λ y j. Meets c i m₁ y q.hole j) y₁ then
            → (k' : Cares) → Covers k'.of then.cares.of → Covers k'.of placed.of
            → Found q.from q.met (λ y j. Owns c i m y x q.hole j) s (record { met = then.met; cares = k' })
        unfolding w m'
        owns_goes m₁ me z then found k' more more' =
            record {
              better = owns_better m₁ me z found.better;
              barren = λ s' rests j l o.
                  let settles = rests_less more' rests in
                  found.barren o.after (own_after s' settles z then.cares.of (rests_less more rests).agreeing j o) j l
                  (subst (λ (y : Memory). Meets c i y o.after q.hole j) (ap (append m) (own_same s' settles j o) ∙ sym me) o.goes_on);
            }

      -- it rests on its data only if a load may read the message
      pub owns_on : (read : Bool) → (read ≡ true → (v v' : Thread) → Agreeing placed.of v v' → Agrees 2 (value_of v d) (value_of v' d)) → (read ≡ false → Loadless c s.position)
          → s.promises < 2 ^ m.count → (m₁ : Memory) → m₁ ≡ append m (store_message i a d s) → {y₁ : Thread} → u ≡ Ok y₁
          → (then : Reached) → Found q.from q.met (λ y j. Meets c i m₁ y q.hole j) y₁ then → (k' : Cares) → Covers k'.of then.cares.of → Covers k'.of placed.of
          → Found q.from q.met (λ y j. Owns c i m y x q.hole j) s (record { met = then.met; cares = k' })
      owns_on true noted loadless within = owns_goes (noted refl)
      owns_on false noted loadless within = owns_apart (loadless refl) within
