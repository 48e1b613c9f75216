-- What the table is good for: a hit says what is known of the machine, and every write keeps the table true.
-- Assumes nothing.
use mathlib.Core.Path.{◌≡◌, refl, sym, ap, subst, ◌∙◌}
use mathlib.Core.List.{List, ◌++◌, append_assoc}
use mathlib.Core.Logic.{◌⊎◌, inl, inr}
use Prim.Native.Nat.{ℕ, ◌+◌, ◌-◌, ◌*◌, ◌≤◌, ◌<◌}
use native.Mathlib.Decide.{dec_lt}
use native.Mathlib.Omega.{arith}
use lib.ListN.{length, get_or, take, drop, replicate, length-append, length-drop, get_or-replicate}
use lib.Seq.{take_at, drop_at, drop-drop, get_or-take, get_or-drop, ext_get_or, length-take-le}
use Rattle.theory_views.proofs.Entries.{replicate_all}
use Rattle.machine.specs.declared.Machine.{Machine}
use Rattle.encode_machine.specs.Value.{machine_bytes, machine_of}
use Rattle.encode_machine.specs.Sized.{SizedMachine}
use Rattle.encode_machine.proofs.Back.{machine_back}
use Rattle.encode_machine.proofs.Lengths.{machine_length}
use Rattle.encode_bytes.specs.Inner.{word64_from}
use Rattle.encode_bytes.specs.Places.{put}
use Rattle.encode_bytes.specs.Numbers.{word64}
use Rattle.encode_bytes.proofs.Putting.{put_length, put_beside}
use Rattle.encode_bytes.proofs.Words.{word64_back, same_word64}
use Rattle.search_table.specs.Table.{key_at, count_at, EverySlot, slot_with, Sought, Seen}

-- ---- two tables that agree on a slot
module _ (t u : List ℕ) (size : length u ≡ length t) (j : ℕ) (within : 349 * j + 349 ≤ length t) (agree : (k : ℕ) → 349 * j ≤ k → k < 349 * j + 349 → get_or u k 0 ≡ get_or t k 0) where
  same_key : key_at u j ≡ key_at t j
  unfolding key_at
  same_key =
      let a : length (drop (349 * j) u) ≡ length u - 349 * j = length-drop (349 * j) u in
      let b : length (drop (349 * j) t) ≡ length t - 349 * j = length-drop (349 * j) t in
      let l : length (take 341 (drop (349 * j) u)) ≡ 341 = length-take-le 341 (drop (349 * j) u) (omega arith) in
      let m : length (take 341 (drop (349 * j) t)) ≡ 341 = length-take-le 341 (drop (349 * j) t) (omega arith) in
      ext_get_or 0 (take 341 (drop (349 * j) u)) (take 341 (drop (349 * j) t)) (l ∙ sym m)
      (λ i h.
      let h' : i < 341 = omega arith in
      get_or-take 341 (drop (349 * j) u) i 0 h' ∙ get_or-drop (349 * j) u i 0 ∙ agree (349 * j + i) (omega arith) (omega arith)
      ∙ sym (get_or-take 341 (drop (349 * j) t) i 0 h' ∙ get_or-drop (349 * j) t i 0))

  same_byte : (i : ℕ) → i < 8 → get_or (drop (349 * j + 341) u) i 0 ≡ get_or (drop (349 * j + 341) t) i 0
  same_byte i h = get_or-drop (349 * j + 341) u i 0 ∙ agree (349 * j + 341 + i) (omega arith) (omega arith) ∙ sym (get_or-drop (349 * j + 341) t i 0)

  same_count : count_at u j ≡ count_at t j
  unfolding count_at
  same_count = same_word64 (drop (349 * j + 341) u) (drop (349 * j + 341) t) same_byte

-- ---- the slot that is written
module _ (t : List ℕ) (j : ℕ) (x : Machine) (n : ℕ) (within : 349 * j + 349 ≤ length t) where
  entry_length : length (machine_bytes x ++ word64 n) ≡ 349
  entry_length = length-append (machine_bytes x) (word64 n) ∙ (let m = machine_length x in omega arith)

  pub kept_length : length (slot_with j x n t) ≡ length t
  unfolding slot_with
  kept_length = put_length (349 * j) (machine_bytes x ++ word64 n) t (let e = entry_length in omega arith)

  -- what stands from the slot on
  from_slot : (rest : List ℕ) × (drop (349 * j) (slot_with j x n t) ≡ machine_bytes x ++ (word64 n ++ rest))
  unfolding slot_with put
  from_slot =
      let bs : List ℕ = machine_bytes x ++ word64 n in
      let rest : List ℕ = drop (349 * j + length bs) t in
      (rest, drop_at (take (349 * j) t) (bs ++ rest) (349 * j) (length-take-le (349 * j) t (omega arith)) ∙ append_assoc (machine_bytes x) (word64 n) rest)

  pub kept_key : key_at (slot_with j x n t) j ≡ machine_bytes x
  unfolding key_at
  kept_key = ap (take 341) from_slot.1 ∙ take_at (machine_bytes x) (word64 n ++ from_slot.0) 341 (machine_length x)

  pub kept_count : n < 18446744073709551616 → count_at (slot_with j x n t) j ≡ n
  unfolding count_at
  kept_count h =
      let e : drop (349 * j + 341) (slot_with j x n t) ≡ word64 n ++ from_slot.0 =
      sym (drop-drop 341 (349 * j) (slot_with j x n t)) ∙ ap (drop 341) from_slot.1 ∙ drop_at (machine_bytes x) (word64 n ++ from_slot.0) 341 (machine_length x) in
      ap word64_from e ∙ word64_back n h

  kept_beside : (k : ℕ) → (k < 349 * j) ⊎ (349 * j + 349 ≤ k) → get_or (slot_with j x n t) k 0 ≡ get_or t k 0
  unfolding slot_with
  kept_beside k o = put_beside (349 * j) 349 k (machine_bytes x ++ word64 n) t entry_length (omega arith) o

module _ (K : Machine → ℕ → Type 0) where
  -- A HIT: what stands beside x is known of x
  pub hit : (t : List ℕ) (x : Machine) (r : Seen) → EverySlot K t → SizedMachine x → Sought x t r → (r.count ≡ 0 → ⊥) → K x r.count
  unfolding EverySlot
  hit t x r o z s h =
      let there = s.there h in
      let key : machine_of (key_at t r.slot) ≡ x = ap machine_of there.0 ∙ machine_back x z in
      let used : count_at t r.slot ≡ 0 → ⊥ = λ e. h (sym there.1 ∙ e) in
      subst (λ (n : ℕ). K x n) there.1 (subst (λ (y : Machine). K y (count_at t r.slot)) key (o r.slot s.within used))

  -- A WRITE keeps the table true
  pub holds_kept : (t : List ℕ) (j : ℕ) (x : Machine) (n : ℕ) → 349 * j + 349 ≤ length t → n < 18446744073709551616 → SizedMachine x → K x n → EverySlot K t → EverySlot K (slot_with j x n t)
  unfolding EverySlot
  holds_kept t j x n within small z known o i w used = go (apart i)
    where
      size : length (slot_with j x n t) ≡ length t
      size = kept_length t j x n within

      apart : (i : ℕ) → (i ≡ j) ⊎ ((i < j) ⊎ (j < i))
      apart i = elim (dec_lt i j) [ yes l ↦ inr (inl l) | no l ↦ elim (dec_lt j i) [ yes m ↦ inr (inr m) | no m ↦ inl (omega arith) ] ]

      other : ((k : ℕ) → 349 * i ≤ k → k < 349 * i + 349 → (k < 349 * j) ⊎ (349 * j + 349 ≤ k)) → K (machine_of (key_at (slot_with j x n t) i)) (count_at (slot_with j x n t) i)
      other beside =
          let w' : 349 * i + 349 ≤ length t = omega (arith, size) in
          let agree : (k : ℕ) → 349 * i ≤ k → k < 349 * i + 349 → get_or (slot_with j x n t) k 0 ≡ get_or t k 0 = λ k a b. kept_beside t j x n within k (beside k a b) in
          let key = same_key t (slot_with j x n t) size i w' agree in
          let count = same_count t (slot_with j x n t) size i w' agree in
          subst (λ (y : List ℕ). K (machine_of y) (count_at (slot_with j x n t) i)) (sym key)
          (subst (λ (m : ℕ). K (machine_of (key_at t i)) m) (sym count) (o i w' (λ e. used (count ∙ e))))

      go : (i ≡ j) ⊎ ((i < j) ⊎ (j < i)) → K (machine_of (key_at (slot_with j x n t) i)) (count_at (slot_with j x n t) i)
      go (inl e) =
          subst (λ (k : ℕ). K (machine_of (key_at (slot_with j x n t) k)) (count_at (slot_with j x n t) k)) (sym e)
          (subst (λ (y : Machine). K y (count_at (slot_with j x n t) j)) (sym (ap machine_of (kept_key t j x n within) ∙ machine_back x z))
          (subst (λ (m : ℕ). K x m) (sym (kept_count t j x n within small)) known))
      go (inr (inl l)) = other (λ k a b. inl (omega arith))
      go (inr (inr l)) = other (λ k a b. inr (omega arith))

  -- A CLEARED table is true
  pub holds_cleared : (n : ℕ) → EverySlot K (replicate n 0)
  unfolding EverySlot count_at
  holds_cleared n j w used =
      absurd
      (let byte : (i : ℕ) → get_or (drop (349 * j + 341) (replicate n 0)) i 0 ≡ 0 = λ i. get_or-drop (349 * j + 341) (replicate n 0) i 0 ∙ replicate_all (λ (a : ℕ). a ≡ 0) n 0 refl (349 * j + 341 + i) in
      used (same_word64 (drop (349 * j + 341) (replicate n 0)) (replicate 8 0) (λ i h. byte i ∙ sym (get_or-replicate 8 i 0 0 h))))
