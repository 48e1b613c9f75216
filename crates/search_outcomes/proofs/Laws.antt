-- What noting is good for: an outcome that is noted stays noted, the rows stay in order, and the bytes do not change their size.
-- Assumes nothing.
use mathlib.Core.Path.{◌≡◌, sym, ap, ap₂, subst, fun_ext, ◌∙◌}
use mathlib.Core.Bool.{Bool, true, false}
use mathlib.Core.List.{List, ◌++◌, map}
use Prim.Native.Nat.{ℕ, suc, ◌+◌, ◌-◌, ◌≤◌, ◌<◌}
use native.Mathlib.Decide.{dec_lt}
use native.Mathlib.Omega.{arith}
use lib.ListN.{length, get_or, drop}
use Rattle.theory_sequences.specs.Sequences.{Ascending}
use Rattle.theory_sequences.specs.Listing.{entered}
use Rattle.theory_sequences.proofs.Entered.{entered_unchanged, entered_again, entered_stays, entered_ascending}
use borrow.Author.Tests.{lt-ltb, le-ltb}
use Rattle.program.specs.declared.Program.{Program}
use Rattle.program.proofs.Shape.{program_iff}
use Rattle.machine.specs.declared.Message.{Message}
use Rattle.machine.specs.declared.Machine.{Machine}
use Rattle.machine.specs.State.{fresh_register, fresh_thread, thread_of}
use Rattle.machine.specs.Inner.{Formed}
use Rattle.machine.proofs.Formed.{MachineOk, machine_iff, message_place}
use Rattle.step.specs.Order.{range, for_each}
use Rattle.step.specs.Outcome.{last_value, register_values, outcome, smaller}
use Rattle.encode_bytes.specs.Places.{put}
use Rattle.encode_bytes.proofs.Putting.{put_length}
use Rattle.search_outcomes.specs.declared.Sheet.{Sheet}
use Rattle.search_outcomes.specs.Table.{row_width, place_bytes, capacity, rows_of, row_smaller, row_bytes, Notes, met_of, with_met, noted, Orderly, Placed, ending}
pub use Rattle.search_outcomes.proofs.Order.{smaller_asym, smaller_cut, smaller_same, smaller_irreflexive, smaller_order, row_order}
pub use Rattle.search_outcomes.proofs.Ending.{ending_length}
use Rattle.search_outcomes.proofs.Rows.{new_key, bytes_length, rows_again}
use Rattle.search_outcomes.proofs.Cases.{capacity_room, new_row, old_rows, new_rows, old_length, new_wide, noted_full, noted_over, noted_in, noted_there}

-- ---- the cases, with what is noted in each
data Noting (wide : Bool) (o : List ℕ) (rest : ℕ) (n : Notes) : Type 0 where
  full : capacity wide n.0 < met_of n → noted wide o rest n ≡ n → Noting wide o rest n
  over : met_of n ≤ capacity wide n.0 → capacity wide n.0 < length (new_rows wide o rest n) → noted wide o rest n ≡ (n.0, with_met (length (new_rows wide o rest n)) n.1)
      → Noting wide o rest n
  within : met_of n ≤ capacity wide n.0 → length (new_rows wide o rest n) ≤ capacity wide n.0
      → noted wide o rest n ≡ (put 0 (row_bytes (new_rows wide o rest n)) n.0, with_met (length (new_rows wide o rest n)) n.1) → Noting wide o rest n

noting : (wide : Bool) (o : List ℕ) (rest : ℕ) (n : Notes) → Noting wide o rest n
noting wide o rest n =
    elim (dec_lt (capacity wide n.0) (met_of n)) [
      | yes h ↦ full h (noted_full wide n o rest h)
      | no h ↦ let room : met_of n ≤ capacity wide n.0 = omega arith in
          elim (dec_lt (capacity wide n.0) (length (new_rows wide o rest n))) [
            | yes l ↦ over room l (noted_over wide n o rest room l)
            | no l ↦ let fits : length (new_rows wide o rest n) ≤ capacity wide n.0 = omega arith in within room fits (noted_in wide n o rest room fits)
          ]
    ]

-- ---- sizes
module _ (wide : Bool) (o : List ℕ) (rest : ℕ) (n : Notes) where
  written_length : length o ≡ 48 → met_of n ≤ capacity wide n.0 → length (new_rows wide o rest n) ≤ capacity wide n.0
      → length (put 0 (row_bytes (new_rows wide o rest n)) n.0) ≡ length n.0
  written_length e room fits =
      let l = bytes_length (row_width wide) (new_rows wide o rest n) (new_wide wide n o rest e room) in
      let m = capacity_room wide (length (new_rows wide o rest n)) n.0 fits in
      put_length 0 (row_bytes (new_rows wide o rest n)) n.0 (omega arith)

  pub noted_long : length o ≡ 48 → length (noted wide o rest n).0 ≡ length n.0
  noted_long e = go (noting wide o rest n)
    where
      go : Noting wide o rest n → length (noted wide o rest n).0 ≡ length n.0
      go (full h q) = rw q
      go (over room h q) = rw q
      go (within room fits q) = rw q (written_length e room fits)

-- ---- what stands there once the outcome is entered
module _ (wide : Bool) (o : List ℕ) (rest : ℕ) (n : Notes) (e : length o ≡ 48) (room : met_of n ≤ capacity wide n.0) (fits : length (new_rows wide o rest n) ≤ capacity wide n.0) where
  abbrev after : Notes
  after = (put 0 (row_bytes (new_rows wide o rest n)) n.0, with_met (length (new_rows wide o rest n)) n.1)

  after_room : met_of after ≤ capacity wide after.0
  after_room = rw (written_length wide o rest n e room fits) fits

  after_rows : old_rows wide after ≡ new_rows wide o rest n
  unfolding put rows_of
  after_rows =
      let w = row_width wide in
      let rows = new_rows wide o rest n in
      rows_again w rows (drop (0 + length (row_bytes rows)) n.0) (new_wide wide n o rest e room)

-- where too many have been met, nothing is noted any more
over_full : (wide : Bool) (c : List ℕ) (r : ℕ) (n : Notes) (m : ℕ) → capacity wide n.0 < m → noted wide c r (n.0, with_met m n.1) ≡ (n.0, with_met m n.1)
over_full wide c r n m h = noted_full wide (n.0, with_met m n.1) c r h

module _ (wide : Bool) (o : List ℕ) (n : Notes) (e : length o ≡ 48) where
  -- AN OUTCOME THAT IS NOTED is there: noted again, wherever, it changes nothing
  pub noted_settles : (r r' : ℕ) → noted wide o r' (noted wide o r n) ≡ noted wide o r n
  noted_settles r r' = go (noting wide o r n)
    where
      go : Noting wide o r n → noted wide o r' (noted wide o r n) ≡ noted wide o r n
      go (full h q) = rw q (noted_full wide n o r' h)
      go (over room h q) = rw q (over_full wide o r' n (length (new_rows wide o r n)) h)
      go (within room fits q) =
          let n' : Notes = after wide o r n e room fits in
          let rows = after_rows wide o r n e room fits in
          let p = place_bytes wide (n.1.budget - r) in
          let p' = place_bytes wide (n'.1.budget - r') in
          let alike : (x y : List ℕ) → row_smaller (o ++ x) (o ++ y) ≡ false = λ x y. ap₂ smaller (new_key o x e) (new_key o y e) ∙ smaller_irreflexive o in
          rw q
          (noted_there wide n' o r' (after_room wide o r n e room fits)
          (ap (entered row_smaller (o ++ p')) rows ∙ entered_again row_smaller row_order (o ++ p) (o ++ p') (old_rows wide n) (alike p p') (alike p' p) ∙ sym rows))

  -- an outcome that changes nothing is there
  there_already : (r : ℕ) → noted wide o r n ≡ n → met_of n ≤ capacity wide n.0 → new_rows wide o r n ≡ old_rows wide n
  there_already r h room = go (noting wide o r n)
    where
      count : (m : ℕ) → with_met m n.1 ≡ n.1 → m ≡ met_of n
      count m q = ap (λ (s : Sheet). s.met) q

      go : Noting wide o r n → new_rows wide o r n ≡ old_rows wide n
      go (full l q) = absurd (omega arith)
      go (over room' l q) = let k = count (length (new_rows wide o r n)) (ap (λ (x : Notes). x.1) (sym q ∙ h)) in absurd (omega arith)
      go (within room' fits q) =
          let k = count (length (new_rows wide o r n)) (ap (λ (x : Notes). x.1) (sym q ∙ h)) in
          entered_unchanged row_smaller (new_row wide o r n) (old_rows wide n) (k ∙ sym (old_length wide n))

  -- IT STAYS, whatever else is noted
  pub noted_stays : (c : List ℕ) → length c ≡ 48 → ((r : ℕ) → noted wide o r n ≡ n) → (r r' : ℕ) → noted wide o r (noted wide c r' n) ≡ noted wide c r' n
  noted_stays c ec there r r' = go (noting wide c r' n)
    where
      go : Noting wide c r' n → noted wide o r (noted wide c r' n) ≡ noted wide c r' n
      go (full h q) = rw q (there r)
      go (over room h q) = rw q (over_full wide o r n (length (new_rows wide c r' n)) h)
      go (within room fits q) =
          let n' : Notes = after wide c r' n ec room fits in
          let rows = after_rows wide c r' n ec room fits in
          let old = there_already r (there r) room in
          rw q
          (noted_there wide n' o r (after_room wide c r' n ec room fits)
          (ap (entered row_smaller (new_row wide o r n)) rows
          ∙ entered_stays row_smaller row_order (new_row wide o r n) (new_row wide c r' n) (old_rows wide n) old ∙ sym rows))

-- THE ROWS STAY IN ORDER
pub noted_orderly : (wide : Bool) (o : List ℕ) (r : ℕ) (n : Notes) → length o ≡ 48 → Orderly wide n → Orderly wide (noted wide o r n)
noted_orderly wide o r n e k = record { rising = go (noting wide o r n) }
  where
    Rises : Notes → Type 0
    Rises m = met_of m ≤ capacity wide m.0 → Ascending (λ (x y : List ℕ). row_smaller x y ≡ true) (old_rows wide m)

    go : Noting wide o r n → Rises (noted wide o r n)
    go (full h q) = subst Rises (sym q) k.rising
    go (over room h q) = subst Rises (sym q) (λ m. absurd (omega arith))
    go (within room fits q) =
        let n' : Notes = after wide o r n e room fits in
        subst Rises (sym q)
        (λ m. rw (after_rows wide o r n e room fits) (entered_ascending row_smaller row_order (new_row wide o r n) (old_rows wide n) (k.rising room)))

-- ---- a well-formed machine
module _ (p : Program) (x : Machine) (f : Formed p x) where
  facts : MachineOk p x
  facts = (machine_iff p ((program_iff p).0 f.program_formed).few_threads x).0 f.machine_formed

  pub formed_placed : Placed x.memory
  formed_placed =
      record {
        few = facts.memory_ok.room;
        low = λ t h. subst (λ (w : Message). w.location < 16) (message_place x.memory t) (facts.memory_ok.messages (suc t) (omega arith) h).location;
      }

  -- the registers of a thread that the program has not are all 0, as the outcome has them
  values_same : (i : ℕ) → register_values p x i ≡ map (λ (r : ℕ). (get_or (thread_of x i).registers r fresh_register).value) (range 0 8)
  unfolding fresh_thread range
  values_same i =
      elim (dec_lt i p.threads) [
        | yes h ↦ rw (lt-ltb i p.threads h)
        | no h ↦ rw (le-ltb i p.threads (omega arith), facts.unused i (omega arith))
      ]

  pub ending_is : outcome p x ≡ ending x
  unfolding outcome ending
  ending_is = ap (λ (g : ℕ → List ℕ). for_each (range 0 4) g ++ map (λ (l : ℕ). last_value x.memory l) (range 0 16)) (fun_ext values_same)
