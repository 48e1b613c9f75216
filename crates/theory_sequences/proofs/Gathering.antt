-- A search that no sequence ends, beside the outcomes that are gathered along the same list.
-- Assumes nothing.
use mathlib.Core.Path.{◌≡◌, refl, ap, ◌∙◌}
use mathlib.Core.Bool.{Bool}
use mathlib.Core.List.{List, [], ◌∷◌}
use mathlib.Core.Option.{Option, none, some}
use Prim.Native.Nat.{ℕ, zero, suc, ◌+◌, ◌-◌, ◌≤◌, ◌<◌}
use native.Mathlib.Omega.{arith}
use lib.ListN.{length}
use Rattle.theory_sequences.specs.Scan.{going, out, scan}
use Rattle.theory_sequences.specs.Listing.{Entry, entered, earlier, gathered}

module _ {A O : Type 0} (smaller : O → O → Bool) (ending : List A → Option O) where
  -- the entries once q is visited, after k others: its outcome, if it has one, is entered with its place
  abbrev pub with_ending : ℕ → List A → List (Entry O) → List (Entry O)
  with_ending k q e = elim (ending q) [ none ↦ e | some o ↦ entered (earlier smaller ending) (record { outcome = o; place = suc k }) e ]

  -- with the budget b, what is noted holds the entries: it still does after each sequence, and the search goes on
  module _ {N : Type 0} (Holds : List (Entry O) → N → Type 0) (b : ℕ) (g : List A → ℕ → N → Option N)
      (noting : (q : List A) (k c : ℕ) → k + suc c ≡ b → (e : List (Entry O)) (n : N) → Holds e n → (m : N) × (g q c n ≡ some m) × Holds (with_ending k q e) m)
    where
      -- the budget suffices: the search goes through the whole list, and what is noted holds all that is gathered
      pub gathers : (l : List (List A)) (k c : ℕ) → k + c ≡ b → length l ≤ c → (e : List (Entry O)) (n : N) → Holds e n
          → (m : N) × (scan g l c n ≡ going (c - length l) m) × Holds (gathered smaller ending k l e) m
      unfolding scan gathered
      gathers [] k c s h e n r = (n, ap (λ (d : ℕ). going d n) (omega arith), r)
      gathers (q ∷ l) k zero s h e n r = absurd (omega arith)
      gathers (q ∷ l) k (suc c) s h e n r =
          let t = noting q k c s e n r in
          let i = gathers l (suc k) c (omega arith) (omega arith) (with_ending k q e) t.0 t.2 in
          (i.0, rw (t.1, scan) (i.1 ∙ ap (λ (d : ℕ). going d i.0) (omega arith)), i.2)

      -- it does not: the search meets a sequence with nothing left
      pub runs_out : (l : List (List A)) (k c : ℕ) → k + c ≡ b → c < length l → (e : List (Entry O)) (n : N) → Holds e n → (m : N) × (scan g l c n ≡ out m)
      unfolding scan
      runs_out [] k c s h e n r = absurd (omega arith)
      runs_out (q ∷ l) k zero s h e n r = (n, refl)
      runs_out (q ∷ l) k (suc c) s h e n r =
          let t = noting q k c s e n r in
          let i = runs_out l (suc k) c (omega arith) (omega arith) (with_ending k q e) t.0 t.2 in
          (i.0, rw (t.1, scan) i.1)
