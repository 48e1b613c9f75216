-- Two ways to take a step that agree on every state a search can reach: the search is the same.
-- Assumes nothing.
use mathlib.Core.Path.{◌≡◌, refl, ap, ◌∙◌}
use mathlib.Core.List.{List, [], ◌∷◌}
use mathlib.Core.Option.{Option, none, some}
use Prim.Native.Nat.{ℕ, zero, suc}
use Rattle.theory_sequences.specs.Stepping.{Stepping}
use Rattle.theory_sequences.specs.Scan.{Scan, found, and_then, under, Act}
use Rattle.theory_sequences.proofs.Fewer.{each, hunt, and_then_same}

-- M, with another way to take a step
abbrev pub stepped_by : (M : Stepping) → (M.State → M.Step → Option M.State) → Stepping
stepped_by M next = record { State = M.State; Step = M.Step; next = next; steps = M.steps; Less = M.Less; asked = M.asked }

module _ (M : Stepping) (next : M.State → M.Step → Option M.State) (Inv : M.State → Type 0)
    (same : (s : M.State) (k : M.Step) → Inv s → M.next s k ≡ next s k)
    (kept : (s t : M.State) (k : M.Step) → Inv s → M.next s k ≡ some t → Inv t)
  where
    module _ {N : Type 0} where
      each_alike : (f g : M.State → ℕ → N → Scan M.Step N) → ((t : M.State) (b : ℕ) (m : N) → Inv t → f t b m ≡ g t b m) → (s : M.State) → Inv s
          → (ks : List M.Step) (b : ℕ) (m : N) → each M f s ks b m ≡ each (stepped_by M next) g s ks b m
      unfolding each
      each_alike f g h s i [] b m = refl
      each_alike f g h s i (k ∷ ks) b m = go (M.next s k) refl (λ c j. each_alike f g h s i ks c j) ∙ ap rest (same s k i)
        where
          rest : Option M.State → Scan M.Step N
          rest o = elim o [ none ↦ each (stepped_by M next) g s ks b m | some t ↦ and_then (under k (g t b m)) (λ c j. each (stepped_by M next) g s ks c j) ]

          go : (o : Option M.State) → M.next s k ≡ o → ((c : ℕ) (j : N) → each M f s ks c j ≡ each (stepped_by M next) g s ks c j)
              → ◌≡◌ {A = Scan M.Step N} (elim o [ none ↦ each M f s ks b m | some t ↦ and_then (under k (f t b m)) (λ c j. each M f s ks c j) ])
              (elim o [ none ↦ each (stepped_by M next) g s ks b m | some t ↦ and_then (under k (g t b m)) (λ c j. each (stepped_by M next) g s ks c j) ])
          go none e rec = rec b m
          go (some t) e rec =
              ap (λ (x : Scan M.Step N). and_then (under k x) (λ c j. each M f s ks c j)) (h t b m (kept s t k i e))
              ∙ and_then_same M (under k (g t b m)) (λ c j. each M f s ks c j) (λ c j. each (stepped_by M next) g s ks c j) rec

      -- from a state that has the invariant, the search is the same
      pub hunt_alike : (act : Act M N) (few : M.State → List M.Step) (n : ℕ) (s : M.State) → Inv s → (b : ℕ) (m : N) → hunt M act few n s b m ≡ hunt (stepped_by M next) act few n s b m
      unfolding hunt
      hunt_alike act few zero s i zero m = refl
      hunt_alike act few zero s i (suc b) m = refl
      hunt_alike act few (suc n) s i zero m = refl
      hunt_alike act few (suc n) s i (suc b) m =
          go (act s b m) (λ k. each_alike (λ t c j. hunt M act few n t c j) (λ t c j. hunt (stepped_by M next) act few n t c j) (λ t c j l. hunt_alike act few n t l c j) s i (few s) b k)
        where
          go : (o : Option N) → ((k : N) → each M (λ t c j. hunt M act few n t c j) s (few s) b k ≡ each (stepped_by M next) (λ t c j. hunt (stepped_by M next) act few n t c j) s (few s) b k)
              → ◌≡◌ {A = Scan M.Step N} (elim o [ none ↦ found b [] m | some k ↦ each M (λ t c j. hunt M act few n t c j) s (few s) b k ])
              (elim o [ none ↦ found b [] m | some k ↦ each (stepped_by M next) (λ t c j. hunt (stepped_by M next) act few n t c j) s (few s) b k ])
          go none h = refl
          go (some k) h = h k
