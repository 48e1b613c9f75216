-- All outcomes, each once: what a listing over a list of sequences shows, and what is demanded of it.
-- Assumes nothing.
use Rattle.std.specs.Prelude.{◌≡◌, Bool, true, false, cond, List, [], ◌∷◌, ℕ, suc, ◌-◌, ◌≤◌, ◌<◌, leb, length, get_or}
use Rattle.std.proofs.Math.Option.{Option, none, some}
use Rattle.theory_sequences.specs.Sequences.{Among, Ascending}

-- a, in its place in an ascending list; where one stands that is neither before nor after a, the list stays as it is
unfoldable pub entered : {A : Type 0} → (A → A → Bool) → A → List A → List A
entered before a [] = a ∷ []
entered before a (c ∷ l) =
    elim (before a c) [
      | true ↦ a ∷ c ∷ l
      | false ↦ elim (before c a) [ true ↦ c ∷ entered before a l | false ↦ c ∷ l ]
    ]

-- an outcome, with the place of the first sequence that reaches it
pub record Entry (O : Type 0) : Type 0 where
  pub outcome : O
  pub place : ℕ

-- finished, with the number of all sequences and the outcomes; or not finished, with the budget
pub data Listing (O : Type 0) : Type 0 where
  finished : ℕ → List (Entry O) → Listing O
  unfinished : ℕ → Listing O

module _ {A O : Type 0} (smaller : O → O → Bool) (ending : List A → Option O) where
  abbrev pub earlier : Entry O → Entry O → Bool
  earlier x y = smaller x.outcome y.outcome

  -- along the list, with k sequences visited and so many outcomes listed: the outcome of the next, if it has one, is entered with its place
  unfoldable pub gathered : ℕ → List (List A) → List (Entry O) → List (Entry O)
  gathered k [] listed = listed
  gathered k (q ∷ l) listed =
      gathered (suc k) l (elim (ending q) [ none ↦ listed | some o ↦ entered earlier (record { outcome = o; place = suc k }) listed ])

  -- THE LISTING with budget b
  unfoldable pub listing : List (List A) → ℕ → Listing O
  listing l b = cond (leb (length l) b) (finished (length l) (gathered 0 l [])) (unfinished b)

  -- the sequence at place n, counted from 1, has the outcome o, and none before it has
  pub record FirstWith (l : List (List A)) (o : O) (n : ℕ) : Type 0 where
    pub from_one : 0 < n
    pub in_list : n ≤ length l
    pub reached : ending (get_or l (n - 1) []) ≡ some o
    pub none_before : (j : ℕ) → j < n - 1 → ending (get_or l j []) ≡ some o → ⊥

  -- what is demanded of the outcomes e that are listed over l
  pub record Lists (l : List (List A)) (e : List (Entry O)) : Type 0 where
    -- smallest first, none twice
    pub ascending : Ascending (λ (x y : Entry O). earlier x y ≡ true) e
    -- whatever is listed is reached, first at its place
    pub sound : (x : Entry O) → Among x e → FirstWith l x.outcome x.place
    -- whatever is reached is listed
    pub complete : (j : ℕ) → j < length l → (o : O) → ending (get_or l j []) ≡ some o → (n : ℕ) × Among (record { outcome = o; place = n }) e

  -- what is demanded of a listing r with budget b
  pub record ListingDemand (l : List (List A)) (b : ℕ) (r : Listing O) : Type 0 where
    -- there are at most b sequences: finished
    pub finished_if : length l ≤ b → (n : ℕ) × (e : List (Entry O)) × (r ≡ finished n e)
    -- finished: the count is the number of all, and every outcome is listed
    pub finished_then : (n : ℕ) (e : List (Entry O)) → r ≡ finished n e → (n ≡ length l) × (length l ≤ b) × Lists l e
    -- not finished, which is every other case: the count is b
    pub unfinished_then : (n : ℕ) → r ≡ unfinished n → n ≡ b
