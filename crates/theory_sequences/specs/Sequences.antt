-- Accepted sequences of steps, their order, and the ordered list of them.
-- Assumes nothing.
use Rattle.std.specs.Prelude.{◌≡◌, Bool, false, ◌⊎◌, List, [], ◌∷◌, ◌++◌, map, ℕ, zero, suc}
use Rattle.std.proofs.Math.Option.{Option, none, some}
use Rattle.theory_sequences.specs.Stepping.{Stepping}

-- a stands in the list
abbrev pub Among : {A : Type 0} → A → List A → Type 0
Among a [] = ⊥
Among a (b ∷ l) = (a ≡ b) ⊎ Among a l

-- each stands before all that come after it
abbrev pub Ascending : {A : Type 0} → (A → A → Type 0) → List A → Type 0
Ascending R [] = Unit {0}
Ascending {A} R (a ∷ l) = ((b : A) → Among b l → R a b) × Ascending R l

module _ (M : Stepping) where
  -- a sequence is before all that begin with it; two others are in the order of the first steps in which they differ
  abbrev pub Before : List M.Step → List M.Step → Type 0
  Before x [] = ⊥
  Before [] (b ∷ y) = Unit {0}
  Before (a ∷ x) (b ∷ y) = M.Less a b ⊎ ((a ≡ b) × Before x y)

  -- where the steps lead from s, if each is accepted in turn
  unfoldable pub run : M.State → List M.Step → Option M.State
  run s [] = some s
  run s (k ∷ q) = elim (M.next s k) [ none ↦ none | some t ↦ run t q ]

  -- q is an accepted sequence from s
  abbrev pub Accepted : M.State → List M.Step → Type 0
  Accepted s q = (t : M.State) × (run s q ≡ some t)

  -- q is an accepted sequence from s that ends complete, with the asked outcome
  unfoldable pub wanted : M.State → List M.Step → Bool
  wanted s q = elim (run s q) [ none ↦ false | some t ↦ M.asked t ]

  -- the sequences that begin with k, where k leads to a state whose sequences f lists
  abbrev pub begun : (M.State → List (List M.Step)) → M.Step → Option M.State → List (List M.Step)
  begun f k none = []
  begun f k (some t) = map (λ (q : List M.Step). k ∷ q) (f t)

  -- the sequences from s that begin with one of the steps ks
  unfoldable pub branches : (M.State → List (List M.Step)) → M.State → List M.Step → List (List M.Step)
  branches f s [] = []
  branches f s (k ∷ ks) = begun f k (M.next s k) ++ branches f s ks

  -- the accepted sequences from s of at most n steps, in order: the empty one, then those that begin with each accepted step in turn
  unfoldable pub upto : ℕ → M.State → List (List M.Step)
  upto zero s = [] ∷ []
  upto (suc n) s = [] ∷ branches (λ t. upto n t) s M.steps

  -- l is the list of all accepted sequences from s, in order, each once
  pub record Listed (s : M.State) (l : List (List M.Step)) : Type 0 where
    pub sorted : Ascending Before l
    pub sound : (q : List M.Step) → Among q l → Accepted s q
    pub complete : (q : List M.Step) → Accepted s q → Among q l
