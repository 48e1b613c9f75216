-- Answers that meet a call's contract coincide: the number that is returned, and every area afterwards, as a whole.
-- Assumes nothing.
use mathlib.Core.Path.{◌≡◌, sym, ap, ◌∙◌}
use mathlib.Core.List.{List, [], ◌∷◌}
use Prim.Native.Nat.{ℕ}
use lib.ListN.{get_or}
use Rattle.step.specs.Step.{Step}
use Rattle.capi.specs.Calls.{Called, called, read_call, step_call, certify_call, replay_call, CalledBeside, called_beside, search_call, within_call, outcomes_call, outcomes_within_call}

same : (n n' : ℕ) (a a' : List ℕ) (c : Called) → called n a ≡ c → called n' a' ≡ c → (n ≡ n') × (a ≡ a')
same n n' a a' c e e' = (ap (λ (x : Called). x.number) (e ∙ sym e'), ap (λ (x : Called). x.area) (e ∙ sym e'))

-- ---- with areas that are lent besides
at : ℕ → CalledBeside → List ℕ
at j x = get_or x.beside j []

module _ (n n' : ℕ) (a a' t t' : List ℕ) where
  same_one : (c : CalledBeside) → called_beside n a (t ∷ []) ≡ c → called_beside n' a' (t' ∷ []) ≡ c → ((n ≡ n') × (a ≡ a')) × (t ≡ t')
  unfolding at
  same_one c e e' = (same n n' a a' c.call (ap (λ (x : CalledBeside). x.call) e) (ap (λ (x : CalledBeside). x.call) e'), ap (at 0) (e ∙ sym e'))

  same_two : (k k' : List ℕ) (c : CalledBeside) → called_beside n a (t ∷ k ∷ []) ≡ c → called_beside n' a' (t' ∷ k' ∷ []) ≡ c → ((n ≡ n') × (a ≡ a')) × (t ≡ t') × (k ≡ k')
  unfolding at
  same_two k k' c e e' =
      (same n n' a a' c.call (ap (λ (x : CalledBeside). x.call) e) (ap (λ (x : CalledBeside). x.call) e'), ap (at 0) (e ∙ sym e'), ap (at 1) (e ∙ sym e'))

module _ (n n' : ℕ) (a a' area : List ℕ) where
  pub read_coincide : (file : List ℕ) → called n a ≡ read_call file area → called n' a' ≡ read_call file area → (n ≡ n') × (a ≡ a')
  read_coincide file = same n n' a a' (read_call file area)

  pub step_coincide : (p x : List ℕ) (k : Step) → called n a ≡ step_call p x k area → called n' a' ≡ step_call p x k area → (n ≡ n') × (a ≡ a')
  step_coincide p x k = same n n' a a' (step_call p x k area)

  pub certify_coincide : (p x : List ℕ) (i : ℕ) → called n a ≡ certify_call p x i area → called n' a' ≡ certify_call p x i area → (n ≡ n') × (a ≡ a')
  certify_coincide p x i = same n n' a a' (certify_call p x i area)

  pub replay_coincide : (file trace : List ℕ) → called n a ≡ replay_call file trace area → called n' a' ≡ replay_call file trace area → (n ≡ n') × (a ≡ a')
  replay_coincide file trace = same n n' a a' (replay_call file trace area)

  pub search_coincide : (file : List ℕ) (budget : ℕ) (t t' trace : List ℕ) → called_beside n a (t ∷ []) ≡ search_call file budget trace area
      → called_beside n' a' (t' ∷ []) ≡ search_call file budget trace area → ((n ≡ n') × (a ≡ a')) × (t ≡ t')
  search_coincide file budget t t' trace = same_one n n' a a' t t' (search_call file budget trace area)

  pub within_coincide : (file : List ℕ) (budget : ℕ) (t t' trace k k' table : List ℕ) → called_beside n a (t ∷ k ∷ []) ≡ within_call file budget trace table area
      → called_beside n' a' (t' ∷ k' ∷ []) ≡ within_call file budget trace table area → ((n ≡ n') × (a ≡ a')) × (t ≡ t') × (k ≡ k')
  within_coincide file budget t t' trace k k' table = same_two n n' a a' t t' k k' (within_call file budget trace table area)

  pub outcomes_coincide : (file : List ℕ) (budget : ℕ) (o o' outcomes : List ℕ) → called_beside n a (o ∷ []) ≡ outcomes_call file budget outcomes area
      → called_beside n' a' (o' ∷ []) ≡ outcomes_call file budget outcomes area → ((n ≡ n') × (a ≡ a')) × (o ≡ o')
  outcomes_coincide file budget o o' outcomes = same_one n n' a a' o o' (outcomes_call file budget outcomes area)

  pub outcomes_within_coincide : (file : List ℕ) (budget : ℕ) (o o' outcomes k k' table : List ℕ) → called_beside n a (o ∷ k ∷ []) ≡ outcomes_within_call file budget outcomes table area
      → called_beside n' a' (o' ∷ k' ∷ []) ≡ outcomes_within_call file budget outcomes table area → ((n ≡ n') × (a ≡ a')) × (o ≡ o') × (k ≡ k')
  outcomes_within_coincide file budget o o' outcomes k k' table = same_two n n' a a' o o' k k' (outcomes_within_call file budget outcomes table area)
