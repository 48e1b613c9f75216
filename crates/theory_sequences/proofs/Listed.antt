-- With n at least the bound, `upto n` is the list of all accepted sequences in order, and there is no other.
use mathlib.Core.Path.{◌≡◌, refl, ap, ◌∙◌}
use mathlib.Core.Logic.{inl, inr, ⊎_elim}
use mathlib.Core.List.{List, [], ◌∷◌, ◌++◌, map}
use mathlib.Core.Option.{Option, none, some}
use Prim.Native.Nat.{ℕ, zero, suc, ◌≤◌}
use native.Mathlib.Omega.{arith}
use lib.ListN.{length}
use borrow.Author.Tests.{eqb-false}
use Rattle.theory_sequences.specs.Stepping.{Stepping}
use Rattle.theory_sequences.specs.Sequences.{Among, Ascending, Before, run, Accepted, begun, branches, upto, Listed}
use Rattle.theory_sequences.specs.Lawful.{Lawful}
use Rattle.theory_sequences.proofs.Ordered.{among_left, among_right, among_cases, among_map, among_unmap, ascending_append, same_members, before_asym}

module _ (M : Stepping) where
  -- ---- one step

  -- a run of k and then q is a step by k and then a run of q
  pub first_step : (s u : M.State) (k : M.Step) (q : List M.Step) → run M s (k ∷ q) ≡ some u → (t : M.State) × (M.next s k ≡ some t) × (run M t q ≡ some u)
  unfolding run
  first_step s u k q h = go (M.next s k) refl h
    where
      go : (o : Option M.State) → M.next s k ≡ o → elim o [ none ↦ none | some t ↦ run M t q ] ≡ some u
          → (t : M.State) × (M.next s k ≡ some t) × (run M t q ≡ some u)
      go none e h = absurd (eqb-false 0 1 refl cc)
      go (some t) e h = (t, e, h)

  -- a step by k and then a run of q is a run of k and then q
  pub run_step : (s t : M.State) (k : M.Step) (q : List M.Step) → M.next s k ≡ some t → run M s (k ∷ q) ≡ run M t q
  unfolding run
  run_step s t k q e = rw (e, run)

  -- ---- the sequences that begin with one of some steps

  -- `branches` asks f only of states that an accepted step leads to
  pub branches_same : (f g : M.State → List (List M.Step)) (s : M.State) (ks : List M.Step)
      → ((k : M.Step) (t : M.State) → M.next s k ≡ some t → f t ≡ g t) → branches M f s ks ≡ branches M g s ks
  unfolding branches
  branches_same f g s [] h = refl
  branches_same f g s (k ∷ ks) h = go (M.next s k) refl (branches_same f g s ks h)
    where
      go : (o : Option M.State) → M.next s k ≡ o → branches M f s ks ≡ branches M g s ks
          → begun M f k o ++ branches M f s ks ≡ begun M g k o ++ branches M g s ks
      go none e r = r
      go (some t) e r = rw (h k t e, r)

  -- q begins with an accepted step of ks, and f lists the remainder
  record From (f : M.State → List (List M.Step)) (s : M.State) (ks q : List M.Step) : Type 0 where
    first : M.Step
    after : M.State
    rest : List M.Step
    is : q ≡ first ∷ rest
    tried : Among first ks
    goes : M.next s first ≡ some after
    rest_in : Among rest (f after)

  from_branches : (f : M.State → List (List M.Step)) (s : M.State) (ks q : List M.Step) → Among q (branches M f s ks) → From f s ks q
  unfolding branches
  from_branches f s [] q h = absurd h
  from_branches f s (k ∷ ks) q h = go (M.next s k) refl h (λ i. from_branches f s ks q i)
    where
      later : From f s ks q → From f s (k ∷ ks) q
      later i = record { first = i.first; after = i.after; rest = i.rest; is = i.is; tried = inr i.tried; goes = i.goes; rest_in = i.rest_in }

      here : (t : M.State) → M.next s k ≡ some t → ((r : List M.Step) × (q ≡ k ∷ r) × Among r (f t)) → From f s (k ∷ ks) q
      here t e i = record { first = k; after = t; rest = i.0; is = i.1; tried = inl refl; goes = e; rest_in = i.2 }

      go : (o : Option M.State) → M.next s k ≡ o → Among q (begun M f k o ++ branches M f s ks) → (Among q (branches M f s ks) → From f s ks q)
          → From f s (k ∷ ks) q
      go none e i rec = later (rec i)
      go (some t) e i rec =
          ⊎_elim (λ j. here t e (among_unmap (λ (r : List M.Step). k ∷ r) q (f t) j)) (λ j. later (rec j))
          (among_cases q (begun M f k (some t)) (branches M f s ks) i)

  to_branches : (f : M.State → List (List M.Step)) (s t : M.State) (k : M.Step) (ks q : List M.Step) → Among k ks → M.next s k ≡ some t
      → Among q (f t) → Among (k ∷ q) (branches M f s ks)
  unfolding branches
  to_branches f s t k [] q i e h = absurd i
  to_branches f s t k (j ∷ ks) q (inl d) e h =
      among_left (k ∷ q) (begun M f j (M.next s j)) (branches M f s ks) (rw (← d, e) (among_map (λ (r : List M.Step). k ∷ r) q (f t) h))
  to_branches f s t k (j ∷ ks) q (inr i) e h =
      among_right (k ∷ q) (begun M f j (M.next s j)) (branches M f s ks) (to_branches f s t k ks q i e h)

  ascending_begun : (k : M.Step) (l : List (List M.Step)) → Ascending (Before M) l → Ascending (Before M) (map (λ (q : List M.Step). k ∷ q) l)
  ascending_begun k [] s = tt
  ascending_begun k (x ∷ l) s =
      ((λ q h. let i = among_unmap (λ (r : List M.Step). k ∷ r) q l h in rw i.1 (inr (refl, s.0 i.0 i.2))), ascending_begun k l s.1)

  ascending_branches : (f : M.State → List (List M.Step)) (s : M.State) (ks : List M.Step) → Ascending M.Less ks
      → ((t : M.State) → Ascending (Before M) (f t)) → Ascending (Before M) (branches M f s ks)
  unfolding branches
  ascending_branches f s [] r h = tt
  ascending_branches f s (k ∷ ks) r h = go (M.next s k) (ascending_branches f s ks r.1 h)
    where
      apart : (t : M.State) (p q : List M.Step) → Among p (begun M f k (some t)) → Among q (branches M f s ks) → Before M p q
      apart t p q i j =
          let a = among_unmap (λ (x : List M.Step). k ∷ x) p (f t) i in
          let b = from_branches f s ks q j in
          rw (a.1, b.is) (inl (r.0 b.first b.tried))

      go : (o : Option M.State) → Ascending (Before M) (branches M f s ks) → Ascending (Before M) (begun M f k o ++ branches M f s ks)
      go none i = i
      go (some t) i = ascending_append (Before M) (begun M f k (some t)) (branches M f s ks) (ascending_begun k (f t) (h t)) i (apart t)

  -- ---- the sequences of at most n steps

  -- each listed sequence is accepted
  pub upto_sound : (n : ℕ) (s : M.State) (q : List M.Step) → Among q (upto M n s) → Accepted M s q
  unfolding upto run
  upto_sound zero s q (inl e) = (s, rw e)
  upto_sound zero s q (inr h) = absurd h
  upto_sound (suc n) s q (inl e) = (s, rw e)
  upto_sound (suc n) s q (inr h) =
      let i = from_branches (λ t. upto M n t) s M.steps q h in
      let a = upto_sound n i.after i.rest i.rest_in in
      (a.0, ap (λ x. run M s x) i.is ∙ run_step s i.after i.first i.rest i.goes ∙ a.1)

  ascending_upto : (n : ℕ) (s : M.State) → Ascending M.Less M.steps → Ascending (Before M) (upto M n s)
  unfolding upto
  ascending_upto zero s r = ((λ q h. absurd h), tt)
  ascending_upto (suc n) s r = (
    (λ q h. let i = from_branches (λ t. upto M n t) s M.steps q h in rw i.is tt),
    ascending_branches (λ t. upto M n t) s M.steps r (λ t. ascending_upto n t r),
  )

  module _ (L : Lawful M) where
    -- every accepted sequence of at most n steps is listed
    pub upto_complete : (n : ℕ) (s : M.State) (q : List M.Step) → length q ≤ n → Accepted M s q → Among q (upto M n s)
    unfolding upto
    upto_complete zero s [] l h = inl refl
    upto_complete zero s (k ∷ q) l h = absurd (omega arith)
    upto_complete (suc n) s [] l h = inl refl
    upto_complete (suc n) s (k ∷ q) l h =
        let i = first_step s h.0 k q h.1 in
        inr (to_branches (λ t. upto M n t) s i.0 k M.steps q (L.tried s k i.0 i.1) i.1 (upto_complete n i.0 q (omega arith) (h.0, i.2)))

    -- no accepted sequence has more steps than the bound
    pub short : (s : M.State) (q : List M.Step) → Accepted M s q → length q ≤ L.bound s
    short s [] h = omega arith
    short s (k ∷ q) h =
        let i = first_step s h.0 k q h.1 in
        omega (arith, short i.0 q (h.0, i.2), L.falls s k i.0 i.1)

    -- from the bound on, the list is the list of all accepted sequences, in order
    pub listed : (n : ℕ) (s : M.State) → L.bound s ≤ n → Listed M s (upto M n s)
    listed n s h = record {
      sorted = ascending_upto n s L.rising;
      sound = λ q i. upto_sound n s q i;
      complete = λ q i. upto_complete n s q (omega (arith, short s q i)) i;
    }

    -- there is one list of all accepted sequences in order
    pub one_list : (s : M.State) (l m : List (List M.Step)) → Listed M s l → Listed M s m → l ≡ m
    one_list s l m h i =
        same_members (Before M) (before_asym M L) l m h.sorted i.sorted (λ q j. i.complete q (h.sound q j)) (λ q j. h.complete q (i.sound q j))

    -- a list of all accepted sequences in order is `upto`, from the bound on
    pub only : (n : ℕ) (s : M.State) → L.bound s ≤ n → (l : List (List M.Step)) → Listed M s l → l ≡ upto M n s
    only n s h l i = one_list s l (upto M n s) i (listed n s h)

    -- from the bound on, the list stays the same
    pub enough : (n m : ℕ) (s : M.State) → L.bound s ≤ n → L.bound s ≤ m → upto M n s ≡ upto M m s
    enough n m s h i = one_list s (upto M n s) (upto M m s) (listed n s h) (listed m s i)

    -- the empty sequence, and then those that begin with each step in turn
    pub sequences_step : (s : M.State) → upto M (L.bound s) s ≡ [] ∷ branches M (λ t. upto M (L.bound t) t) s M.steps
    unfolding upto
    sequences_step s =
        enough (L.bound s) (suc (L.bound s)) s (omega arith) (omega arith)
        ∙ ap (λ (l : List (List M.Step)). [] ∷ l)
        (branches_same (λ t. upto M (L.bound s) t) (λ t. upto M (L.bound t) t) s M.steps
        (λ k t e. enough (L.bound s) (L.bound t) t (omega (arith, L.falls s k t e)) (omega arith)))
