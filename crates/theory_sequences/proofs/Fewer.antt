-- Trying fewer steps: a depth-first search that tries the steps `few s` of a state s, each once, and computes what the search over all steps does.
use mathlib.Core.Path.{◌≡◌, refl, ap, sym, ◌∙◌, subst}
use mathlib.Core.Logic.{inl, inr, ⊎_elim}
use mathlib.Core.List.{List, [], ◌∷◌, ◌++◌}
use mathlib.Core.Option.{Option, none, some}
use Prim.Native.Nat.{ℕ, zero, suc}
use Rattle.theory_sequences.specs.Stepping.{Stepping}
use Rattle.theory_sequences.specs.Sequences.{Among, Ascending, run, wanted, begun, branches, upto}
use Rattle.theory_sequences.specs.Lawful.{Lawful}
use Rattle.theory_sequences.specs.Answer.{answer}
use Rattle.theory_sequences.proofs.Scan.{answer_told, scan_same, scan_append, scan_map, done_step, asked_wanted}
use Rattle.theory_sequences.specs.Scan.{Scan, going, found, out, scan, told, and_then, under, Act, asking, done_at}

module _ (M : Stepping) {N : Type 0} where
  -- ---- the search

  -- the search below each of the steps ks in turn, where f searches from a state
  unfoldable pub each : (M.State → ℕ → N → Scan M.Step N) → M.State → List M.Step → ℕ → N → Scan M.Step N
  each f s [] b n = going b n
  each f s (k ∷ ks) b n = elim (M.next s k) [ none ↦ each f s ks b n | some t ↦ and_then (under k (f t b n)) (λ c m. each f s ks c m) ]

  -- the search from s with b left and m noted, through sequences of at most n steps
  unfoldable pub hunt : Act M N → (M.State → List M.Step) → ℕ → M.State → ℕ → N → Scan M.Step N
  hunt act few zero s zero m = out m
  hunt act few zero s (suc b) m = elim (act s b m) [ none ↦ found b [] m | some k ↦ going b k ]
  hunt act few (suc n) s zero m = out m
  hunt act few (suc n) s (suc b) m = elim (act s b m) [ none ↦ found b [] m | some k ↦ each (λ t c j. hunt act few n t c j) s (few s) b k ]

  pub and_then_same : (x : Scan M.Step N) (f g : ℕ → N → Scan M.Step N) → ((c : ℕ) (m : N) → f c m ≡ g c m) → and_then x f ≡ and_then x g
  and_then_same (going c m) f g h = h c m
  and_then_same (found c q m) f g h = refl
  and_then_same (out m) f g h = refl

  module _ (act : Act M N) where
    each_is : (f : M.State → ℕ → N → Scan M.Step N) (l : M.State → List (List M.Step)) → ((t : M.State) (b : ℕ) (m : N) → f t b m ≡ scan (done_at M act t) (l t) b m)
        → (s : M.State) (ks : List M.Step) (b : ℕ) (m : N) → each f s ks b m ≡ scan (done_at M act s) (branches M l s ks) b m
    unfolding each branches scan
    each_is f l h s [] b m = refl
    each_is f l h s (k ∷ ks) b m = go (M.next s k) refl (λ c j. each_is f l h s ks c j)
      where
        go : (o : Option M.State) → M.next s k ≡ o → ((c : ℕ) (j : N) → each f s ks c j ≡ scan (done_at M act s) (branches M l s ks) c j)
            → elim o [ none ↦ each f s ks b m | some t ↦ and_then (under k (f t b m)) (λ c j. each f s ks c j) ]
            ≡ scan (done_at M act s) (begun M l k o ++ branches M l s ks) b m
        go none e rec = rec b m
        go (some t) e rec =
            ap (λ (x : Scan M.Step N). and_then (under k x) (λ c j. each f s ks c j)) (h t b m)
            ∙ ap (λ (x : Scan M.Step N). and_then x (λ c j. each f s ks c j)) (sym (scan_map (done_at M act s) (done_at M act t) k (done_step M act s t k e) (l t) b m))
            ∙ and_then_same (scan (done_at M act s) (begun M l k (some t)) b m) (λ c j. each f s ks c j) (λ c j. scan (done_at M act s) (branches M l s ks) c j) rec
            ∙ sym (scan_append (done_at M act s) (begun M l k (some t)) (branches M l s ks) b m)

  module _ (few : M.State → List M.Step) (same : (s : M.State) (f : M.State → List (List M.Step)) → branches M f s (few s) ≡ branches M f s M.steps) where
    -- where the steps left out make no difference, the search is the search through the list
    pub hunt_is : (act : Act M N) (n : ℕ) (s : M.State) (b : ℕ) (m : N) → hunt act few n s b m ≡ scan (done_at M act s) (upto M n s) b m
    unfolding hunt upto scan done_at run
    hunt_is act zero s zero m = refl
    hunt_is act zero s (suc b) m = refl
    hunt_is act (suc n) s zero m = refl
    hunt_is act (suc n) s (suc b) m = go (act s b m) (λ k.
        each_is act (λ t c j. hunt act few n t c j) (λ t. upto M n t) (λ t c j. hunt_is act n t c j) s (few s) b k
        ∙ ap (λ (l : List (List M.Step)). scan (done_at M act s) l b k) (same s (λ t. upto M n t)))
      where
        go : (o : Option N) → ((k : N) → each (λ t c j. hunt act few n t c j) s (few s) b k ≡ scan (done_at M act s) (branches M (λ t. upto M n t) s M.steps) b k)
            → ◌≡◌ {A = Scan M.Step N} (elim o [ none ↦ found b [] m | some k ↦ each (λ t c j. hunt act few n t c j) s (few s) b k ])
            (elim o [ none ↦ found b [] m | some k ↦ scan (done_at M act s) (branches M (λ t. upto M n t) s M.steps) b k ])
        go none h = refl
        go (some k) h = h k

    -- and so it gives the answer
    pub hunt_answer : (n : ℕ) (s : M.State) (b : ℕ) (m : N) → told b (hunt (asking M.asked) few n s b m) ≡ answer (wanted M s) (upto M n s) b
    hunt_answer n s b m =
        ap (λ (x : Scan M.Step N). told b x)
        (hunt_is (asking M.asked) n s b m ∙ scan_same (done_at M (asking M.asked) s) (asking (wanted M s)) (λ q c j. asked_wanted M s q c j) (upto M n s) b m)
        ∙ answer_told (wanted M s) (upto M n s) b m

module _ (M : Stepping) where
  -- ---- which steps may be left out

  -- the first list is the second with some steps left out, each refused on s
  pub data SkipsOnly (s : M.State) : List M.Step → List M.Step → Type 0 where
    end : SkipsOnly s [] []
    keep : (k : M.Step) (ks ls : List M.Step) → SkipsOnly s ks ls → SkipsOnly s (k ∷ ks) (k ∷ ls)
    skip : (k : M.Step) (ks ls : List M.Step) → M.next s k ≡ none → SkipsOnly s ks ls → SkipsOnly s ks (k ∷ ls)

  -- steps left out that are refused make no difference
  pub branches_skip : (f : M.State → List (List M.Step)) (s : M.State) (ks ls : List M.Step) → SkipsOnly s ks ls → branches M f s ks ≡ branches M f s ls
  unfolding branches
  branches_skip f s _ _ end = refl
  branches_skip f s _ _ (keep k ks ls h) = rw (branches_skip f s ks ls h)
  branches_skip f s _ _ (skip k ks ls e h) = rw e (branches_skip f s ks ls h)

  -- nothing left out
  pub keeps_all : (s : M.State) (ls : List M.Step) → SkipsOnly s ls ls
  keeps_all s [] = end
  keeps_all s (k ∷ ls) = keep k ls ls (keeps_all s ls)

  -- all left out, where all are refused
  pub skips_all : (s : M.State) (ls : List M.Step) → ((k : M.Step) → Among k ls → M.next s k ≡ none) → SkipsOnly s [] ls
  skips_all s [] h = end
  skips_all s (k ∷ ls) h = skip k [] ls (h k (inl refl)) (skips_all s ls (λ j i. h j (inr i)))

  -- some left out of one list, and then some of another
  pub skips_append : (s : M.State) (ks ls ks' ls' : List M.Step) → SkipsOnly s ks ls → SkipsOnly s ks' ls' → SkipsOnly s (ks ++ ks') (ls ++ ls')
  skips_append s _ _ ks' ls' end i = i
  skips_append s _ _ ks' ls' (keep k ks ls h) i = keep k (ks ++ ks') (ls ++ ls') (skips_append s ks ls ks' ls' h i)
  skips_append s _ _ ks' ls' (skip k ks ls e h) i = skip k (ks ++ ks') (ls ++ ls') e (skips_append s ks ls ks' ls' h i)

  refused_if : (s : M.State) (k : M.Step) → ((t : M.State) → M.next s k ≡ some t → ⊥) → M.next s k ≡ none
  refused_if s k h = go (M.next s k) refl
    where
      go : (o : Option M.State) → M.next s k ≡ o → o ≡ none
      go none e = refl
      go (some t) e = absurd (h t e)

  module _ (L : Lawful M) where
    not_among : (k j : M.Step) (ks : List M.Step) → Ascending M.Less (j ∷ ks) → M.Less k j → Among k (j ∷ ks) → ⊥
    not_among k j ks r h (inl e) = let g : M.Less j j = rw e at h in L.less_asym j j g g
    not_among k j ks r h (inr i) = L.less_asym k j h (r.0 k i)

    -- of two ascending lists of steps, the first is the second with refused steps left out, if its steps stand in the second and it has each accepted step of it
    pub skips_rising : (s : M.State) (ls ks : List M.Step) → Ascending M.Less ls → Ascending M.Less ks → ((k : M.Step) → Among k ks → Among k ls)
        → ((k : M.Step) (t : M.State) → Among k ls → M.next s k ≡ some t → Among k ks) → SkipsOnly s ks ls
    skips_rising s [] [] x y sub has = end
    skips_rising s [] (j ∷ ks) x y sub has = absurd (sub j (inl refl))
    skips_rising s (k ∷ ls) [] x y sub has = skips_all s (k ∷ ls) (λ j i. refused_if s j (λ t e. has j t i e))
    skips_rising s (k ∷ ls) (j ∷ ks) x y sub has =
        ⊎_elim
        (λ e. rw e (keep k ks ls (skips_rising s ls ks x.1 y.1
        (λ c i. ⊎_elim (λ d. absurd (again j c (e ∙ sym d) (y.0 c i))) (λ z. z) (sub c (inr i)))
        (λ c t i n. ⊎_elim (λ d. absurd (again k c (sym e ∙ sym d) (x.0 c i))) (λ z. z) (has c t (inr i) n)))))
        (λ i. skip k (j ∷ ks) ls (refused_if s k (λ t n. not_among k j ks y (x.0 j i) (has k t (inl refl) n)))
        (skips_rising s ls (j ∷ ks) x.1 y
        (λ c m. ⊎_elim (λ d. absurd (not_among k j ks y (x.0 j i) (subst (λ (z : M.Step). Among z (j ∷ ks)) d m))) (λ z. z) (sub c m))
        (λ c t m n. has c t (inr m) n)))
        (sub j (inl refl))
      where
        again : (a c : M.Step) → a ≡ c → M.Less a c → ⊥
        again a c d h = let g : M.Less c c = rw d at h in L.less_asym c c g g

    -- steps in order, of those that are tried, with every accepted one: the premise of the search
    pub rising_same : (few : M.State → List M.Step) → ((s : M.State) → Ascending M.Less (few s)) → ((s : M.State) (k : M.Step) → Among k (few s) → Among k M.steps)
        → ((s : M.State) (k : M.Step) (t : M.State) → M.next s k ≡ some t → Among k (few s))
        → (s : M.State) (f : M.State → List (List M.Step)) → branches M f s (few s) ≡ branches M f s M.steps
    rising_same few up sub has s f = branches_skip f s (few s) M.steps (skips_rising s M.steps (few s) L.rising (up s) (sub s) (λ k t i e. has s k t e))
