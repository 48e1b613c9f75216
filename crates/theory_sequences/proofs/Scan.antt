-- The laws of a search through a list of sequences that counts its budget down and notes what it meets.
-- Assumes nothing.
use mathlib.Core.Path.{◌≡◌, refl, ap, sym, ◌∙◌}
use mathlib.Core.Bool.{Bool, true, false}
use mathlib.Core.Logic.{inl, inr}
use mathlib.Core.List.{List, [], ◌∷◌, ◌++◌, map, append_assoc}
use mathlib.Core.Option.{Option, none, some, some-injective}
use Prim.Native.Nat.{ℕ, zero, suc, ◌+◌, ◌-◌, ◌≤◌, ◌<◌}
use native.Mathlib.Omega.{arith}
use lib.ListN.{length}
use borrow.Author.Tests.{lt-ltb, le-ltb, eqb-false}
use Rattle.theory_sequences.specs.Stepping.{Stepping}
use Rattle.theory_sequences.specs.Sequences.{Among, run, wanted, begun, branches, upto}
use Rattle.theory_sequences.specs.Lawful.{Lawful}
use Rattle.theory_sequences.specs.Scan.{Scan, going, found, out, scan, NothingNew, told, and_then, under, left_of, noted_of, Act, asking, done_at, Settled, Settling}
use Rattle.theory_sequences.specs.Answer.{allowed, forbidden, visit, answer}
use Rattle.theory_sequences.proofs.Listed.{run_step, upto_sound, short, sequences_step}

-- ---- a search that asks a question
module _ {A N : Type 0} (wanted : List A → Bool) where
  -- the sequences that are wanted end the search
  abbrev pub ends : List A → ℕ → N → Option N
  ends = asking wanted

  told_visit : (l : List (List A)) (b c k : ℕ) (n : N) → b ≡ k + c → told b (scan ends l c n) ≡ visit wanted b k l
  unfolding scan visit asking
  told_visit [] b c k n e = ap forbidden (omega arith)
  told_visit (q ∷ l) b zero k n e = let h : b ≤ k = omega arith in rw (le-ltb, visit)
  told_visit (q ∷ l) b (suc c) k n e = go (wanted q) refl (told_visit l b c (suc k) n (omega arith))
    where
      go : (t : Bool) → wanted q ≡ t → told b (scan ends l c n) ≡ visit wanted b (suc k) l → told b (scan ends (q ∷ l) (suc c) n) ≡ visit wanted b k (q ∷ l)
      go true d r = let h : k < b = omega arith in rw (lt-ltb, d, visit, scan, asking) (ap (λ (n : ℕ). allowed n q) (omega arith))
      go false d r = let h : k < b = omega arith in rw (lt-ltb, d, visit, scan, asking) r

  -- a search that counts down answers as the one that counts up
  pub answer_told : (l : List (List A)) (b : ℕ) (n : N) → told b (scan ends l b n) ≡ answer wanted l b
  unfolding answer
  answer_told l b n = told_visit l b b 0 n (omega arith)

-- ---- any search
module _ {A N : Type 0} where
  -- what is done at a sequence is a matter of what is done at each
  pub scan_same : (g h : List A → ℕ → N → Option N) → ((q : List A) (b : ℕ) (n : N) → g q b n ≡ h q b n) → (l : List (List A)) (b : ℕ) (n : N) → scan g l b n ≡ scan h l b n
  unfolding scan
  scan_same g h e [] b n = refl
  scan_same g h e (q ∷ l) zero n = refl
  scan_same g h e (q ∷ l) (suc b) n = go (h q b n) (e q b n) (λ m. scan_same g h e l b m)
    where
      go : (o : Option N) → g q b n ≡ o → ((m : N) → scan g l b m ≡ scan h l b m) → scan g (q ∷ l) (suc b) n ≡ elim o [ none ↦ found b q n | some m ↦ scan h l b m ]
      go none d r = rw (d, scan)
      go (some m) d r = rw (d, scan) (r m)

  -- a search through two lists is one through the first and then one through the second
  pub scan_append : (g : List A → ℕ → N → Option N) (x y : List (List A)) (b : ℕ) (n : N) → scan g (x ++ y) b n ≡ and_then (scan g x b n) (λ c m. scan g y c m)
  unfolding scan
  scan_append g [] y b n = refl
  scan_append g (q ∷ x) y zero n = refl
  scan_append g (q ∷ x) y (suc b) n = go (g q b n) refl (λ m. scan_append g x y b m)
    where
      go : (o : Option N) → g q b n ≡ o → ((m : N) → scan g (x ++ y) b m ≡ and_then (scan g x b m) (λ c k. scan g y c k))
          → scan g (q ∷ (x ++ y)) (suc b) n ≡ and_then (scan g (q ∷ x) (suc b) n) (λ c m. scan g y c m)
      go none e r = rw (e, scan)
      go (some m) e r = rw (e, scan) (r m)

  -- a search through sequences that all begin with k is the search through their remainders, below k
  pub scan_map : (g h : List A → ℕ → N → Option N) (k : A) → ((q : List A) (b : ℕ) (n : N) → g (k ∷ q) b n ≡ h q b n) → (x : List (List A)) (b : ℕ) (n : N)
      → scan g (map (λ (q : List A). k ∷ q) x) b n ≡ under k (scan h x b n)
  unfolding scan
  scan_map g h k e [] b n = refl
  scan_map g h k e (q ∷ x) zero n = refl
  scan_map g h k e (q ∷ x) (suc b) n = go (h q b n) refl (λ m. scan_map g h k e x b m)
    where
      go : (o : Option N) → h q b n ≡ o → ((m : N) → scan g (map (λ (q : List A). k ∷ q) x) b m ≡ under k (scan h x b m))
          → scan g (map (λ (q : List A). k ∷ q) (q ∷ x)) (suc b) n ≡ under k (scan h (q ∷ x) (suc b) n)
      go none d r = rw (e q b n, d, scan)
      go (some m) d r = rw (e q b n, d, scan) (r m)

  -- what is found stands in the list, and ends the search
  pub scan_found : (g : List A → ℕ → N → Option N) (l : List (List A)) (b c : ℕ) (n m : N) (q : List A) → scan g l b n ≡ found c q m → (g q c m ≡ none) × Among q l
  unfolding scan
  scan_found g [] b c n m q e = absurd (eqb-false 0 1 refl cc)
  scan_found g (p ∷ l) zero c n m q e = absurd (eqb-false 0 1 refl cc)
  scan_found g (p ∷ l) (suc b) c n m q e = go (g p b n) refl e (λ k i. scan_found g l b c k m q i)
    where
      go : (o : Option N) → g p b n ≡ o → elim o [ none ↦ found b p n | some k ↦ scan g l b k ] ≡ found c q m → ((k : N) → scan g l b k ≡ found c q m → (g q c m ≡ none) × Among q l)
          → (g q c m ≡ none) × Among q (p ∷ l)
      go none d i rec = let same : q ≡ p = cc in let left : c ≡ b = cc in let kept : m ≡ n = cc in (rw (same, left, kept) d, inl same)
      go (some k) d i rec = let r = rec k i in (r.0, inr r.1)

  -- what a search leaves of the budget is at most the budget
  pub scan_left : (g : List A → ℕ → N → Option N) (l : List (List A)) (b : ℕ) (n : N) → left_of (scan g l b n) ≤ b
  unfolding scan
  scan_left g [] b n = omega arith
  scan_left g (q ∷ l) zero n = omega arith
  scan_left g (q ∷ l) (suc b) n = go (g q b n) (λ m. scan_left g l b m)
    where
      go : (o : Option N) → ((m : N) → left_of (scan g l b m) ≤ b) → left_of {A = A} {N = N} (elim o [ none ↦ found b q n | some m ↦ scan g l b m ]) ≤ suc b
      go none h = omega arith
      go (some m) h = let i = h m in omega arith

  -- what holds of the notes, and stays so at each sequence, holds of them after the search
  pub scan_keeps : (I : N → Type 0) (g : List A → ℕ → N → Option N) → ((q : List A) (b : ℕ) (n m : N) → I n → g q b n ≡ some m → I m)
      → (l : List (List A)) (b : ℕ) (n : N) → I n → I (noted_of (scan g l b n))
  unfolding scan
  scan_keeps I g h [] b n i = i
  scan_keeps I g h (q ∷ l) zero n i = i
  scan_keeps I g h (q ∷ l) (suc b) n i = go (g q b n) refl (λ m j. scan_keeps I g h l b m j)
    where
      go : (o : Option N) → g q b n ≡ o → ((m : N) → I m → I (noted_of (scan g l b m))) → I (noted_of {A = A} {N = N} (elim o [ none ↦ found b q n | some m ↦ scan g l b m ]))
      go none d r = i
      go (some m) d r = r m (h q b n m i d)

-- ---- a search through a list where nothing new is met
module _ {A N : Type 0} (g : List A → ℕ → N → Option N) (n : N) where
  pub scan_all : (l : List (List A)) (b : ℕ) → NothingNew g n l → length l ≤ b → scan g l b n ≡ going (b - length l) n
  unfolding scan
  scan_all [] b h i = ap (λ (c : ℕ). going c n) (omega arith)
  scan_all (q ∷ l) zero h i = absurd (omega arith)
  scan_all (q ∷ l) (suc b) h i = rw (h q (inl refl) b, scan) (scan_all l b (λ r j. h r (inr j)) (omega arith) ∙ ap (λ (c : ℕ). going c n) (omega arith))

  pub scan_spent : (l : List (List A)) (b : ℕ) → NothingNew g n l → b < length l → scan g l b n ≡ out n
  unfolding scan
  scan_spent [] b h i = absurd (omega arith)
  scan_spent (q ∷ l) zero h i = refl
  scan_spent (q ∷ l) (suc b) h i = rw (h q (inl refl) b, scan) (scan_spent l b (λ r j. h r (inr j)) (omega arith))

-- the sequences that begin with steps of two lists are those of the first and then those of the second
branches_append : (M : Stepping) (f : M.State → List (List M.Step)) (s : M.State) (ks ls : List M.Step)
    → branches M f s (ks ++ ls) ≡ branches M f s ks ++ branches M f s ls
unfolding branches
branches_append M f s [] ls = refl
branches_append M f s (k ∷ ks) ls =
    ap (λ (l : List (List M.Step)). begun M f k (M.next s k) ++ l) (branches_append M f s ks ls)
    ∙ sym (append_assoc (begun M f k (M.next s k)) (branches M f s ks) (branches M f s ls))

-- ---- what is done at the sequences of a machine
module _ (M : Stepping) {N : Type 0} (act : Act M N) where
  -- after a step by k the same is done at the remainder
  pub done_step : (s t : M.State) (k : M.Step) → M.next s k ≡ some t → (q : List M.Step) (b : ℕ) (n : N) → done_at M act s (k ∷ q) b n ≡ done_at M act t q b n
  unfolding done_at
  done_step s t k e q b n = rw (run_step M s t k q e, done_at)

  -- what each visited state keeps of the notes, each sequence keeps
  pub done_keeps : (I : N → Type 0) → ((t : M.State) (b : ℕ) (n m : N) → I n → act t b n ≡ some m → I m)
      → (s : M.State) (q : List M.Step) (b : ℕ) (n m : N) → I n → done_at M act s q b n ≡ some m → I m
  unfolding done_at
  done_keeps I h s q b n m i e = go (run M s q) e
    where
      go : (o : Option M.State) → elim o [ none ↦ some n | some t ↦ act t b n ] ≡ some m → I m
      go none d = let same : n ≡ m = some-injective n m d in rw (← same) i
      go (some t) d = h t b n m i d

  module _ {Fit : N → Type 0} (S : Settling M act Fit) where
    -- at a sequence that was visited nothing new is met again
    done_settles : (s : M.State) (q : List M.Step) (b : ℕ) (n m : N) → Fit n → done_at M act s q b n ≡ some m → (c : ℕ) → done_at M act s q c m ≡ some m
    unfolding done_at
    done_settles s q b n m f e c = go (run M s q) e
      where
        go : (o : Option M.State) → elim o [ none ↦ some n | some t ↦ act t b n ] ≡ some m → elim o [ none ↦ some m | some t ↦ act t c m ] ≡ some m
        go none d = refl
        go (some t) d = S.settles t b n m f d c

    done_fits : (s : M.State) (q : List M.Step) (b : ℕ) (n m : N) → Fit n → done_at M act s q b n ≡ some m → Fit m
    done_fits = done_keeps Fit S.fits

    -- nor after the search has gone on
    pub scan_stays : (s : M.State) (l : List (List M.Step)) (b : ℕ) (n : N) (t : M.State) → Fit n → Settled M act n t → Settled M act (noted_of (scan (done_at M act s) l b n)) t
    scan_stays s l b n t f h =
        (scan_keeps Both (done_at M act s) (λ q c m k i e. done_keeps Both (λ u d x y j g. (S.fits u d x y j.0 g, S.stays t u d x y j.0 j.1 g)) s q c m k i e) l b n (f, h)).1
      where
        Both : N → Type 0
        Both m = Fit m × Settled M act m t

    -- nor at any sequence at which nothing new was met before
    pub sequence_stays : (s : M.State) (l : List (List M.Step)) (b : ℕ) (n : N) (u : M.State) (q : List M.Step) → Fit n → ((c : ℕ) → done_at M act u q c n ≡ some n)
        → (c : ℕ) → done_at M act u q c (noted_of (scan (done_at M act s) l b n)) ≡ some (noted_of (scan (done_at M act s) l b n))
    unfolding done_at
    sequence_stays s l b n u q f h c = go (run M u q) h
      where
        go : (o : Option M.State) → ((d : ℕ) → elim o [ none ↦ some n | some t ↦ act t d n ] ≡ some n)
            → elim o [ none ↦ some (noted_of (scan (done_at M act s) l b n)) | some t ↦ act t c (noted_of (scan (done_at M act s) l b n)) ] ≡ some (noted_of (scan (done_at M act s) l b n))
        go none i = refl
        go (some t) i = scan_stays s l b n t f i c

    -- a search that goes on has paid for each sequence, and meets nothing new at any again
    pub scan_went : (s : M.State) (l : List (List M.Step)) (b c : ℕ) (n m : N) → Fit n → scan (done_at M act s) l b n ≡ going c m → NothingNew (done_at M act s) m l × (c + length l ≡ b)
    unfolding scan
    scan_went s [] b c n m f e = (λ r i. absurd i, (let same : b ≡ c = cc in omega arith))
    scan_went s (q ∷ l) zero c n m f e = absurd (eqb-false 0 1 refl cc)
    scan_went s (q ∷ l) (suc b) c n m f e = go (done_at M act s q b n) refl e (λ k g i. scan_went s l b c k m g i)
      where
        kept : (k : N) → done_at M act s q b n ≡ some k → scan (done_at M act s) l b k ≡ going c m → (d : ℕ) → done_at M act s q d m ≡ some m
        kept k d i =
            let same : noted_of (scan (done_at M act s) l b k) ≡ m = ap (λ (o : Scan M.Step N). noted_of o) i in
            rw (← same) (sequence_stays s l b k s q (done_fits s q b n k f d) (done_settles s q b n k f d))

        each : ((d : ℕ) → done_at M act s q d m ≡ some m) → NothingNew (done_at M act s) m l → NothingNew (done_at M act s) m (q ∷ l)
        each x rest r (inl i) = rw i x
        each x rest r (inr i) = rest r i

        go : (o : Option N) → done_at M act s q b n ≡ o → ◌≡◌ {A = Scan M.Step N} (elim o [ none ↦ found b q n | some k ↦ scan (done_at M act s) l b k ]) (going c m)
            → ((k : N) → Fit k → scan (done_at M act s) l b k ≡ going c m → NothingNew (done_at M act s) m l × (c + length l ≡ b)) → NothingNew (done_at M act s) m (q ∷ l) × (c + length (q ∷ l) ≡ suc b)
        go none d i rec = absurd (eqb-false 0 1 refl cc)
        go (some k) d i rec = let r = rec k (done_fits s q b n k f d) i in let paid = r.1 in (each (kept k d i) r.0, omega arith)

-- where the question is asked of states, it is asked of the sequences that lead there
pub asked_wanted : (M : Stepping) {N : Type 0} (s : M.State) (q : List M.Step) (b : ℕ) (n : N) → done_at M (asking M.asked) s q b n ≡ asking (wanted M s) q b n
unfolding done_at wanted asking
asked_wanted M {N} s q b n = go (run M s q)
  where
    ended : Bool → Option N
    ended c = elim c [ true ↦ none | false ↦ some n ]

    reached : Option M.State → Bool
    reached o = elim o [ none ↦ false | some t ↦ M.asked t ]

    go : (o : Option M.State) → ◌≡◌ {A = Option N} (elim o [ none ↦ some n | some t ↦ ended (M.asked t) ]) (ended (reached o))
    go none = refl
    go (some t) = refl

module _ (M : Stepping) (L : Lawful M) {N : Type 0} (act : Act M N) where
  -- the search from s with b left and n noted
  unfoldable pub visited : M.State → ℕ → N → Scan M.Step N
  visited s b n = scan (done_at M act s) (upto M (L.bound s) s) b n

  -- the part of it that begins with one of the steps ks
  unfoldable pub ahead : M.State → List M.Step → ℕ → N → Scan M.Step N
  ahead s ks b n = scan (done_at M act s) (branches M (λ t. upto M (L.bound t) t) s ks) b n

  -- with nothing left the search is out
  pub visited_none : (s : M.State) (n : N) → visited s 0 n ≡ out n
  unfolding visited scan
  visited_none s n = rw (sequences_step M L s)

  -- the search ends at s: found, for one
  pub visited_ends : (s : M.State) (b : ℕ) (n : N) → 0 < b → act s (b - 1) n ≡ none → visited s b n ≡ found (b - 1) [] n
  unfolding visited scan done_at run
  visited_ends s zero n h e = absurd (omega arith)
  visited_ends s (suc b) n h e = let c : suc b - 1 ≡ b = omega arith in let d : act s b n ≡ none = rw (← c) e in rw (sequences_step M L s, d, c)

  -- it goes on to each step in turn, for one
  pub visited_on : (s : M.State) (b : ℕ) (n m : N) → 0 < b → act s (b - 1) n ≡ some m → visited s b n ≡ ahead s M.steps (b - 1) m
  unfolding visited ahead scan done_at run
  visited_on s zero n m h e = absurd (omega arith)
  visited_on s (suc b) n m h e = let c : suc b - 1 ≡ b = omega arith in let d : act s b n ≡ some m = rw (← c) e in rw (sequences_step M L s, d, c)

  -- no step is left
  pub ahead_end : (s : M.State) (b : ℕ) (n : N) → ahead s [] b n ≡ going b n
  unfolding ahead scan branches
  ahead_end s b n = refl

  -- the steps of one list and then those of another
  pub ahead_append : (s : M.State) (ks ls : List M.Step) (b : ℕ) (n : N) → ahead s (ks ++ ls) b n ≡ and_then (ahead s ks b n) (λ c m. ahead s ls c m)
  unfolding ahead
  ahead_append s ks ls b n =
      ap (λ (l : List (List M.Step)). scan (done_at M act s) l b n) (branches_append M (λ t. upto M (L.bound t) t) s ks ls)
      ∙ scan_append (done_at M act s) (branches M (λ t. upto M (L.bound t) t) s ks) (branches M (λ t. upto M (L.bound t) t) s ls) b n

  -- a refused step costs nothing
  pub ahead_refused : (s : M.State) (k : M.Step) (ks : List M.Step) (b : ℕ) (n : N) → M.next s k ≡ none → ahead s (k ∷ ks) b n ≡ ahead s ks b n
  unfolding ahead branches
  ahead_refused s k ks b n e = rw e

  -- an accepted step: the search from where it leads, below it, and then on to the steps after it
  pub ahead_accepted : (s t : M.State) (k : M.Step) (ks : List M.Step) (b : ℕ) (n : N) → M.next s k ≡ some t
      → ahead s (k ∷ ks) b n ≡ and_then (under k (visited t b n)) (λ c m. ahead s ks c m)
  unfolding ahead visited branches
  ahead_accepted s t k ks b n e =
      rw e
      (scan_append (done_at M act s) (map (λ (q : List M.Step). k ∷ q) (upto M (L.bound t) t)) (branches M (λ u. upto M (L.bound u) u) s ks) b n
      ∙ ap (λ (x : Scan M.Step N). and_then x (λ c m. ahead s ks c m)) (scan_map (done_at M act s) (done_at M act t) k (done_step M act s t k e) (upto M (L.bound t) t) b n))

  -- steps that are all refused may be skipped
  pub ahead_skip : (s : M.State) (ks ls : List M.Step) (b : ℕ) (n : N) → ((k : M.Step) → Among k ks → M.next s k ≡ none) → ahead s (ks ++ ls) b n ≡ ahead s ls b n
  ahead_skip s [] ls b n h = refl
  ahead_skip s (k ∷ ks) ls b n h = ahead_refused s k (ks ++ ls) b n (h k (inl refl)) ∙ ahead_skip s ks ls b n (λ j i. h j (inr i))

  -- what is found is no longer than the bound
  pub found_short : (s : M.State) (b c : ℕ) (n m : N) (q : List M.Step) → visited s b n ≡ found c q m → length q ≤ L.bound s
  unfolding visited
  found_short s b c n m q e = short M L s q (upto_sound M (L.bound s) s q (scan_found (done_at M act s) (upto M (L.bound s) s) b c n m q e).1)

  -- what is left is at most b
  pub left_le : (s : M.State) (b : ℕ) (n : N) → left_of (visited s b n) ≤ b
  unfolding visited
  left_le s b n = scan_left (done_at M act s) (upto M (L.bound s) s) b n
