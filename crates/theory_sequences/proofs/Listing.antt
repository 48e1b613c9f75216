-- The listing meets its demand, and nothing else does; what the outcomes that it lists say of a question.
-- Assumes nothing.
use mathlib.Core.Path.{◌≡◌, refl, ap, sym, ◌∙◌, subst}
use mathlib.Core.Bool.{Bool, true, false, cond, true≢false}
use mathlib.Core.Logic.{◌⊎◌, inl, inr, ⊎_elim}
use mathlib.Core.List.{List, [], ◌∷◌, ◌++◌, append_assoc, append-nil}
use mathlib.Core.Option.{Option, none, some}
use Prim.Native.Nat.{ℕ, zero, suc, ◌-◌, ◌≤◌, ◌<◌}
use native.Mathlib.Omega.{arith}
use lib.Dec.{leb}
use lib.ListN.{length, get_or, length-append, get_or-append}
use borrow.Author.Tests.{le-leb, leb-true, leb-false, eqb-false}
use Rattle.theory_sequences.specs.Sequences.{Among, Ascending}
use Rattle.theory_sequences.specs.Listing.{entered, Entry, Listing, finished, unfinished, earlier, gathered, listing, FirstWith, Lists, ListingDemand}
use Rattle.theory_sequences.specs.Answer.{allowed, forbidden, answer}
use Rattle.theory_sequences.specs.Demand.{First, NoneWanted}
use Rattle.theory_sequences.proofs.Ordered.{among_at, among_place, one_of_alike, same_members}
use Rattle.theory_sequences.proofs.Entered.{WeakOrder, entered_among, entered_keeps, entered_has, entered_ascending}
use Rattle.theory_sequences.proofs.Meets.{meets}

-- an order in which only equals stand neither before nor after each other
pub record TotalOrder {O : Type 0} (smaller : O → O → Bool) : Type 0 where
  pub weak : WeakOrder smaller
  pub same : (a c : O) → smaller a c ≡ false → smaller c a ≡ false → a ≡ c

-- one that follows a list stands at the place of its length
at_end_lem : {A : Type 0} (l : List A) (a d : A) → get_or (l ++ (a ∷ [])) (length l) d ≡ a
at_end_lem [] a d = refl
at_end_lem (c ∷ l) a d = at_end_lem l a d

module _ {A O : Type 0} (smaller : O → O → Bool) (ending : List A → Option O) where
  -- ---- the first sequence with an outcome

  -- none with the outcome stands before the first
  first_least : (l : List (List A)) (o : O) (n j : ℕ) → FirstWith smaller ending l o n → ending (get_or l j []) ≡ some o → n ≤ suc j
  first_least l o n j F e = let h : ¬ (j < n - 1) = λ i. F.none_before j i e in omega arith

  -- there is one first only
  one_first : (l : List (List A)) (o : O) (n m : ℕ) → FirstWith smaller ending l o n → FirstWith smaller ending l o m → n ≡ m
  one_first l o n m F G =
      let h : n ≤ suc (m - 1) = first_least l o n (m - 1) F G.reached in
      let i : m ≤ suc (n - 1) = first_least l o m (n - 1) G F.reached in
      omega (arith, F.from_one, G.from_one)

  -- it stays the first where more sequences follow
  first_more : (p x : List (List A)) (o : O) (n : ℕ) → FirstWith smaller ending p o n → FirstWith smaller ending (p ++ x) o n
  first_more p x o n F =
      let from = F.from_one in
      let within = F.in_list in
      record {
        from_one = from;
        in_list = omega (arith, length-append p x);
        reached = rw (get_or-append p x [] (n - 1) (omega arith)) F.reached;
        none_before = λ j i e. F.none_before j i (rw (get_or-append p x [] j (omega arith)) at e);
      }

  -- an outcome reached by the sequences p or by q after them
  reached_last : (p : List (List A)) (q : List A) (j : ℕ) (o : O) → j < length (p ++ (q ∷ [])) → ending (get_or (p ++ (q ∷ [])) j []) ≡ some o
      → ((j < length p) × (ending (get_or p j []) ≡ some o)) ⊎ (ending q ≡ some o)
  reached_last [] q zero o h e = inr e
  reached_last [] q (suc j) o h e = absurd (omega arith)
  reached_last (c ∷ p) q zero o h e = inl (omega arith, e)
  reached_last (c ∷ p) q (suc j) o h e = ⊎_elim (λ r. let n = r.0 in inl (omega arith, r.1)) (λ r. inr r) (reached_last p q j o (omega arith) e)

  module _ (order : TotalOrder smaller) where
    -- ---- the outcomes that are gathered

    -- entries stand in the order of their outcomes
    by_outcome : WeakOrder (earlier smaller ending)
    by_outcome = record {
      asym = λ x y e. order.weak.asym x.outcome y.outcome e;
      cut = λ x y z e f. order.weak.cut x.outcome y.outcome z.outcome e f;
    }

    -- no outcome is smaller than itself
    never : (o : O) → smaller o o ≡ true → ⊥
    never o h = true≢false (sym h ∙ order.weak.asym o o h)

    -- a sequence q with no outcome, after the sequences p: what was listed still is
    lists_past : (p : List (List A)) (q : List A) (e : List (Entry O)) → Lists smaller ending p e → ending q ≡ none → Lists smaller ending (p ++ (q ∷ [])) e
    lists_past p q e L d = record {
      ascending = L.ascending;
      sound = λ x i. first_more p (q ∷ []) x.outcome x.place (L.sound x i);
      complete = λ j h o r. ⊎_elim (λ k. L.complete j k.0 o k.1) (λ k. absurd (eqb-false 0 1 refl cc)) (reached_last p q j o h r);
    }

    -- a sequence q with the outcome o, after the k sequences p: o is listed with the place of q, unless it was listed
    lists_entered : (p : List (List A)) (k : ℕ) → k ≡ length p → (q : List A) (o : O) (e : List (Entry O)) → Lists smaller ending p e → ending q ≡ some o
        → Lists smaller ending (p ++ (q ∷ [])) (entered (earlier smaller ending) (record { outcome = o; place = suc k }) e)
    lists_entered p k count q o e L d = record {
      ascending = rising;
      sound = λ x i. ⊎_elim
          (λ z. subst (λ (y : Entry O). FirstWith smaller ending (p ++ (q ∷ [])) y.outcome y.place) (sym z) (first_new (subst (λ (y : Entry O). Among y now) z i)))
          (λ j. first_more p (q ∷ []) x.outcome x.place (L.sound x j))
          (entered_among (earlier smaller ending) x new e i);
      complete = λ j h c r. ⊎_elim (λ i. known c (L.complete j i.0 c i.1)) (λ i. let same : o ≡ c = cc in rw (← same) reached_new) (reached_last p q j c h r);
    }
      where
        new : Entry O
        new = record { outcome = o; place = suc k }

        now : List (Entry O)
        now = entered (earlier smaller ending) new e

        rising : Ascending (λ (x y : Entry O). earlier smaller ending x y ≡ true) now
        rising = entered_ascending (earlier smaller ending) by_outcome new e L.ascending

        known : (c : O) → ((n : ℕ) × Among (record { outcome = c; place = n }) e) → (n : ℕ) × Among (record { outcome = c; place = n }) now
        known c i = (i.0, entered_keeps (earlier smaller ending) (record { outcome = c; place = i.0 }) new e i.1)

        -- where the new entry stands, no sequence of p had its outcome: that would be listed too, at another place
        unheard : Among new now → (j : ℕ) → j < length p → ending (get_or p j []) ≡ some o → ⊥
        unheard i j h r =
            let c = L.complete j h o r in
            let old : Entry O = record { outcome = o; place = c.0 } in
            let same : new ≡ old = one_of_alike (λ (x y : Entry O). earlier smaller ending x y ≡ true) new old now rising i (known o c).1 (never o) (never o) in
            let n : suc k ≡ c.0 = ap (λ (x : Entry O). x.place) same in
            omega (arith, (L.sound old c.1).in_list)

        first_new : Among new now → FirstWith smaller ending (p ++ (q ∷ [])) o (suc k)
        first_new i =
            let last : suc k - 1 ≡ length p = omega arith in
            record {
              from_one = omega arith;
              in_list = omega (arith, length-append p (q ∷ []));
              reached = rw (last, at_end_lem p q []) d;
              none_before = λ j h r. unheard i j (omega arith) (rw (get_or-append p (q ∷ []) [] j (omega arith)) at r);
            }

        reached_new : (n : ℕ) × Among (record { outcome = o; place = n }) now
        reached_new = ⊎_elim
            (λ i. (suc k, i))
            (λ c. (
              c.0.place,
              subst (λ (z : O). Among (record { outcome = z; place = c.0.place }) now) (sym (order.same o c.0.outcome c.2 c.3))
                  (entered_keeps (earlier smaller ending) c.0 new e c.1),
            ))
            (entered_has (earlier smaller ending) new e)

    -- along the list, with the k sequences p visited and their outcomes listed
    lists_along : (l p : List (List A)) (k : ℕ) → k ≡ length p → (e : List (Entry O)) → Lists smaller ending p e
        → Lists smaller ending (p ++ l) (gathered smaller ending k l e)
    unfolding gathered
    lists_along [] p k count e L = rw append-nil L
    lists_along (q ∷ l) p k count e L =
        go (ending q) refl (λ e' M. rw append_assoc at (lists_along l (p ++ (q ∷ [])) (suc k) (omega (arith, length-append p (q ∷ []))) e' M))
      where
        go : (r : Option O) → ending q ≡ r → ((e' : List (Entry O)) → Lists smaller ending (p ++ (q ∷ [])) e' → Lists smaller ending (p ++ (q ∷ l)) (gathered smaller ending (suc k) l e'))
            → Lists smaller ending (p ++ (q ∷ l)) (gathered smaller ending (suc k) l (elim r [ none ↦ e | some o ↦ entered (earlier smaller ending) (record { outcome = o; place = suc k }) e ]))
        go none d rec = rec e (lists_past p q e L d)
        go (some o) d rec = rec (entered (earlier smaller ending) (record { outcome = o; place = suc k }) e) (lists_entered p k count q o e L d)

    -- what is gathered is what is demanded
    pub lists_gathered : (l : List (List A)) → Lists smaller ending l (gathered smaller ending 0 l [])
    lists_gathered l = lists_along l [] 0 refl [] (record { ascending = tt; sound = λ x i. absurd i; complete = λ j h o e. absurd (omega arith) })

    -- the listing meets the demand
    pub meets_listing : (l : List (List A)) (b : ℕ) → ListingDemand smaller ending l b (listing smaller ending l b)
    unfolding listing
    meets_listing l b = go (leb (length l) b) refl
      where
        all : List (Entry O)
        all = gathered smaller ending 0 l []

        go : (t : Bool) → leb (length l) b ≡ t → ListingDemand smaller ending l b (cond t (finished (length l) all) (unfinished b))
        go true d = record {
          finished_if = λ h. (length l, all, refl);
          finished_then = λ n e i.
              let same : all ≡ e = cc in
              (cc, leb-true (length l) b d, rw (← same) (lists_gathered l));
          unfinished_then = λ n i. absurd (eqb-false 0 1 refl cc);
        }
        go false d = record {
          finished_if = λ h. let g : b < length l = leb-false (length l) b d in absurd (omega arith);
          finished_then = λ n e i. absurd (eqb-false 0 1 refl cc);
          unfinished_then = λ n i. cc;
        }

    -- ---- one listing only

    -- whatever is listed over l in one way is listed in the other
    listed_too : (l : List (List A)) (e e' : List (Entry O)) → Lists smaller ending l e → Lists smaller ending l e' → (x : Entry O) → Among x e → Among x e'
    listed_too l e e' L L' x i =
        let F = L.sound x i in
        let c = L'.complete (x.place - 1) (omega (arith, F.from_one, F.in_list)) x.outcome F.reached in
        let n : c.0 ≡ x.place = one_first l x.outcome c.0 x.place (L'.sound (record { outcome = x.outcome; place = c.0 }) c.1) F in
        subst (λ (m : ℕ). Among (record { outcome = x.outcome; place = m }) e') n c.1

    -- the demand leaves one list of outcomes only
    pub one_lists : (l : List (List A)) (e e' : List (Entry O)) → Lists smaller ending l e → Lists smaller ending l e' → e ≡ e'
    one_lists l e e' L L' =
        same_members (λ (x y : Entry O). earlier smaller ending x y ≡ true) (λ x y h i. true≢false (sym i ∙ by_outcome.asym x y h)) e e' L.ascending L'.ascending
        (listed_too l e e' L L') (listed_too l e' e L' L)

    not_open : (l : List (List A)) (b n m : ℕ) (e : List (Entry O)) → ListingDemand smaller ending l b (finished n e) → ListingDemand smaller ending l b (unfinished m) → ⊥
    not_open l b n m e D E = let d = (E.finished_if (D.finished_then n e refl).1).2 in eqb-false 0 1 refl cc

    -- the demand leaves one listing only
    pub one_listing : (l : List (List A)) (b : ℕ) (r r' : Listing O) → ListingDemand smaller ending l b r → ListingDemand smaller ending l b r' → r ≡ r'
    one_listing l b (finished n e) (finished m f) D E =
        let x = D.finished_then n e refl in
        let y = E.finished_then m f refl in
        let count : n ≡ m = x.0 ∙ sym y.0 in
        let same : e ≡ f = one_lists l e f x.2 y.2 in
        cc
    one_listing l b (finished n e) (unfinished m) D E = absurd (not_open l b n m e D E)
    one_listing l b (unfinished n) (finished m f) D E = absurd (not_open l b m n f E D)
    one_listing l b (unfinished n) (unfinished m) D E = ap unfinished (D.unfinished_then n refl ∙ sym (E.unfinished_then m refl))

  -- ---- a larger budget

  -- a larger budget never changes a finished listing
  pub more_budget_listing : (l : List (List A)) (b c n : ℕ) (e : List (Entry O)) → b ≤ c → listing smaller ending l b ≡ finished n e
      → listing smaller ending l c ≡ finished n e
  unfolding listing
  more_budget_listing l b c n e h i = go (leb (length l) b) refl i
    where
      go : (t : Bool) → leb (length l) b ≡ t → cond t (finished (length l) (gathered smaller ending 0 l [])) (unfinished b) ≡ finished n e
          → cond (leb (length l) c) (finished (length l) (gathered smaller ending 0 l [])) (unfinished c) ≡ finished n e
      go true d j = rw (le-leb (length l) c (omega (arith, leb-true (length l) b d))) j
      go false d j = absurd (eqb-false 0 1 refl cc)

  -- ---- the question and the listing

  module _ (wanted : List A → Bool) (satisfies : O → Bool) (l : List (List A))
      (agree : (q : List A) → Among q l → wanted q ≡ elim (ending q) [ none ↦ false | some o ↦ satisfies o ])
      (e : List (Entry O)) (lists : Lists smaller ending l e) (b : ℕ) (fits : length l ≤ b)
    where
      -- the sequence at the place of an outcome that satisfies the question is wanted
      reached_wanted : (x : Entry O) → Among x e → satisfies x.outcome ≡ true → wanted (get_or l (x.place - 1) []) ≡ true
      reached_wanted x i s =
          let F = lists.sound x i in
          agree (get_or l (x.place - 1) []) (among_at l (x.place - 1) [] (omega (arith, F.from_one, F.in_list))) ∙ rw F.reached s

      -- a wanted sequence has an outcome that satisfies the question
      wanted_outcome : (q : List A) → Among q l → wanted q ≡ true → (o : O) × (ending q ≡ some o) × (satisfies o ≡ true)
      wanted_outcome q i w = go (ending q) refl (sym (agree q i) ∙ w)
        where
          go : (r : Option O) → ending q ≡ r → elim r [ none ↦ false | some o ↦ satisfies o ] ≡ true → (o : O) × (ending q ≡ some o) × (satisfies o ≡ true)
          go none d s = absurd (true≢false (sym s))
          go (some o) d s = (o, d, s)

      -- allowed: the place of the answer is the least of those of the outcomes that satisfy the question
      pub allowed_least : (n : ℕ) (q : List A) → answer wanted l b ≡ allowed n q → (y : Entry O) → Among y e → satisfies y.outcome ≡ true → n ≤ y.place
      allowed_least n q a y i s =
          let F : First wanted l b n q = (meets wanted l b).allowed_then n q a in
          let h : ¬ (y.place - 1 < n - 1) = λ j. true≢false (sym (reached_wanted y i s) ∙ F.none_before (y.place - 1) j) in
          omega (arith, (lists.sound y i).from_one)

      -- allowed: an outcome that satisfies the question is listed with the place of the answer
      pub allowed_listed : (n : ℕ) (q : List A) → answer wanted l b ≡ allowed n q → (x : Entry O) × Among x e × (satisfies x.outcome ≡ true) × (x.place ≡ n)
      allowed_listed n q a =
          let F : First wanted l b n q = (meets wanted l b).allowed_then n q a in
          let h : n - 1 < length l = omega (arith, F.from_one, F.in_list) in
          let w = wanted_outcome q (subst (λ (z : List A). Among z l) F.there (among_at l (n - 1) [] h)) F.is_wanted in
          let reached : ending (get_or l (n - 1) []) ≡ some w.0 = ap ending F.there ∙ w.1 in
          let c = lists.complete (n - 1) h w.0 reached in
          let x : Entry O = record { outcome = w.0; place = c.0 } in
          let least : n ≤ c.0 = allowed_least n q a x c.1 w.2 in
          let first : c.0 ≤ suc (n - 1) = first_least l w.0 c.0 (n - 1) (lists.sound x c.1) reached in
          (x, c.1, w.2, omega (arith, F.from_one))

      -- an outcome that satisfies the question is listed: allowed
      pub listed_allowed : (x : Entry O) → Among x e → satisfies x.outcome ≡ true → (n : ℕ) × (q : List A) × (answer wanted l b ≡ allowed n q)
      listed_allowed x i s =
          let F = lists.sound x i in
          let h : x.place - 1 < length l = omega (arith, F.from_one, F.in_list) in
          (meets wanted l b).allowed_if (x.place - 1) (omega arith) h (reached_wanted x i s)

      -- no outcome that satisfies the question is listed: forbidden
      pub listed_forbidden : ((x : Entry O) → Among x e → satisfies x.outcome ≡ false) → answer wanted l b ≡ forbidden (length l)
      listed_forbidden h =
          let r = (meets wanted l b).forbidden_if none_wanted fits in
          r.1 ∙ ap forbidden ((meets wanted l b).forbidden_then r.0 r.1).0
        where
          none_wanted : NoneWanted wanted l
          none_wanted q i = agree q i ∙ go (ending q) refl
            where
              go : (r : Option O) → ending q ≡ r → elim r [ none ↦ false | some o ↦ satisfies o ] ≡ false
              go none d = refl
              go (some o) d =
                  let at = among_place q l [] i in
                  let c = lists.complete at.0 at.1 o (ap ending at.2 ∙ d) in
                  h (record { outcome = o; place = c.0 }) c.1
