-- The laws of entering into an ascending list: where one goes, when the list stays as it is, and who then stands in it.
-- Assumes nothing.
use mathlib.Core.Path.{◌≡◌, refl, ap, sym, ◌∙◌, subst}
use mathlib.Core.Bool.{Bool, true, false, true≢false}
use mathlib.Core.Logic.{◌⊎◌, inl, inr, ⊎_elim}
use mathlib.Core.List.{List, [], ◌∷◌, ◌++◌}
use Prim.Native.Nat.{ℕ, zero, suc, ◌≤◌, ◌<◌}
use native.Mathlib.Omega.{arith}
use lib.ListN.{length, get_or, take, drop}
use Rattle.theory_sequences.specs.Sequences.{Among, Ascending}
use Rattle.theory_sequences.specs.Listing.{entered}

module _ {A : Type 0} (before : A → A → Bool) where
  -- how a stands to c: before it, after it, or neither
  pub data Stands (a c : A) : Type 0 where
    ahead : before a c ≡ true → Stands a c
    past : before a c ≡ false → before c a ≡ true → Stands a c
    alike : before a c ≡ false → before c a ≡ false → Stands a c

  -- one of the three holds; where both are before each other, as no order has it, the first is taken, as `entered` does
  pub stands : (a c : A) → Stands a c
  stands a c = go (before a c) (before c a) refl refl
    where
      go : (t u : Bool) → before a c ≡ t → before c a ≡ u → Stands a c
      go true u e f = ahead e
      go false true e f = past e f
      go false false e f = alike e f

  -- ---- at the head of the list

  -- a is before the head: it becomes the head
  pub entered_ahead : (a c : A) (l : List A) → before a c ≡ true → entered before a (c ∷ l) ≡ a ∷ c ∷ l
  unfolding entered
  entered_ahead a c l e = rw (e, entered)

  -- a is after the head: it goes into the rest
  pub entered_past : (a c : A) (l : List A) → before a c ≡ false → before c a ≡ true → entered before a (c ∷ l) ≡ c ∷ entered before a l
  unfolding entered
  entered_past a c l e f = rw (e, f, entered)

  -- the head is neither before nor after a: the list stays
  pub entered_alike : (a c : A) (l : List A) → before a c ≡ false → before c a ≡ false → entered before a (c ∷ l) ≡ c ∷ l
  unfolding entered
  entered_alike a c l e f = rw (e, f, entered)

  -- into the empty list
  pub entered_first : (a : A) → entered before a [] ≡ a ∷ []
  unfolding entered
  entered_first a = refl

  -- ---- at a place

  -- the first k are before a, and a is before the next: a goes to place k
  pub entered_at : (k : ℕ) (a : A) (l : List A) → k ≤ length l → ((j : ℕ) (d : A) → j < k → before (get_or l j d) a ≡ true)
      → ((c d : A) → before c d ≡ true → before d c ≡ false) → ((d : A) → k < length l → before a (get_or l k d) ≡ true)
      → entered before a l ≡ take k l ++ (a ∷ drop k l)
  entered_at zero a [] h first asym next = entered_first a
  entered_at zero a (c ∷ l) h first asym next = entered_ahead a c l (next a (omega arith))
  entered_at (suc k) a [] h first asym next = absurd (omega arith)
  entered_at (suc k) a (c ∷ l) h first asym next =
      let f : before c a ≡ true = first 0 a (omega arith) in
      entered_past a c l (asym c a f) f
      ∙ ap (λ (x : List A). c ∷ x) (entered_at k a l (omega arith) (λ j d i. first (suc j) d (omega arith)) asym (λ d i. next d (omega arith)))

  -- the first k are before a, and the next is neither before nor after it: the list stays
  pub entered_there : (k : ℕ) (a : A) (l : List A) → k < length l → ((j : ℕ) (d : A) → j < k → before (get_or l j d) a ≡ true)
      → ((c d : A) → before c d ≡ true → before d c ≡ false) → ((d : A) → before a (get_or l k d) ≡ false) → ((d : A) → before (get_or l k d) a ≡ false)
      → entered before a l ≡ l
  entered_there k a [] h first asym e f = absurd (omega arith)
  entered_there zero a (c ∷ l) h first asym e f = entered_alike a c l (e a) (f a)
  entered_there (suc k) a (c ∷ l) h first asym e f =
      let g : before c a ≡ true = first 0 a (omega arith) in
      entered_past a c l (asym c a g) g
      ∙ ap (λ (x : List A). c ∷ x) (entered_there k a l (omega arith) (λ j d i. first (suc j) d (omega arith)) asym e f)

  -- ---- the length

  -- the list stays, or grows by one
  pub entered_length : (a : A) (l : List A) → (entered before a l ≡ l) ⊎ (length (entered before a l) ≡ suc (length l))
  entered_length a [] = inr (ap length (entered_first a))
  entered_length a (c ∷ l) = go (stands a c) (entered_length a l)
    where
      go : Stands a c → (entered before a l ≡ l) ⊎ (length (entered before a l) ≡ suc (length l))
          → (entered before a (c ∷ l) ≡ c ∷ l) ⊎ (length (entered before a (c ∷ l)) ≡ suc (suc (length l)))
      go (ahead e) rec = inr (ap length (entered_ahead a c l e))
      go (past e f) (inl i) = inl (entered_past a c l e f ∙ ap (λ (x : List A). c ∷ x) i)
      go (past e f) (inr i) = inr (ap length (entered_past a c l e f) ∙ ap suc i)
      go (alike e f) rec = inl (entered_alike a c l e f)

  -- a list that does not grow stays
  pub entered_unchanged : (a : A) (l : List A) → length (entered before a l) ≡ length l → entered before a l ≡ l
  entered_unchanged a l h = ⊎_elim (λ e. e) (λ n. absurd (omega arith)) (entered_length a l)

  -- ---- the members

  -- whoever stands in the list after a was entered is a, or stood there before
  pub entered_among : (x a : A) (l : List A) → Among x (entered before a l) → (x ≡ a) ⊎ Among x l
  entered_among x a [] i = subst (λ (z : List A). Among x z) (entered_first a) i
  entered_among x a (c ∷ l) i = go (stands a c) (λ j. entered_among x a l j)
    where
      moved : {y : List A} → entered before a (c ∷ l) ≡ y → Among x y
      moved e = subst (λ (z : List A). Among x z) e i

      go : Stands a c → (Among x (entered before a l) → (x ≡ a) ⊎ Among x l) → (x ≡ a) ⊎ Among x (c ∷ l)
      go (ahead e) rec = moved (entered_ahead a c l e)
      go (past e f) rec = ⊎_elim (λ j. inr (inl j)) (λ j. ⊎_elim (λ z. inl z) (λ z. inr (inr z)) (rec j)) (moved (entered_past a c l e f))
      go (alike e f) rec = inr (moved (entered_alike a c l e f))

  -- whoever stood in the list still does
  pub entered_keeps : (x a : A) (l : List A) → Among x l → Among x (entered before a l)
  entered_keeps x a [] i = absurd i
  entered_keeps x a (c ∷ l) i = go (stands a c) (λ j. entered_keeps x a l j)
    where
      moved : (y : List A) → entered before a (c ∷ l) ≡ y → Among x y → Among x (entered before a (c ∷ l))
      moved y e j = subst (λ (z : List A). Among x z) (sym e) j

      go : Stands a c → (Among x l → Among x (entered before a l)) → Among x (entered before a (c ∷ l))
      go (ahead e) rec = moved (a ∷ c ∷ l) (entered_ahead a c l e) (inr i)
      go (past e f) rec = moved (c ∷ entered before a l) (entered_past a c l e f) (⊎_elim (λ j. inl j) (λ j. inr (rec j)) i)
      go (alike e f) rec = moved (c ∷ l) (entered_alike a c l e f) i

  -- a now stands in the list, or one does that is neither before nor after it
  pub entered_has : (a : A) (l : List A) → Among a (entered before a l) ⊎ ((c : A) × Among c l × (before a c ≡ false) × (before c a ≡ false))
  entered_has a [] = inl (subst (λ (z : List A). Among a z) (sym (entered_first a)) (inl refl))
  entered_has a (c ∷ l) = go (stands a c) (entered_has a l)
    where
      go : Stands a c → Among a (entered before a l) ⊎ ((d : A) × Among d l × (before a d ≡ false) × (before d a ≡ false))
          → Among a (entered before a (c ∷ l)) ⊎ ((d : A) × Among d (c ∷ l) × (before a d ≡ false) × (before d a ≡ false))
      go (ahead e) rec = inl (subst (λ (z : List A). Among a z) (sym (entered_ahead a c l e)) (inl refl))
      go (past e f) (inl i) = inl (subst (λ (z : List A). Among a z) (sym (entered_past a c l e f)) (inr i))
      go (past e f) (inr i) = inr (i.0, inr i.1, i.2, i.3)
      go (alike e f) rec = inr (c, inl refl, e, f)

  -- ---- in an order

  -- of two at most one is before the other, and whoever is not before d stands behind all that are
  pub record WeakOrder : Type 0 where
    pub asym : (a c : A) → before a c ≡ true → before c a ≡ false
    pub cut : (a c d : A) → before c d ≡ true → before a d ≡ false → before c a ≡ true

  module _ (order : WeakOrder) where
    not_ahead : (a c d : A) → before a d ≡ false → before c a ≡ false → before c d ≡ false
    not_ahead a c d e f = go (before c d) refl
      where
        go : (t : Bool) → before c d ≡ t → t ≡ false
        go true g = absurd (true≢false (sym (order.cut a c d g e) ∙ f))
        go false g = refl

    -- one that is neither before nor after a changes nothing once a was entered
    pub entered_again : (a a' : A) (l : List A) → before a a' ≡ false → before a' a ≡ false → entered before a' (entered before a l) ≡ entered before a l
    entered_again a a' [] e e' = rw (entered_first a) (entered_alike a' a [] e' e)
    entered_again a a' (c ∷ l) e e' = go (stands a c) (entered_again a a' l e e')
      where
        go : Stands a c → entered before a' (entered before a l) ≡ entered before a l → entered before a' (entered before a (c ∷ l)) ≡ entered before a (c ∷ l)
        go (ahead f) rec = rw (entered_ahead a c l f) (entered_alike a' a (c ∷ l) e' e)
        go (past f g) rec =
            let g' : before c a' ≡ true = order.cut a' c a g e' in
            rw (entered_past a c l f g) (entered_past a' c (entered before a l) (order.asym c a' g') g' ∙ ap (λ (x : List A). c ∷ x) rec)
        go (alike f g) rec = rw (entered_alike a c l f g) (entered_alike a' c l (not_ahead a a' c f e') (not_ahead a c a' e g))

    -- where a changes nothing, it changes nothing either once c was entered
    pub entered_stays : (a c : A) (l : List A) → entered before a l ≡ l → entered before a (entered before c l) ≡ entered before c l
    entered_stays a c [] h = let n = ap length (sym (entered_first a) ∙ h) in absurd (omega arith)
    entered_stays a c (d ∷ l) h = go (stands a d) (stands c d) (λ i. entered_stays a c l i)
      where
        -- c goes in front of d, which is not behind a: so a goes on behind c
        behind : before a d ≡ false → before c d ≡ true → entered before a (entered before c (d ∷ l)) ≡ entered before c (d ∷ l)
        behind e g =
            let f : before c a ≡ true = order.cut a c d g e in
            rw (entered_ahead c d l g) (entered_past a c (d ∷ l) (order.asym c a f) f ∙ ap (λ (x : List A). c ∷ x) h)

        go : Stands a d → Stands c d → (entered before a l ≡ l → entered before a (entered before c l) ≡ entered before c l)
            → entered before a (entered before c (d ∷ l)) ≡ entered before c (d ∷ l)
        go (ahead e) i rec = let n = ap length (sym (entered_ahead a d l e) ∙ h) in absurd (omega arith)
        go (past e f) (ahead g) rec = behind e g
        go (past e f) (past g g') rec =
            let kept = sym (entered_past a d l e f) ∙ h in
            let stays : entered before a l ≡ l = cc in
            rw (entered_past c d l g g') (entered_past a d (entered before c l) e f ∙ ap (λ (x : List A). d ∷ x) (rec stays))
        go (past e f) (alike g g') rec = rw (entered_alike c d l g g') h
        go (alike e f) (ahead g) rec = behind e g
        go (alike e f) (past g g') rec = rw (entered_past c d l g g') (entered_alike a d (entered before c l) e f)
        go (alike e f) (alike g g') rec = rw (entered_alike c d l g g') h

    -- an ascending list stays ascending
    pub entered_ascending : (a : A) (l : List A) → Ascending (λ (x y : A). before x y ≡ true) l → Ascending (λ (x y : A). before x y ≡ true) (entered before a l)
    entered_ascending a [] s = rw (entered_first a) (λ x i. absurd i, tt)
    entered_ascending a (c ∷ l) s = go (stands a c) (entered_ascending a l s.1)
      where
        over : before a c ≡ true → (x : A) → Among x (c ∷ l) → before a x ≡ true
        over e x (inl i) = ap (before a) i ∙ e
        over e x (inr i) = order.cut x a c e (order.asym c x (s.0 x i))

        go : Stands a c → Ascending (λ (x y : A). before x y ≡ true) (entered before a l) → Ascending (λ (x y : A). before x y ≡ true) (entered before a (c ∷ l))
        go (ahead e) rec = rw (entered_ahead a c l e) (over e, s)
        go (past e f) rec = rw (entered_past a c l e f) (λ x i. ⊎_elim (λ j. ap (before c) j ∙ f) (λ j. s.0 x j) (entered_among x a l i), rec)
        go (alike e f) rec = rw (entered_alike a c l e f) s
