-- Members of a list, and lists in ascending order.
use mathlib.Core.Path.{◌≡◌, refl, ap, sym, ◌∙◌, subst}
use mathlib.Core.Logic.{◌⊎◌, inl, inr, ⊎_elim}
use mathlib.Core.List.{List, [], ◌∷◌, ◌++◌, map}
use Prim.Native.Nat.{ℕ, zero, suc, ◌<◌}
use native.Mathlib.Omega.{arith}
use lib.ListN.{length, get_or}
use Rattle.theory_sequences.specs.Stepping.{Stepping}
use Rattle.theory_sequences.specs.Sequences.{Among, Ascending, Before}
use Rattle.theory_sequences.specs.Lawful.{Lawful}

module _ {A : Type 0} where
  -- a member of the first list is a member of both together
  pub among_left : (a : A) (x y : List A) → Among a x → Among a (x ++ y)
  among_left a [] y h = absurd h
  among_left a (b ∷ x) y (inl e) = inl e
  among_left a (b ∷ x) y (inr h) = inr (among_left a x y h)

  -- a member of the second list is a member of both together
  pub among_right : (a : A) (x y : List A) → Among a y → Among a (x ++ y)
  among_right a [] y h = h
  among_right a (b ∷ x) y h = inr (among_right a x y h)

  -- a member of two lists together is a member of one of them
  pub among_cases : (a : A) (x y : List A) → Among a (x ++ y) → Among a x ⊎ Among a y
  among_cases a [] y h = inr h
  among_cases a (b ∷ x) y (inl e) = inl (inl e)
  among_cases a (b ∷ x) y (inr h) = ⊎_elim (λ i. inl (inr i)) (λ i. inr i) (among_cases a x y h)

  -- what stands at a place of the list is a member
  pub among_at : (l : List A) (i : ℕ) (d : A) → i < length l → Among (get_or l i d) l
  among_at [] i d h = absurd (omega arith)
  among_at (b ∷ l) zero d h = inl refl
  among_at (b ∷ l) (suc i) d h = inr (among_at l i d (omega arith))

  -- a member stands at a place of the list
  pub among_place : (a : A) (l : List A) (d : A) → Among a l → (i : ℕ) × (i < length l) × (get_or l i d ≡ a)
  among_place a [] d h = absurd h
  among_place a (b ∷ l) d (inl e) = (0, omega arith, sym e)
  among_place a (b ∷ l) d (inr h) = let r = among_place a l d h in let n = r.1 in (suc r.0, omega arith, r.2)

module _ {A B : Type 0} (f : A → B) where
  -- the image of a member is a member of the image
  pub among_map : (a : A) (l : List A) → Among a l → Among (f a) (map f l)
  among_map a [] h = absurd h
  among_map a (b ∷ l) (inl e) = inl (ap f e)
  among_map a (b ∷ l) (inr h) = inr (among_map a l h)

  -- a member of the image is the image of a member
  pub among_unmap : (b : B) (l : List A) → Among b (map f l) → (a : A) × (b ≡ f a) × Among a l
  among_unmap b [] h = absurd h
  among_unmap b (a ∷ l) (inl e) = (a, e, inl refl)
  among_unmap b (a ∷ l) (inr h) = let i = among_unmap b l h in (i.0, i.1, inr i.2)

module _ {A : Type 0} (R : A → A → Type 0) where
  -- two ascending lists, each of the first before each of the second, are ascending together
  pub ascending_append : (x y : List A) → Ascending R x → Ascending R y → ((a b : A) → Among a x → Among b y → R a b) → Ascending R (x ++ y)
  ascending_append [] y s t h = t
  ascending_append (a ∷ x) y s t h =
      ((λ b i. ⊎_elim (λ j. s.0 b j) (λ j. h a b (inl refl) j) (among_cases b x y i)), ascending_append x y s.1 t (λ c d i j. h c d (inr i) j))

  -- two members of an ascending list are equal if neither is before the other
  pub one_of_alike : (a b : A) (l : List A) → Ascending R l → Among a l → Among b l → (R a b → ⊥) → (R b a → ⊥) → a ≡ b
  one_of_alike a b [] s i j f g = absurd i
  one_of_alike a b (c ∷ l) s (inl i) (inl j) f g = i ∙ sym j
  one_of_alike a b (c ∷ l) s (inl i) (inr j) f g = absurd (f (rw i (s.0 b j)))
  one_of_alike a b (c ∷ l) s (inr i) (inl j) f g = absurd (g (rw j (s.0 a i)))
  one_of_alike a b (c ∷ l) s (inr i) (inr j) f g = one_of_alike a b l s.1 i j f g

  -- where of two at most one is before the other, two ascending lists with the same members are equal
  pub same_members : ((a b : A) → R a b → R b a → ⊥) → (x y : List A) → Ascending R x → Ascending R y → ((a : A) → Among a x → Among a y)
      → ((a : A) → Among a y → Among a x) → x ≡ y
  same_members asym [] [] s t f g = refl
  same_members asym [] (b ∷ y) s t f g = absurd (g b (inl refl))
  same_members asym (a ∷ x) [] s t f g = absurd (f a (inl refl))
  same_members asym (a ∷ x) (b ∷ y) s t f g =
      let e : a ≡ b = heads (f a (inl refl)) (g b (inl refl)) in
      rw (e, same_members asym x y s.1 t.1 (to e) (fro e))
    where
      heads : Among a (b ∷ y) → Among b (a ∷ x) → a ≡ b
      heads (inl e) i = e
      heads (inr h) (inl e) = sym e
      heads (inr h) (inr i) = absurd (asym a b (s.0 b i) (t.0 a h))

      never : (c : A) → R c c → ⊥
      never c r = asym c c r r

      to : a ≡ b → (c : A) → Among c x → Among c y
      to e c h = ⊎_elim (λ d. absurd (never a (subst (λ (z : A). R a z) (d ∙ sym e) (s.0 c h)))) (λ i. i) (f c (inr h))

      fro : a ≡ b → (c : A) → Among c y → Among c x
      fro e c h = ⊎_elim (λ d. absurd (never b (subst (λ (z : A). R b z) (d ∙ e) (t.0 c h)))) (λ i. i) (g c (inr h))

module _ (M : Stepping) (L : Lawful M) where
  -- no sequence is before itself
  pub before_irrefl : (x : List M.Step) → Before M x x → ⊥
  before_irrefl [] h = h
  before_irrefl (a ∷ x) (inl h) = L.less_asym a a h h
  before_irrefl (a ∷ x) (inr h) = before_irrefl x h.1

  -- of two sequences at most one is before the other
  pub before_asym : (x y : List M.Step) → Before M x y → Before M y x → ⊥
  before_asym [] [] h i = h
  before_asym [] (b ∷ y) h i = i
  before_asym (a ∷ x) [] h i = h
  before_asym (a ∷ x) (b ∷ y) (inl h) (inl i) = L.less_asym a b h i
  before_asym (a ∷ x) (b ∷ y) (inl h) (inr i) = let g : M.Less a a = rw i.0 at h in L.less_asym a a g g
  before_asym (a ∷ x) (b ∷ y) (inr h) (inl i) = let g : M.Less b b = rw h.0 at i in L.less_asym b b g g
  before_asym (a ∷ x) (b ∷ y) (inr h) (inr i) = before_asym x y h.1 i.1
