-- The answer with a budget meets the demand, and nothing else does.
use mathlib.Core.Path.{◌≡◌, refl, ap, sym, ◌∙◌}
use mathlib.Core.Bool.{Bool, true, false, true≢false}
use mathlib.Core.Logic.{◌⊎◌, inl, inr, ⊎_elim}
use mathlib.Core.List.{List, [], ◌∷◌}
use Prim.Native.Nat.{ℕ, zero, suc, ◌+◌, ◌-◌, ◌≤◌, ◌<◌}
use native.Mathlib.Omega.{arith}
use lib.Dec.{ltb}
use lib.ListN.{length, get_or}
use borrow.Author.Tests.{lt-ltb, le-ltb, ltb-true, ltb-false, eqb-false}
use Rattle.theory_sequences.specs.Stepping.{Stepping}
use Rattle.theory_sequences.specs.Sequences.{wanted, upto, Listed}
use Rattle.theory_sequences.specs.Lawful.{Lawful}
use Rattle.theory_sequences.specs.Answer.{Answer, allowed, forbidden, unfinished, visit, answer}
use Rattle.theory_sequences.specs.Demand.{First, NoneWanted, Demand}
use Rattle.theory_sequences.proofs.Ordered.{among_at}
use Rattle.theory_sequences.proofs.Listed.{only}

module _ {A : Type 0} (wanted : List A → Bool) where
  -- how a visit with k visited of a budget b ends: at the first wanted sequence, after all, or where the budget does
  data Went (b k : ℕ) (l : List (List A)) (o : Answer A) : Type 0 where
    at : (n i : ℕ) → o ≡ allowed n (get_or l i []) → n ≡ suc (k + i) → i < length l → k + i < b → wanted (get_or l i []) ≡ true
        → ((j : ℕ) → j < i → wanted (get_or l j []) ≡ false) → Went b k l o
    all : (n : ℕ) → o ≡ forbidden n → n ≡ k + length l → n ≤ b → NoneWanted wanted l → Went b k l o
    cut : o ≡ unfinished b → b < k + length l → ((j : ℕ) → k + j < b → wanted (get_or l j []) ≡ false) → Went b k l o

  went : (b k : ℕ) (l : List (List A)) → k ≤ b → Went b k l (visit wanted b k l)
  unfolding visit
  went b k [] h = all k refl (omega arith) h (λ q i. absurd i)
  went b k (q ∷ l) h = go (ltb k b) (wanted q) refl refl (λ i. went b (suc k) l i)
    where
      past : wanted q ≡ false → (j : ℕ) → ((i : ℕ) → j ≡ suc i → wanted (get_or l i []) ≡ false) → wanted (get_or (q ∷ l) j []) ≡ false
      past e zero h = e
      past e (suc i) h = h i refl

      later : wanted q ≡ false → Went b (suc k) l (visit wanted b (suc k) l) → Went b k (q ∷ l) (visit wanted b (suc k) l)
      later e (at n i o d x y w f) = at n (suc i) o (omega arith) (omega arith) (omega arith) w (λ j z. past e j (λ m r. f m (omega arith)))
      later e (all n o d x f) = all n o (omega arith) x (λ p i. ⊎_elim (λ z. rw z e) (λ z. f p z) i)
      later e (cut o x f) = cut o (omega arith) (λ j z. past e j (λ m r. f m (omega arith)))

      go : (t u : Bool) → ltb k b ≡ t → wanted q ≡ u → (suc k ≤ b → Went b (suc k) l (visit wanted b (suc k) l)) → Went b k (q ∷ l) (visit wanted b k (q ∷ l))
      go false u e f rec =
          let i : b ≤ k = ltb-false k b e in
          rw (le-ltb, visit) (cut refl (omega arith) (λ j z. absurd (omega arith)))
      go true true e f rec =
          let i : k < b = ltb-true k b e in
          rw (lt-ltb, f, visit) (at (suc k) 0 refl (omega arith) (omega arith) (omega arith) f (λ j z. absurd (omega arith)))
      go true false e f rec =
          let i : k < b = ltb-true k b e in
          rw (lt-ltb, f, visit) (later f (rec i))

  -- the answer meets the demand
  pub meets : (l : List (List A)) (b : ℕ) → Demand wanted l b (answer wanted l b)
  unfolding answer
  meets l b = go (visit wanted b 0 l) (went b 0 l (omega arith))
    where
      first : (n m i : ℕ) (q : List A) → n ≡ m → q ≡ get_or l i [] → m ≡ suc (0 + i) → i < length l → 0 + i < b → wanted (get_or l i []) ≡ true
          → ((j : ℕ) → j < i → wanted (get_or l j []) ≡ false) → First wanted l b n q
      first n m i q e eq d x y w f =
          let p : n - 1 ≡ i = omega arith in
          record {
            from_one = omega arith;
            in_budget = omega arith;
            in_list = omega arith;
            there = rw p (sym eq);
            is_wanted = rw eq w;
            none_before = λ j z. f j (omega arith);
          }

      go : (o : Answer A) → Went b 0 l o → Demand wanted l b o
      go o (at n i e d x y w f) = record {
        allowed_if = λ j z u v. (n, get_or l i [], e);
        allowed_then = λ m q z. first m n i q (cc) (cc) d x y w f;
        forbidden_if = λ z u. absurd (true≢false (sym w ∙ z (get_or l i []) (among_at l i [] x)));
        forbidden_then = λ m z. absurd (eqb-false 0 1 refl cc);
        unfinished_then = λ m z. absurd (eqb-false 0 1 refl cc);
      }
      go o (all n e d x f) = record {
        allowed_if = λ j z u v. absurd (true≢false (sym v ∙ f (get_or l j []) (among_at l j [] u)));
        allowed_then = λ m q z. absurd (eqb-false 0 1 refl cc);
        forbidden_if = λ z u. (n, e);
        forbidden_then = λ m z. let c : m ≡ n = cc in (omega arith, omega arith, f);
        unfinished_then = λ m z. absurd (eqb-false 0 1 refl cc);
      }
      go o (cut e d f) = record {
        allowed_if = λ j z u v. absurd (true≢false (sym v ∙ f j (omega arith)));
        allowed_then = λ m q z. absurd (eqb-false 0 1 refl cc);
        forbidden_if = λ z u. absurd (omega arith);
        forbidden_then = λ m z. absurd (eqb-false 0 1 refl cc);
        unfinished_then = λ m z. cc;
      }

  -- ---- one answer only

  module _ (l : List (List A)) (b : ℕ) where
    hit : (n : ℕ) (q : List A) → First wanted l b n q → wanted (get_or l (n - 1) []) ≡ true
    hit n q F = rw F.there F.is_wanted

    not_later : (n m : ℕ) (p q : List A) → First wanted l b n p → First wanted l b m q → n < m → ⊥
    not_later n m p q F G h = true≢false (sym (hit n p F) ∙ G.none_before (n - 1) (omega (arith, F.from_one)))

    same_place : (n m : ℕ) (p q : List A) → First wanted l b n p → First wanted l b m q → n ≡ m
    same_place n m p q F G =
        let x : ¬ (n < m) = not_later n m p q F G in
        let y : ¬ (m < n) = not_later m n q p G F in
        omega arith

    not_both : (n m : ℕ) (q : List A) → Demand wanted l b (allowed n q) → Demand wanted l b (forbidden m) → ⊥
    not_both n m q D E =
        let F = D.allowed_then n q refl in
        true≢false (sym (hit n q F) ∙ (E.forbidden_then m refl).2 (get_or l (n - 1) []) (among_at l (n - 1) [] (omega (arith, F.from_one, F.in_list))))

    not_open : (n m : ℕ) (q : List A) → Demand wanted l b (allowed n q) → Demand wanted l b (unfinished m) → ⊥
    not_open n m q D E =
        let F = D.allowed_then n q refl in
        let w = E.allowed_if (n - 1) (omega (arith, F.from_one, F.in_budget)) (omega (arith, F.from_one, F.in_list)) (hit n q F) in
        let e = w.2 in
        eqb-false 0 1 refl cc

    not_closed : (n m : ℕ) → Demand wanted l b (forbidden n) → Demand wanted l b (unfinished m) → ⊥
    not_closed n m D E =
        let F = D.forbidden_then n refl in
        let e = (E.forbidden_if F.2 F.1).1 in
        eqb-false 0 1 refl cc

    -- the demand leaves one answer only
    pub one_answer : (o o' : Answer A) → Demand wanted l b o → Demand wanted l b o' → o ≡ o'
    one_answer (allowed n p) (allowed m q) D E =
        let F = D.allowed_then n p refl in
        let G = E.allowed_then m q refl in
        let e : n ≡ m = same_place n m p q F G in
        let d : p ≡ q = sym F.there ∙ ap (λ (i : ℕ). get_or l (i - 1) []) e ∙ G.there in
        cc
    one_answer (allowed n q) (forbidden m) D E = absurd (not_both n m q D E)
    one_answer (allowed n q) (unfinished m) D E = absurd (not_open n m q D E)
    one_answer (forbidden n) (allowed m q) D E = absurd (not_both m n q E D)
    one_answer (forbidden n) (forbidden m) D E = ap forbidden ((D.forbidden_then n refl).0 ∙ sym (E.forbidden_then m refl).0)
    one_answer (forbidden n) (unfinished m) D E = absurd (not_closed n m D E)
    one_answer (unfinished n) (allowed m q) D E = absurd (not_open m n q E D)
    one_answer (unfinished n) (forbidden m) D E = absurd (not_closed m n E D)
    one_answer (unfinished n) (unfinished m) D E = ap unfinished (D.unfinished_then n refl ∙ sym (E.unfinished_then m refl))

  -- ---- a larger budget

  more : (b c k : ℕ) (l : List (List A)) → b ≤ c → (visit wanted b k l ≡ unfinished b) ⊎ (visit wanted c k l ≡ visit wanted b k l)
  unfolding visit
  more b c k [] h = inr refl
  more b c k (q ∷ l) h = go (ltb k b) (wanted q) refl refl (more b c (suc k) l h)
    where
      go : (t u : Bool) → ltb k b ≡ t → wanted q ≡ u → (visit wanted b (suc k) l ≡ unfinished b) ⊎ (visit wanted c (suc k) l ≡ visit wanted b (suc k) l)
          → (visit wanted b k (q ∷ l) ≡ unfinished b) ⊎ (visit wanted c k (q ∷ l) ≡ visit wanted b k (q ∷ l))
      go true true e f i = inr (rw (e, lt-ltb k c (omega (arith, ltb-true k b e)), f, visit))
      go true false e f (inl i) = inl (rw (e, f, visit) i)
      go true false e f (inr i) = inr (rw (e, lt-ltb k c (omega (arith, ltb-true k b e)), f, visit) i)
      go false u e f i = inl (rw (e, visit))

  -- a larger budget never changes `allowed`
  pub more_budget_allowed : (l : List (List A)) (b c n : ℕ) (q : List A) → b ≤ c → answer wanted l b ≡ allowed n q → answer wanted l c ≡ allowed n q
  unfolding answer
  more_budget_allowed l b c n q h e = ⊎_elim (λ i. absurd (eqb-false 0 1 refl cc)) (λ i. i ∙ e) (more b c 0 l h)

  -- a larger budget never changes `forbidden`
  pub more_budget_forbidden : (l : List (List A)) (b c n : ℕ) → b ≤ c → answer wanted l b ≡ forbidden n → answer wanted l c ≡ forbidden n
  unfolding answer
  more_budget_forbidden l b c n h e = ⊎_elim (λ i. absurd (eqb-false 0 1 refl cc)) (λ i. i ∙ e) (more b c 0 l h)

-- the demand, over the list of all accepted sequences, whichever way it was come by
pub demand_3 : (M : Stepping) (L : Lawful M) (n : ℕ) (s : M.State) → L.bound s ≤ n → (b : ℕ) (l : List (List M.Step)) → Listed M s l
    → Demand (wanted M s) l b (answer (wanted M s) (upto M n s) b)
demand_3 M L n s h b l i = rw (← only M L n s h l i) (meets (wanted M s) l b)
