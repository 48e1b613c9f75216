-- What is done at a visited machine: how much of the notes it leaves as it was, and that it does nothing new a second time.
-- Assumes nothing.
use mathlib.Core.Path.{◌≡◌, refl, sym, ap, subst, ◌∙◌}
use mathlib.Core.Bool.{Bool, true, false, cond}
use mathlib.Core.List.{List, [], ◌++◌, map}
use mathlib.Core.Option.{Option, none, some, some-injective}
use Prim.Native.Nat.{ℕ}
use borrow.Author.Tests.{eqb-false}
use lib.Dec.{ltb}
use lib.ListN.{length, get_or, replicate, length-append}
use Rattle.program.specs.declared.Program.{Program}
use Rattle.machine.specs.declared.Machine.{Machine}
use Rattle.theory_sequences.specs.Sequences.{run, upto}
use Rattle.theory_sequences.specs.Scan.{found, noted_of, asking, done_at, Settled, Settling}
use Rattle.theory_sequences.proofs.Scan.{scan_found, scan_keeps, done_keeps}
use Rattle.step.specs.Step.{Step}
use Rattle.step.specs.Inner.{potential}
use Rattle.machine.specs.State.{fresh_register, thread_of}
use Rattle.step.specs.Order.{range, for_each}
use Rattle.step.specs.Outcome.{complete, register_values, outcome, asked}
use Rattle.search_sequences.specs.OfProgram.{stepping}
use Rattle.search_outcomes.specs.Table.{Notes, noted, Orderly}
use Rattle.search_outcomes.proofs.Laws.{noted_long, noted_orderly, noted_settles, noted_stays}
use Rattle.search_arrivals.specs.Visits.{Aim, Question, Outcomes, acts, visiting}

registers_length : (p : Program) (x : Machine) (i : ℕ) → length (register_values p x i) ≡ 8
unfolding range
registers_length p x i = go (ltb i p.threads)
  where
    go : (b : Bool) → length (cond b (map (λ (r : ℕ). (get_or (thread_of x i).registers r fresh_register).value) (range 0 8)) (replicate 8 0)) ≡ 8
    go true = refl
    go false = refl

pub outcome_length : (p : Program) (x : Machine) → length (outcome p x) ≡ 48
unfolding outcome for_each range
outcome_length p x =
    let r : ℕ → List ℕ = λ i. register_values p x i in
    length-append (r 0 ++ (r 1 ++ (r 2 ++ (r 3 ++ [])))) _
    ∙ rw (length-append (r 0), length-append (r 1), length-append (r 2), length-append (r 3), registers_length p x 0, registers_length p x 1, registers_length p x 2, registers_length p x 3) refl

-- a search that asks the question notes nothing, and goes on where it is not answered
pub question_same : (p : Program) (x : Machine) (b : ℕ) (n m : Notes) → acts p Question x b n ≡ some m → (m ≡ n) × (asked p x ≡ false)
unfolding acts asking
question_same p x b n m e = go (asked p x) e
  where
    go : (t : Bool) → elim t [ true ↦ none | false ↦ some n ] ≡ some m → (m ≡ n) × (t ≡ false)
    go true d = absurd (eqb-false 0 1 refl cc)
    go false d = (sym (some-injective n m d), refl)

pub asked_past : (p : Program) (x : Machine) (b : ℕ) (n : Notes) → asked p x ≡ false → acts p Question x b n ≡ some n
unfolding acts asking
asked_past p x b n e = subst (λ (t : Bool). ◌≡◌ {A = Option Notes} (elim t [ true ↦ none | false ↦ some n ]) (some n)) (sym e) refl

pub asked_ends : (p : Program) (x : Machine) (b : ℕ) (n : Notes) → asked p x ≡ true → acts p Question x b n ≡ none
unfolding acts asking
asked_ends p x b n e = subst (λ (t : Bool). ◌≡◌ {A = Option Notes} (elim t [ true ↦ none | false ↦ some n ]) none) (sym e) refl

-- what holds of the notes whatever outcome is noted, is kept by every search
module _ (I : Notes → Type 0) (p : Program) (a : Aim) (keeps : (wide : Bool) → a ≡ Outcomes wide → (o : List ℕ) (b : ℕ) (n : Notes) → length o ≡ 48 → I n → I (noted wide o b n)) where
  acts_keep : (x : Machine) (b : ℕ) (n m : Notes) → I n → acts p a x b n ≡ some m → I m
  unfolding acts
  acts_keep = go a refl
    where
      go : (c : Aim) → a ≡ c → (x : Machine) (b : ℕ) (n m : Notes) → I n → acts p c x b n ≡ some m → I m
      go Question d x b n m i e = rw (question_same p x b n m e).0 i
      go (Outcomes wide) d x b n m i e = rw (← some-injective _ m e) (noted_or-not (complete p x))
        where
          noted_or-not : (t : Bool) → I (cond t (noted wide (outcome p x) b n) n)
          noted_or-not true = keeps wide d (outcome p x) b n (outcome_length p x) i
          noted_or-not false = i

  pub visiting_keeps : (x : Machine) (b : ℕ) (n : Notes) → I n → I (noted_of (visiting p a x b n))
  unfolding visiting
  visiting_keeps x b n i =
      scan_keeps I (done_at (stepping p) (acts p a) x) (λ q c m k j e. done_keeps (stepping p) (acts p a) I acts_keep x q c m k j e) (upto (stepping p) (potential p x) x) b n i

-- ---- the length of the area, and the order of its rows
pub visiting_long : (p : Program) (a : Aim) (x : Machine) (b : ℕ) (n : Notes) → length (noted_of (visiting p a x b n)).0 ≡ length n.0
visiting_long p a x b n = visiting_keeps (λ m. length m.0 ≡ length n.0) p a (λ wide e o c m k i. noted_long wide o c m k ∙ i) x b n refl

pub visiting_orderly : (p : Program) (a : Aim) (x : Machine) (b : ℕ) (n : Notes) → ((wide : Bool) → a ≡ Outcomes wide → Orderly wide n) → (wide : Bool) → a ≡ Outcomes wide → Orderly wide (noted_of (visiting p a x b n))
visiting_orderly p a x b n h wide e = visiting_keeps (λ m. Orderly wide m) p a (λ w f o c m k i. let same : w ≡ wide = cc in subst (λ (v : Bool). Orderly wide (noted v o c m)) (sym same) (noted_orderly wide o c m k i)) x b n (h wide e)

-- a search that asks the question notes nothing
never : {wide : Bool} → Question ≡ Outcomes wide → ⊥
never e = eqb-false 0 1 refl cc

pub visiting_same : (p : Program) (x : Machine) (b : ℕ) (n : Notes) → noted_of (visiting p Question x b n) ≡ n
visiting_same p x b n = visiting_keeps (λ m. m ≡ n) p Question (λ wide e. absurd (never e)) x b n refl

-- ---- only a search that asks the question ends early
never_ends : (p : Program) (a : Aim) (x : Machine) (b : ℕ) (n : Notes) → acts p a x b n ≡ none → a ≡ Question
unfolding acts
never_ends p Question x b n e = refl
never_ends p (Outcomes wide) x b n e = absurd (eqb-false 0 1 refl cc)

pub found_question : (p : Program) (a : Aim) (x : Machine) (b c : ℕ) (n m : Notes) (q : List Step) → visiting p a x b n ≡ found c q m → a ≡ Question
unfolding visiting done_at
found_question p a x b c n m q e = go (run (stepping p) x q) (scan_found (done_at (stepping p) (acts p a) x) (upto (stepping p) (potential p x) x) b c n m q e).0
  where
    go : (o : Option Machine) → ◌≡◌ {A = Option Notes} (elim o [ none ↦ some m | some y ↦ acts p a y c m ]) none → a ≡ Question
    go none d = absurd (eqb-false 0 1 refl cc)
    go (some y) d = never_ends p a y c m d

-- ---- nothing new is met a second time, whatever is noted
abbrev pub Any : Notes → Type 0
Any n = Unit {0}

question_settling : (p : Program) → Settling (stepping p) (acts p Question) Any
question_settling p = record { fits = acts_keep Any p Question (λ wide e. absurd (never e)); settles = settles; stays = stays }
  where
    settles : (x : Machine) (b : ℕ) (n m : Notes) → Any n → acts p Question x b n ≡ some m → Settled (stepping p) (acts p Question) m x
    settles x b n m f e c = asked_past p x c m (question_same p x b n m e).1

    stays : (x y : Machine) (b : ℕ) (n m : Notes) → Any n → Settled (stepping p) (acts p Question) n x → acts p Question y b n ≡ some m → Settled (stepping p) (acts p Question) m x
    stays x y b n m f h e = subst (λ (k : Notes). Settled (stepping p) (acts p Question) k x) (sym (question_same p y b n m e).0) h

module _ (p : Program) (wide : Bool) where
  -- what is noted at x, if it is complete
  noting : Bool → Machine → ℕ → Notes → Notes
  noting t x b n = cond t (noted wide (outcome p x) b n) n

  notes_settle : (t : Bool) (x : Machine) (b c : ℕ) (n : Notes) → noting t x c (noting t x b n) ≡ noting t x b n
  unfolding noting
  notes_settle true x b c n = noted_settles wide (outcome p x) n (outcome_length p x) b c
  notes_settle false x b c n = refl

  notes_stay : (t u : Bool) (x y : Machine) (b c : ℕ) (n : Notes) → ((d : ℕ) → noting t x d n ≡ n) → noting t x c (noting u y b n) ≡ noting u y b n
  unfolding noting
  notes_stay true true x y b c n h = noted_stays wide (outcome p x) n (outcome_length p x) (outcome p y) (outcome_length p y) h c b
  notes_stay true false x y b c n h = h c
  notes_stay false u x y b c n h = refl

  outcomes_settling : Settling (stepping p) (acts p (Outcomes wide)) Any
  unfolding acts noting
  outcomes_settling = record { fits = acts_keep Any p (Outcomes wide) (λ w e o b n k f. tt); settles = settles; stays = stays }
    where
      settles : (x : Machine) (b : ℕ) (n m : Notes) → Any n → acts p (Outcomes wide) x b n ≡ some m → Settled (stepping p) (acts p (Outcomes wide)) m x
      settles x b n m f e c = subst (λ (k : Notes). some (noting (complete p x) x c k) ≡ some k) (some-injective _ m e) (ap some (notes_settle (complete p x) x b c n))

      stays : (x y : Machine) (b : ℕ) (n m : Notes) → Any n → Settled (stepping p) (acts p (Outcomes wide)) n x → acts p (Outcomes wide) y b n ≡ some m → Settled (stepping p) (acts p (Outcomes wide)) m x
      stays x y b n m f h e c =
          subst (λ (k : Notes). some (noting (complete p x) x c k) ≡ some k) (some-injective _ m e)
          (ap some (notes_stay (complete p x) (complete p y) x y b c n (λ d. some-injective _ n (h d))))

pub settling : (p : Program) (a : Aim) → Settling (stepping p) (acts p a) Any
settling p Question = question_settling p
settling p (Outcomes wide) = outcomes_settling p wide
