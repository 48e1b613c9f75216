-- What a call returns and leaves in the area, by the tests that led there.
-- Assumes nothing.
use mathlib.Core.Path.{◌≡◌, refl, ap, ap₂, ◌∙◌}
use mathlib.Core.List.{List, [], ◌∷◌, ◌++◌}
use Prim.Native.Nat.{ℕ, ◌≤◌, ◌<◌}
use native.Mathlib.Nat.{zero-add}
use native.Mathlib.Omega.{arith}
use lib.ListN.{length, drop}
use borrow.Author.Tests.{lt-ltb, le-ltb, eq-eqb, ne_eqb}
use Rattle.std.specs.Prelude.{Result, Ok, Err}
use Rattle.program.specs.declared.Refused.{Refused}
use Rattle.search.specs.declared.Answer.{Answer}
use Rattle.encode_numbers.specs.Cases.{search_steps}
use Rattle.program.specs.declared.Program.{Program}
use Rattle.machine.specs.declared.Machine.{Machine}
use Rattle.encode_bytes.specs.Places.{put}
use Rattle.encode_program.specs.Value.{program_of}
use Rattle.encode_machine.specs.Value.{machine_of}
use Rattle.capi.specs.Calls.{Called, called, with_answer, on_area, on_value, CalledBeside, called_beside, on_areas}

-- ---- an area that is too short, and one with room
pub short : (n : ℕ) (a : List ℕ) (on : Called) → length a < n → called 1 a ≡ on_area n a on
short n a on h = rw (lt-ltb _ _ h)

room : (n : ℕ) (a : List ℕ) (on : Called) → n ≤ length a → on ≡ on_area n a on
room n a on h = rw (le-ltb _ _ h)

-- ---- a value of another length, and one that fits
other : (n : ℕ) (v a : List ℕ) (on : Called) → (length v ≡ n → ⊥) → called 2 a ≡ on_value n v a on
other n v a on h = rw (ne_eqb _ _ h)

fits : (n : ℕ) (v a : List ℕ) (on : Called) → length v ≡ n → on ≡ on_value n v a on
fits n v a on h = rw (eq-eqb _ _ h)

-- ---- areas that are lent besides: one, or two
pub one : (t t' : List ℕ) → t ≡ t' → ◌≡◌ {A = List (List ℕ)} (t ∷ []) (t' ∷ [])
one t t' = ap (λ (t : List ℕ). t ∷ [])

pub two : (t t' k k' : List ℕ) → t ≡ t' → k ≡ k' → ◌≡◌ {A = List (List ℕ)} (t ∷ k ∷ []) (t' ∷ k' ∷ [])
two t t' k k' = ap₂ (λ (t k : List ℕ). t ∷ k ∷ [])

pub short_beside : (n : ℕ) (a : List ℕ) (on : Called) (before after : List (List ℕ)) → length a < n → called_beside 1 a before ≡ on_areas n a on before after
short_beside n a on before after h = rw (lt-ltb _ _ h)

beside : List (List ℕ) → Called → CalledBeside
beside l c = record { call = c; beside = l }

-- ---- two values first
module _ (n : ℕ) (p x a : List ℕ) (on : Called) (h : n ≤ length a) where
  pub other_program : (length p ≡ 487 → ⊥) → called 2 a ≡ on_area n a (on_value 487 p a (on_value 341 x a on))
  other_program l = other 487 p a _ l ∙ room n a _ h

  pub other_machine : length p ≡ 487 → (length x ≡ 341 → ⊥) → called 2 a ≡ on_area n a (on_value 487 p a (on_value 341 x a on))
  other_machine l m = other 341 x a on m ∙ fits 487 p a _ l ∙ room n a _ h

  both_fit : length p ≡ 487 → length x ≡ 341 → on ≡ on_area n a (on_value 487 p a (on_value 341 x a on))
  both_fit l m = fits 341 x a on m ∙ fits 487 p a _ l ∙ room n a _ h

-- ---- whatever is answered, written at the start of an area of n bytes or more
module _ {R : Type 0} (n : ℕ) (bytes : R → List ℕ) (a a' : List ℕ) (r : R) (h : n ≤ length a) (w : a' ≡ put 0 (bytes r) a) where
  wrote : (x : R) → r ≡ x → called 0 a' ≡ with_answer (bytes x) a
  unfolding put
  wrote x e = ap (called 0) (w ∙ ap (λ (k : ℕ). bytes r ++ drop k a) (zero-add (length (bytes r)))) ∙ ap (λ (z : R). with_answer (bytes z) a) e

  pub answer_of_file : (x : R) → r ≡ x → called 0 a' ≡ on_area n a (with_answer (bytes x) a)
  answer_of_file x e = wrote x e ∙ room n a _ h

  pub answer_beside : (x : R) → r ≡ x → (before after left : List (List ℕ)) → left ≡ after → called_beside 0 a' left ≡ on_areas n a (with_answer (bytes x) a) before after
  unfolding beside
  answer_beside x e before after left l = ap₂ beside (l ∙ rw (le-ltb _ _ h)) (answer_of_file x e)

  pub answer_of_values : {K : Type 0} (f : Program → Machine → K → R) (k : K) (p x : List ℕ) (q : Program) (y : Machine) → length p ≡ 487 → length x ≡ 341 → q ≡ program_of p → y ≡ machine_of x → r ≡ f q y k
      → called 0 a' ≡ on_area n a (on_value 487 p a (on_value 341 x a (with_answer (bytes (f (program_of p) (machine_of x) k)) a)))
  answer_of_values f k p x q y l m ep ex e = wrote _ (e ∙ ap₂ (λ (q : Program) (y : Machine). f q y k) ep ex) ∙ both_fit n p x a _ h l m

-- ---- the steps of a trace, of which there are none where the search is refused
pub few : (r : Result Answer Refused) → ((a : Answer) → r ≡ Ok a → a.steps ≤ 80) → search_steps r ≤ 80
few (Ok a) h = h a refl
few (Err e) h = omega arith
