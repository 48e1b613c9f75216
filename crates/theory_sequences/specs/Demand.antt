-- What is demanded of an answer o with budget b over a list l of sequences: its verdict, count and trace.
-- Assumes nothing.
use Rattle.std.specs.Prelude.{◌≡◌, Bool, true, false, List, [], ℕ, ◌-◌, ◌≤◌, ◌<◌, length, get_or}
use Rattle.theory_sequences.specs.Sequences.{Among}
use Rattle.theory_sequences.specs.Answer.{Answer, allowed, forbidden, unfinished}

-- no sequence of the list is wanted
abbrev pub NoneWanted : {A : Type 0} → (List A → Bool) → List (List A) → Type 0
NoneWanted {A} wanted l = (q : List A) → Among q l → wanted q ≡ false

module _ {A : Type 0} (wanted : List A → Bool) (l : List (List A)) (b : ℕ) where
  -- q stands at place n, counted from 1; it is among the first b; it is wanted, and none before it is
  pub record First (n : ℕ) (q : List A) : Type 0 where
    pub from_one : 0 < n
    pub in_budget : n ≤ b
    pub in_list : n ≤ length l
    pub there : get_or l (n - 1) [] ≡ q
    pub is_wanted : wanted q ≡ true
    pub none_before : (j : ℕ) → j < n - 1 → wanted (get_or l j []) ≡ false

  pub record Demand (o : Answer A) : Type 0 where
    -- a wanted sequence is among the first b: allowed
    pub allowed_if : (j : ℕ) → j < b → j < length l → wanted (get_or l j []) ≡ true → (n : ℕ) × (q : List A) × (o ≡ allowed n q)
    -- allowed: the count is the place of the first wanted sequence, and the trace is that sequence
    pub allowed_then : (n : ℕ) (q : List A) → o ≡ allowed n q → First n q
    -- none is wanted, and there are at most b: forbidden
    pub forbidden_if : NoneWanted wanted l → length l ≤ b → (n : ℕ) × (o ≡ forbidden n)
    -- forbidden: the count is the number of all
    pub forbidden_then : (n : ℕ) → o ≡ forbidden n → (n ≡ length l) × (length l ≤ b) × NoneWanted wanted l
    -- not finished, which is every other case: the count is b
    pub unfinished_then : (n : ℕ) → o ≡ unfinished n → n ≡ b
