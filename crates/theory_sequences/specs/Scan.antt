-- What code computes: a search through a list of sequences that counts its budget down and notes what it meets.
-- Assumes nothing.
use Rattle.std.specs.Prelude.{◌≡◌, Bool, true, false, List, [], ◌∷◌, ℕ, zero, suc, ◌-◌}
use Rattle.std.proofs.Math.Option.{Option, none, some}
use Rattle.theory_sequences.specs.Stepping.{Stepping}
use Rattle.theory_sequences.specs.Sequences.{Among, run}
use Rattle.theory_sequences.specs.Answer.{Answer, allowed, forbidden, unfinished}

-- how far a search has come, and what it has noted: on, with so much of the budget left; at a sequence that ends it, with so much left; or at a sequence with nothing left
pub data Scan (A N : Type 0) : Type 0 where
  going : ℕ → N → Scan A N
  found : ℕ → List A → N → Scan A N
  out : N → Scan A N

module _ {A N : Type 0} where
  -- each sequence costs one; g says what is done at it: none ends the search there, some goes on with what is noted then
  unfoldable pub scan : (List A → ℕ → N → Option N) → List (List A) → ℕ → N → Scan A N
  scan g [] b n = going b n
  scan g (q ∷ l) zero n = out n
  scan g (q ∷ l) (suc b) n = elim (g q b n) [ none ↦ found b q n | some m ↦ scan g l b m ]

  -- nothing new is met at any sequence of the list: whatever is left of the budget, the search goes on with what is noted
  abbrev pub NothingNew : (List A → ℕ → N → Option N) → N → List (List A) → Type 0
  NothingNew g n l = (q : List A) → Among q l → (b : ℕ) → g q b n ≡ some n

  -- the answer of a search that began with budget b
  abbrev pub told : ℕ → Scan A N → Answer A
  told b (going c n) = forbidden (b - c)
  told b (found c q n) = allowed (b - c) q
  told b (out n) = unfinished b

  -- go on with what is left and noted, unless the search has ended
  abbrev pub and_then : Scan A N → (ℕ → N → Scan A N) → Scan A N
  and_then (going b n) f = f b n
  and_then (found b q n) f = found b q n
  and_then (out n) f = out n

  -- the same search below a first step k
  abbrev pub under : A → Scan A N → Scan A N
  under k (going b n) = going b n
  under k (found b q n) = found b (k ∷ q) n
  under k (out n) = out n

  -- what is left of the budget
  abbrev pub left_of : Scan A N → ℕ
  left_of (going c n) = c
  left_of (found c q n) = c
  left_of (out n) = 0

  -- what is noted
  abbrev pub noted_of : Scan A N → N
  noted_of (going c n) = n
  noted_of (found c q n) = n
  noted_of (out n) = n

-- ---- what is done at a state that is visited
-- with so much of the budget left after it, and so much noted: none ends the search there
abbrev pub Act : Stepping → Type 0 → Type 0
Act M N = M.State → ℕ → N → Option N

-- the question is asked: the search ends where the outcome is the asked one, and nothing is noted
unfoldable pub asking : {S N : Type 0} → (S → Bool) → S → ℕ → N → Option N
asking asked t b n = elim (asked t) [ true ↦ none | false ↦ some n ]

-- what is done at the sequence q from s
unfoldable pub done_at : (M : Stepping) {N : Type 0} → Act M N → M.State → List M.Step → ℕ → N → Option N
done_at M act s q b n = elim (run M s q) [ none ↦ some n | some t ↦ act t b n ]

-- nothing new is met at t: whatever is left of the budget, the search goes on with what is noted
abbrev pub Settled : (M : Stepping) {N : Type 0} → Act M N → N → M.State → Type 0
Settled M act n t = (b : ℕ) → act t b n ≡ some n

-- a state that was visited is settled, and stays so whatever else is visited, where the notes are fit
pub record Settling (M : Stepping) {N : Type 0} (act : Act M N) (Fit : N → Type 0) : Type 0 where
  pub fits : (t : M.State) (b : ℕ) (n m : N) → Fit n → act t b n ≡ some m → Fit m
  pub settles : (t : M.State) (b : ℕ) (n m : N) → Fit n → act t b n ≡ some m → Settled M act m t
  pub stays : (t u : M.State) (b : ℕ) (n m : N) → Fit n → Settled M act n t → act u b n ≡ some m → Settled M act m t
