-- Outcomes in lent bytes: rows of one width, ascending, each the 48 bytes of an outcome and its place, low byte first. Beside them a sheet
-- of two numbers: how many outcomes have been met, and the budget.
-- Assumes nothing.
use Rattle.std.specs.Prelude.{◌≡◌, Bool, true, cond, List, ◌++◌, map, ℕ, ◌-◌, ◌≤◌, ◌<◌, ltb, length, get_or, take}
use Rattle.machine.specs.declared.Memory.{Memory}
use Rattle.machine.specs.declared.Machine.{Machine}
use Rattle.machine.specs.State.{fresh_register, no_message, thread_of}
use Rattle.theory_sequences.specs.Sequences.{Ascending}
use Rattle.theory_sequences.specs.Listing.{Entry, entered}
use Rattle.step.specs.Order.{range, for_each}
use Rattle.step.specs.Outcome.{last_value, smaller}
use Rattle.encode_bytes.specs.Lists.{entries}
use Rattle.encode_bytes.specs.Places.{put}
use Rattle.search_outcomes.specs.declared.Sheet.{Sheet}
pub use Rattle.search_outcomes.specs.Rows.{row_width, place_bytes, capacity, row_bytes, entry_bytes}

-- the outcome of a machine whose absent threads are fresh
unfoldable pub ending : Machine → List ℕ
ending x =
    for_each (range 0 4) (λ i. map (λ (r : ℕ). (get_or (thread_of x i).registers r fresh_register).value) (range 0 8))
    ++ map (λ (l : ℕ). last_value x.memory l) (range 0 16)

-- the first n rows
unfoldable pub rows_of : Bool → ℕ → List ℕ → List (List ℕ)
rows_of wide n area = entries (take (row_width wide)) (row_width wide) n area

-- a row is before another by its outcome
abbrev pub row_smaller : List ℕ → List ℕ → Bool
row_smaller x y = smaller (take 48 x) (take 48 y)

-- the order of entries is that of their rows
abbrev pub entry_smaller : Entry (List ℕ) → Entry (List ℕ) → Bool
entry_smaller x y = smaller x.outcome y.outcome

-- the lent bytes, and the sheet
abbrev pub Notes : Type 0
Notes = List ℕ × Sheet

-- how many outcomes have been met: one more than there is room for says that one has found none
abbrev pub met_of : Notes → ℕ
met_of n = n.1.met

-- a sheet on which nothing has been met, and the sheet with another number of outcomes met
abbrev pub fresh_sheet : ℕ → Sheet
fresh_sheet b = record { met = 0; budget = b }

abbrev pub with_met : ℕ → Sheet → Sheet
with_met m s = record { met = m; budget = s.budget }

-- the outcome o noted with its place, where `rest` of the budget is left: it is entered among the rows, unless it is there or too many have been met
unfoldable pub noted : Bool → List ℕ → ℕ → Notes → Notes
noted wide o rest n =
    let rows = entered row_smaller (o ++ place_bytes wide (n.1.budget - rest)) (rows_of wide (met_of n) n.0) in
    cond (ltb (capacity wide n.0) (met_of n)) n
    (cond (ltb (capacity wide n.0) (length rows)) (n.0, with_met (length rows) n.1) (put 0 (row_bytes rows) n.0, with_met (length rows) n.1))

-- the rows are ascending, if not too many have been met
pub record Orderly (wide : Bool) (n : Notes) : Type 0 where
  pub rising : met_of n ≤ capacity wide n.0 → Ascending (λ (x y : List ℕ). row_smaller x y ≡ true) (rows_of wide (met_of n) n.0)

-- what is asked of a memory whose last values are looked at
pub record Placed (m : Memory) : Type 0 where
  pub few : m.count ≤ 16
  pub low : (t : ℕ) → t < m.count → (get_or m.messages t no_message).location < 16
