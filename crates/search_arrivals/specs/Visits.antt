-- What the private parts of a search answer: how far each has come, and what it leaves in lent memory: the trace that it found, or the outcomes that it noted.
-- Assumes nothing.
use Rattle.std.specs.Prelude.{◌≡◌, Bool, true, false, cond, List, ℕ, ◌+◌, ◌-◌, ◌*◌, ◌≤◌, leb, length}
use Rattle.std.proofs.Math.Option.{Option, some}
use Rattle.program.specs.declared.Program.{Program}
use Rattle.machine.specs.declared.Machine.{Machine}
use Rattle.machine.specs.Inner.{Formed}
use Rattle.theory_sequences.specs.Sequences.{upto, branches}
use Rattle.theory_sequences.specs.Scan.{Scan, going, found, out, scan, NothingNew, asking, done_at}
use Rattle.step.specs.Step.{Step}
use Rattle.step.specs.Outcome.{complete, outcome, asked}
use Rattle.trace_record.specs.Trace.{trace_bytes}
use Rattle.step.specs.Inner.{potential}
use Rattle.encode_bytes.specs.Places.{put}
use Rattle.search_sequences.specs.OfProgram.{stepping}
use Rattle.search_tries.specs.Steps.{NextOpen}
use Rattle.search_table.specs.Table.{EverySlot}
use Rattle.search_outcomes.specs.Table.{Notes, noted, Orderly}
pub use Rattle.search_arrivals.specs.declared.Ran.{Ran}
pub use Rattle.search_arrivals.specs.declared.Ran.TheVariants.{Going, Found, Out}
pub use Rattle.search_arrivals.specs.declared.Aim.{Aim}
pub use Rattle.search_arrivals.specs.declared.Aim.TheVariants.{Question, Outcomes}
pub use Rattle.search_arrivals.specs.declared.Arrival.{Arrival}
pub use Rattle.search_arrivals.specs.declared.Arrival.TheVariants.{Over, Ending, Open}

-- what is done at a machine that is visited, with b of the budget left: the question is asked; or the outcome of a complete one is noted
unfoldable pub acts : Program → Aim → Machine → ℕ → Notes → Option Notes
acts p Question x b n = asking (λ y. asked p y) x b n
acts p (Outcomes wide) x b n = some (cond (complete p x) (noted wide (outcome p x) b n) n)

-- the search from x with b of the budget left and n noted
unfoldable pub visiting : Program → Aim → Machine → ℕ → Notes → Scan Step Notes
visiting p a x b n = scan (done_at (stepping p) (acts p a) x) (upto (stepping p) (potential p x) x) b n

-- the part of it that begins with one of the steps ks
unfoldable pub trying : Program → Aim → Machine → List Step → ℕ → Notes → Scan Step Notes
trying p a x ks b n = scan (done_at (stepping p) (acts p a) x) (branches (stepping p) (λ y. upto (stepping p) (potential p y) y) x ks) b n

-- after d steps: a trace found below has those steps too
abbrev pub ran_of : ℕ → Scan Step Notes → Ran
ran_of d (going b n) = Going b
ran_of d (found b q n) = Found b (d + length q)
ran_of d (out n) = Out

-- what is lent, after d steps: the trace found below stands behind the first d records
abbrev pub laid : ℕ → Scan Step Notes → Notes
laid d (going b n) = n
laid d (found b q n) = (put (6 * d) (trace_bytes q) n.0, n.1)
laid d (out n) = n

-- the answer of a part of the search after d steps, and what it leaves in lent memory
pub record Reports (d : ℕ) (o : Scan Step Notes) (r : Ran) (after : Notes) : Type 0 where
  pub answer : r ≡ ran_of d o
  pub lent : after ≡ laid d o

-- what is met after d steps where all threads are at their end, by whether the machine is complete and whether the question holds
abbrev pub at_end : Aim → ℕ → ℕ → Bool → Bool → Arrival
at_end a d rest false h = Over (Going rest)
at_end Question d rest true true = Over (Found rest d)
at_end Question d rest true false = Over (Going rest)
at_end (Outcomes wide) d rest true h = Ending wide rest

-- the answer where n sequences are known, with nothing new at any
abbrev pub after_known : ℕ → ℕ → Ran
after_known left n = cond (leb n left) (Going (left - n)) Out

-- what is asked before a visit: program and machine are well formed; no more than 80 steps follow in all; the area has room for a trace of as many steps, or the outcomes in it are in order
pub record Visitable (p : Program) (a : Aim) (x : Machine) (d : ℕ) (n : Notes) : Type 0 where
  pub well : Formed p x
  pub short : d + potential p x ≤ 80
  pub room : a ≡ Question → 480 ≤ length n.0
  pub orderly : (wide : Bool) → a ≡ Outcomes wide → Orderly wide n

-- what a table holds of a machine x, where n is noted: there are exactly k accepted sequences from x, the empty one among them, and nothing new is met at any
pub record Known (p : Program) (a : Aim) (n : Notes) (x : Machine) (k : ℕ) : Type 0 where
  pub all : length (upto (stepping p) (potential p x) x) ≡ k
  pub nothing_new : NothingNew (done_at (stepping p) (acts p a) x) n (upto (stepping p) (potential p x) x)

-- a visit of x that goes on, with b of the budget left and the table t: i is the first thread that is not at its end, and slot is one of
-- the table's, if it has any
pub record Opens (p : Program) (x : Machine) (b : ℕ) (t : List ℕ) (i slot : ℕ) : Type 0 where
  pub some_left : b ≡ 0 → ⊥
  pub next : NextOpen p x 0 i
  pub not_ended : i ≡ 4 → ⊥
  pub has_slot : 349 ≤ length t → 349 * slot + 349 ≤ length t

-- what is met at x, where n is noted: the answer of its visit, which notes nothing; a complete machine, whose outcome is to be noted; or a visit that goes on
unfoldable pub Meets : Program → Aim → Machine → ℕ → ℕ → List ℕ → Notes → Arrival → Type 0
Meets p a x d b t n (Over r) = Reports d (visiting p a x b n) r n
Meets p a x d b t n (Ending wide rest) = (a ≡ Outcomes wide) × (visiting p a x b n ≡ going rest (noted wide (outcome p x) rest n))
Meets p a x d b t n (Open i slot) = Opens p x b t i slot

-- the same whatever is noted, as long as the table is true of it
abbrev pub Arrives : Program → Aim → Machine → ℕ → ℕ → List ℕ → Arrival → Type 0
Arrives p a x d b t r = (n : Notes) → EverySlot (Known p a n) t → Meets p a x d b t n r
