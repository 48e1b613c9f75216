-- What the list of sequences and the answer are: the list is all accepted sequences in order, the only such list, and the answer is what is demanded over it.
-- Assumes nothing.
use mathlib.Core.Path.{◌≡◌}
use mathlib.Core.List.{List}
use Prim.Native.Nat.{ℕ, ◌≤◌}
use native.Mathlib.Omega.{arith}
use lib.ListN.{length}
use Rattle.program.specs.declared.Program.{Program}
use Rattle.program.specs.Counts.{size}
use Rattle.machine.specs.State.{fresh}
use Rattle.theory_sequences.specs.Sequences.{Accepted, Listed, wanted}
use Rattle.theory_sequences.specs.Answer.{Answer, allowed, forbidden, answer}
use Rattle.theory_sequences.specs.Demand.{Demand}
use Rattle.theory_sequences.proofs.Listed as lists
use Rattle.theory_sequences.proofs.Meets as answers
use Rattle.step.specs.Step.{Step}
use Rattle.step.proofs.Bound.{potential_fresh}
use Rattle.step.specs.Inner.{potential}
use Rattle.search_sequences.specs.OfProgram.{stepping, sequences_of, answer_to}
use Rattle.search_sequences.proofs.Machine.{lawful}

fresh_bound : (p : Program) → potential p fresh ≤ size p
fresh_bound p = let e = potential_fresh p in omega arith

-- BOUND: no accepted sequence has more steps than the program has instructions and stores together
pub bound : (p : Program) (q : List Step) → Accepted (stepping p) fresh q → length q ≤ size p
bound p q a = let h = lists.short (stepping p) (lawful p) fresh q a in let e = potential_fresh p in omega arith

-- LISTED: the list is all accepted sequences, in order, each once
pub listed : (p : Program) → Listed (stepping p) fresh (sequences_of p)
unfolding sequences_of
listed p = lists.listed (stepping p) (lawful p) (size p) fresh (fresh_bound p)

-- ONLY: and there is no other such list
pub only : (p : Program) (l : List (List Step)) → Listed (stepping p) fresh l → l ≡ sequences_of p
unfolding sequences_of
only p = lists.only (stepping p) (lawful p) (size p) fresh (fresh_bound p)

-- THE DEMAND on the answer, over any list of all accepted sequences in order
pub demand_3 : (p : Program) (b : ℕ) (l : List (List Step)) → Listed (stepping p) fresh l → Demand (wanted (stepping p) fresh) l b (answer_to p b)
unfolding answer_to sequences_of
demand_3 p b l h = answers.demand_3 (stepping p) (lawful p) (size p) fresh (fresh_bound p) b l h

-- ONE ANSWER: nothing else meets the demand
pub one_answer : (p : Program) (b : ℕ) (o : Answer Step) → Demand (wanted (stepping p) fresh) (sequences_of p) b o → o ≡ answer_to p b
unfolding answer_to
one_answer p b o d = answers.one_answer (wanted (stepping p) fresh) (sequences_of p) b o (answer (wanted (stepping p) fresh) (sequences_of p) b) d (answers.meets (wanted (stepping p) fresh) (sequences_of p) b)

-- a larger budget never changes allowed or forbidden
pub more_budget_allowed : (p : Program) (b c n : ℕ) (q : List Step) → b ≤ c → answer_to p b ≡ allowed n q → answer_to p c ≡ allowed n q
unfolding answer_to
more_budget_allowed p b c n q h e = answers.more_budget_allowed (wanted (stepping p) fresh) (sequences_of p) b c n q h e

pub more_budget_forbidden : (p : Program) (b c n : ℕ) → b ≤ c → answer_to p b ≡ forbidden n → answer_to p c ≡ forbidden n
unfolding answer_to
more_budget_forbidden p b c n h e = answers.more_budget_forbidden (wanted (stepping p) fresh) (sequences_of p) b c n h e
