-- What a caller may conclude from the contract of the search.
-- Assumes nothing.
use mathlib.Core.Path.{◌≡◌, refl, sym, ap, subst, ◌∙◌}
use mathlib.Core.Bool.{Bool, true, false, cond}
use mathlib.Core.List.{List, ◌++◌}
use Prim.Native.Nat.{ℕ, ◌*◌, ◌≤◌}
use native.Mathlib.Omega.{arith}
use lib.Dec.{ltb}
use lib.ListN.{length, take, drop}
use lib.Seq.{take_at}
use borrow.Author.Tests.{le-ltb, eqb-false}
use Rattle.std.specs.Prelude.{Result, Ok, Err}
use Rattle.program.specs.declared.Program.{Program}
use Rattle.program.specs.File.{FileAnswer, refused, program, read_file}
use Rattle.program.proofs.ReadFormed.{read_formed}
use Rattle.program.specs.declared.Refusal.{Refusal}
use Rattle.program.specs.declared.Refusal.TheVariants.{ShortArea}
use Rattle.program.specs.declared.Refused.{Refused}
use Rattle.machine.specs.State.{fresh}
use Rattle.theory_sequences.specs.Sequences.{Listed, wanted}
use Rattle.theory_sequences.specs.Answer as sequences
use Rattle.theory_sequences.specs.Demand.{Demand}
use Rattle.step.specs.Step.{Step}
use Rattle.step.specs.Outcome.{complete}
use Rattle.trace_record.specs.Trace.{trace_bytes}
use Rattle.trace_replay.specs.Replay.{ended}
use Rattle.trace_replay.specs.declared.Replayed.{Replayed}
use Rattle.trace_replay.specs.Answers.{replayed, replay}
use Rattle.search_sequences.specs.OfProgram.{stepping, answer_to}
use Rattle.search_sequences.proofs.Meaning.{demand_3, more_budget_allowed, more_budget_forbidden}
use Rattle.trace_record.proofs.Writing.{trace_length}
use Rattle.search.specs.Answers.{Verdict, Allowed, Forbidden, NotFinished, Answer, answer_of, area_of, refusal, answer_on, area_on, Searched, SearchedWithin}
use Rattle.search.specs.Meaning.{Replays}
use Rattle.search_sequences.proofs.Small.{size_small}
use Rattle.search.proofs.Found.{found_short, found_replays}

-- answers that meet the contract coincide, lent memory included
pub search_coincide : (f : List ℕ) (b : ℕ) (area : List ℕ) (r r' : Result Answer Refused) (after after' : List ℕ) → Searched f b area r after → Searched f b area r' after' → (r ≡ r') × (after ≡ after')
search_coincide f b area r r' after after' s s' = (s.answer ∙ sym s'.answer, s.lent ∙ sym s'.lent)

-- the same of a search within a table, which is lent memory too
pub within_coincide : (f : List ℕ) (b : ℕ) (area table : List ℕ) (r r' : Result Answer Refused) (after after' tableAfter tableAfter' : List ℕ) → SearchedWithin f b area table r after tableAfter → SearchedWithin f b area table r' after' tableAfter'
    → (r ≡ r') × (after ≡ after') × (tableAfter ≡ tableAfter')
within_coincide f b area table r r' after after' k k' w w' =
    let s = search_coincide f b area r r' after after' w.searched w'.searched in
    (s.0, s.1, w.lent_table ∙ sym w'.lent_table)

-- whatever the tables are, and where there is none: the same answer and area
pub same_within : (f : List ℕ) (b : ℕ) (area table : List ℕ) (r r' : Result Answer Refused) (after after' tableAfter : List ℕ) → SearchedWithin f b area table r after tableAfter → Searched f b area r' after' → (r ≡ r') × (after ≡ after')
same_within f b area table r r' after after' k w s = search_coincide f b area r r' after after' w.searched s

-- ---- where nothing is refused
module _ {f : List ℕ} {p : Program} (good : read_file f ≡ program p) {area : List ℕ} (long : 480 ≤ length area) {b : ℕ} {r : Result Answer Refused} {after : List ℕ} (s : Searched f b area r after) where
  pub is_answer : r ≡ Ok (answer_of (answer_to p b))
  is_answer = s.answer ∙ ap (λ (y : FileAnswer). answer_on y b area) good ∙ rw (le-ltb (length area) 480 long)

  pub is_lent : after ≡ area_of (answer_to p b) area
  is_lent = s.lent ∙ ap (λ (y : FileAnswer). area_on y b area) good ∙ rw (le-ltb (length area) 480 long)

  -- THE DEMAND on the code's answer, over any list of all accepted sequences in order
  pub search_demand : (l : List (List Step)) → Listed (stepping p) fresh l
      → (o : sequences.Answer Step) × Demand (wanted (stepping p) fresh) l b o × (r ≡ Ok (answer_of o)) × (after ≡ area_of o area)
  search_demand l h = (answer_to p b, demand_3 p b l h, is_answer, is_lent)

-- ---- by the verdict
verdict_of : Answer → Verdict
verdict_of r = r.verdict

-- which answer of the definition a verdict stands for
data Which (p : Program) (b : ℕ) (area : List ℕ) (r : Answer) (after : List ℕ) : Type 0 where
  is_allowed : (n : ℕ) (q : List Step) → answer_to p b ≡ sequences.allowed n q → r ≡ record { verdict = Allowed; count = n; steps = length q } → after ≡ trace_bytes q ++ drop (6 * length q) area → Which p b area r after
  is_forbidden : (n : ℕ) → answer_to p b ≡ sequences.forbidden n → r ≡ record { verdict = Forbidden; count = n; steps = 0 } → after ≡ area → Which p b area r after
  is_unfinished : (n : ℕ) → answer_to p b ≡ sequences.unfinished n → r ≡ record { verdict = NotFinished; count = n; steps = 0 } → after ≡ area → Which p b area r after

which : (p : Program) (b : ℕ) (area : List ℕ) (r : Answer) (after : List ℕ) → r ≡ answer_of (answer_to p b) → after ≡ area_of (answer_to p b) area → Which p b area r after
which p b area r after e g = go (answer_to p b) refl e g
  where
    go : (o : sequences.Answer Step) → answer_to p b ≡ o → r ≡ answer_of o → after ≡ area_of o area → Which p b area r after
    go (sequences.allowed n q) d e g = is_allowed n q d e g
    go (sequences.forbidden n) d e g = is_forbidden n d e g
    go (sequences.unfinished n) d e g = is_unfinished n d e g

-- a search that is not refused was on a good file, with an area that is long enough
data Course (f : List ℕ) (b : ℕ) (area : List ℕ) (r : Result Answer Refused) (after : List ℕ) : Type 0 where
  was_refused : (n : Refusal) (place : ℕ) → r ≡ refusal n place → after ≡ area → Course f b area r after
  has_run : (p : Program) → read_file f ≡ program p → (a : Answer) → r ≡ Ok a → Which p b area a after → Course f b area r after

course : (f : List ℕ) (b : ℕ) (area : List ℕ) (r : Result Answer Refused) (after : List ℕ) → Searched f b area r after → Course f b area r after
course f b area r after s = go (read_file f) refl s.answer s.lent
  where
    on_area_lem : (p : Program) → read_file f ≡ program p → (short : Bool) → r ≡ cond short (refusal ShortArea 0) (Ok (answer_of (answer_to p b))) → after ≡ cond short area (area_of (answer_to p b) area) → Course f b area r after
    on_area_lem p d true e g = was_refused ShortArea 0 e g
    on_area_lem p d false e g = has_run p d (answer_of (answer_to p b)) e (which p b area _ after refl g)

    go : (a : FileAnswer) → read_file f ≡ a → r ≡ answer_on a b area → after ≡ area_on a b area → Course f b area r after
    go (refused n place) d e g = was_refused n place e g
    go (program p) d e g = on_area_lem p d (ltb (length area) 480) e g

-- a search that answers a has run, and a is one of the answers
module _ (f : List ℕ) (b : ℕ) (area : List ℕ) (r : Result Answer Refused) (after : List ℕ) (s : Searched f b area r after) (a : Answer) (is : r ≡ Ok a) where
  has_answered : {A : Type 0} → ((p : Program) → read_file f ≡ program p → Which p b area a after → A) → A
  has_answered {A} then = go (course f b area r after s)
    where
      go : Course f b area r after → A
      go (was_refused n place e g) = absurd (let w = sym is ∙ e in eqb-false 0 1 refl cc)
      go (has_run p d a' e w) = let z : a' ≡ a = cc in then p d (subst (λ (y : Answer). Which p b area y after) z w)

-- UNTOUCHED: unless the verdict is allowed, the area is as it was
pub untouched : (f : List ℕ) (b : ℕ) (area : List ℕ) (r : Result Answer Refused) (after : List ℕ) → Searched f b area r after → ((a : Answer) → r ≡ Ok a → a.verdict ≡ Allowed → ⊥) → after ≡ area
unfolding verdict_of
untouched f b area r after s not = go (course f b area r after s)
  where
    go : Course f b area r after → after ≡ area
    go (was_refused n place e g) = g
    go (has_run p d a o (is_allowed n q h e g)) = absurd (not a o (ap verdict_of e))
    go (has_run p d a o (is_forbidden n h e g)) = g
    go (has_run p d a o (is_unfinished n h e g)) = g

-- FEW STEPS: no trace has more than 80
pub few_steps : (f : List ℕ) (b : ℕ) (area : List ℕ) (r : Result Answer Refused) (after : List ℕ) → Searched f b area r after → (a : Answer) → r ≡ Ok a → a.steps ≤ 80
few_steps f b area r after s a is = has_answered f b area r after s a is go
  where
    go : (p : Program) → read_file f ≡ program p → Which p b area a after → a.steps ≤ 80
    go p d (is_allowed n q h e g) =
        let k : a.steps ≡ length q = ap (λ (y : Answer). y.steps) e in
        let l = found_short p b n q h in
        let m = size_small p (read_formed f p d) in
        omega arith
    go p d (is_forbidden n h e g) = let k = ap (λ (y : Answer). y.steps) e in omega arith
    go p d (is_unfinished n h e g) = let k = ap (λ (y : Answer). y.steps) e in omega arith

-- THE TRACE FOUND REPLAYS
pub trace_replays : (f : List ℕ) (b : ℕ) (area : List ℕ) (r : Result Answer Refused) (after : List ℕ) → Searched f b area r after → (a : Answer) → r ≡ Ok a → a.verdict ≡ Allowed → Replays f a after
unfolding verdict_of
trace_replays f b area r after s a is v = has_answered f b area r after s a is go
  where
    go : (p : Program) → read_file f ≡ program p → Which p b area a after → Replays f a after
    go p d (is_forbidden n h e g) = absurd (let w = ap verdict_of e in eqb-false 0 1 refl cc)
    go p d (is_unfinished n h e g) = absurd (let w = ap verdict_of e in eqb-false 0 1 refl cc)
    go p d (is_allowed n q h e g) =
        let size : a.steps ≡ length q = ap (λ (y : Answer). y.steps) e in
        let trace : take (6 * a.steps) after ≡ trace_bytes q =
        ap (λ (k : ℕ). take (6 * k) after) size ∙ ap (take (6 * length q)) g ∙ take_at (trace_bytes q) (drop (6 * length q) area) (6 * length q) (trace_length q) in
        let found = found_replays f p d b n q h in
        let same : (y : Replayed) → y ≡ replayed p (ended (length q) found.0) → (y.answer ≡ Ok tt) × (y.steps ≡ length q) × (y.complete ≡ complete p found.0) = λ y z.
        (ap (λ (z : Replayed). z.answer) z, ap (λ (z : Replayed). z.steps) z, ap (λ (z : Replayed). z.complete) z) in
        let told = same (replay f (take (6 * a.steps) after)) (rw trace found.1) in
        record { good = told.0; steps = told.1 ∙ sym size; complete = told.2 ∙ found.2; holds = rw trace found.3 }

-- A LARGER BUDGET never changes allowed or forbidden
module _ (f : List ℕ) (b c : ℕ) (more : b ≤ c) {p : Program} (good : read_file f ≡ program p) {area area' : List ℕ} (long : 480 ≤ length area) (long' : 480 ≤ length area')
    {r r' : Result Answer Refused} {after after' : List ℕ} (s : Searched f b area r after) (s' : Searched f c area' r' after') (a : Answer) (is : r ≡ Ok a) where
  which_answer : Which p b area a after
  which_answer = let z : answer_of (answer_to p b) ≡ a = let w = sym (is_answer good long s) ∙ is in cc in subst (λ (y : Answer). Which p b area y after) z (which p b area _ after refl (is_lent good long s))

  pub same_allowed : a.verdict ≡ Allowed → r' ≡ r
  unfolding verdict_of
  same_allowed v = go which_answer
    where
      go : Which p b area a after → r' ≡ r
      go (is_allowed n q h e g) = is_answer good long' s' ∙ ap (λ (o : sequences.Answer Step). Ok (answer_of o)) (more_budget_allowed p b c n q more h) ∙ sym (is ∙ ap Ok e)
      go (is_forbidden n h e g) = absurd (let w = ap verdict_of e in eqb-false 0 1 refl cc)
      go (is_unfinished n h e g) = absurd (let w = ap verdict_of e in eqb-false 0 1 refl cc)

  pub same_forbidden : a.verdict ≡ Forbidden → r' ≡ r
  unfolding verdict_of
  same_forbidden v = go which_answer
    where
      go : Which p b area a after → r' ≡ r
      go (is_allowed n q h e g) = absurd (let w = ap verdict_of e in eqb-false 0 1 refl cc)
      go (is_forbidden n h e g) = is_answer good long' s' ∙ ap (λ (o : sequences.Answer Step). Ok (answer_of o)) (more_budget_forbidden p b c n more h) ∙ sym (is ∙ ap Ok e)
      go (is_unfinished n h e g) = absurd (let w = ap verdict_of e in eqb-false 0 1 refl cc)
