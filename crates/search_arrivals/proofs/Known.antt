-- What is known of a machine answers every visit of it; and a visit that goes on to its end makes it known.
-- Assumes nothing.
use mathlib.Core.Path.{◌≡◌, refl, sym, ap, subst, ◌∙◌}
use mathlib.Core.Bool.{Bool}
use mathlib.Core.List.{List}
use mathlib.Core.Option.{Option, none, some}
use Prim.Native.Nat.{ℕ, ◌+◌, ◌-◌, ◌*◌, ◌≤◌, ◌<◌}
use native.Mathlib.Nat.{le_refl}
use native.Mathlib.Decide.{dec_lt}
use native.Mathlib.Omega.{arith}
use borrow.Author.Tests.{le-leb, lt-leb}
use lib.ListN.{length}
use Rattle.program.specs.declared.Program.{Program}
use Rattle.machine.specs.declared.Machine.{Machine}
use Rattle.theory_sequences.specs.Sequences.{run, upto, Listed}
use Rattle.theory_sequences.specs.Scan.{Scan, going, out, NothingNew, noted_of, done_at}
use Rattle.theory_sequences.proofs.Listed.{only}
use Rattle.theory_sequences.proofs.Scan.{scan_all, scan_spent, scan_went, sequence_stays}
use Rattle.step.specs.Step.{Step}
use Rattle.step.specs.Outcome.{outcome}
use Rattle.machine.specs.Inner.{Formed}
use Rattle.encode_machine.proofs.Sizes.{formed_machine_sized}
use Rattle.search_outcomes.specs.Table.{Notes, noted}
use Rattle.search_table.specs.Table.{EverySlot, slot_with, Sought}
use Rattle.search_table.specs.declared.Seen.{Seen}
use Rattle.search_table.proofs.Laws.{hit, holds_kept}
use Rattle.search_arrivals.proofs.Telling.{went_on}
use Rattle.step.specs.Inner.{potential}
use Rattle.search_sequences.specs.OfProgram.{stepping}
use Rattle.search_sequences.proofs.Machine.{lawful}
use Rattle.search_arrivals.proofs.Acting.{question_same, asked_past, settling}
use Rattle.search_arrivals.specs.Visits.{Ran, Going, Aim, Question, Outcomes, Arrival, Over, Ending, Open, acts, visiting, after_known, Reports, Known, Opens, Meets}

module _ (p : Program) (a : Aim) (x : Machine) where
  -- ---- what is known, over any list of all accepted sequences from x
  pub known_listed : (n : Notes) (k : ℕ) → Known p a n x k → (l : List (List Step)) → Listed (stepping p) x l → (length l ≡ k) × NothingNew (done_at (stepping p) (acts p a) x) n l
  known_listed n k w l h =
      let e : l ≡ upto (stepping p) (potential p x) x = only (stepping p) (lawful p) (potential p x) x (le_refl (potential p x)) l h in
      (ap length e ∙ w.all, subst (NothingNew (done_at (stepping p) (acts p a) x) n) (sym e) w.nothing_new)

  -- ---- what is known answers a visit
  known_goes : (n : Notes) (k b : ℕ) → Known p a n x k → k ≤ b → visiting p a x b n ≡ going (b - k) n
  unfolding visiting
  known_goes n k b w h =
      let e = w.all in
      scan_all (done_at (stepping p) (acts p a) x) n (upto (stepping p) (potential p x) x) b w.nothing_new (omega arith) ∙ ap (λ (m : ℕ). going (b - m) n) e

  known_spent : (n : Notes) (k b : ℕ) → Known p a n x k → b < k → visiting p a x b n ≡ out n
  unfolding visiting
  known_spent n k b w h = let e = w.all in scan_spent (done_at (stepping p) (acts p a) x) n (upto (stepping p) (potential p x) x) b w.nothing_new (omega arith)

  pub known_told : (d left : ℕ) (n : Notes) (k : ℕ) → Known p a n x k → Reports d (visiting p a x left n) (after_known left k) n
  known_told d left n k w = elim (dec_lt left k) [
    | yes l ↦ rw (known_spent n k left w l, lt-leb k left l) (record { answer = refl; lent = refl })
    | no l ↦ rw (known_goes n k left w (omega arith), le-leb k left (omega arith)) (record { answer = refl; lent = refl })
  ]

  -- ---- a visit that goes on to its end makes its machine known
  pub went_known : (left rest : ℕ) (n m : Notes) → visiting p a x left n ≡ going rest m → (rest ≤ left) × Known p a m x (left - rest)
  unfolding visiting
  went_known left rest n m e =
      let w = scan_went (stepping p) (acts p a) (settling p a) x (upto (stepping p) (potential p x) x) left rest n m tt e in
      let paid = w.1 in
      (omega arith, record { all = omega arith; nothing_new = w.0 })

-- ---- what is known stays so while a visit notes more
known_stays : (p : Program) (a : Aim) (y : Machine) (b : ℕ) (n : Notes) (x : Machine) (k : ℕ) → Known p a n x k → Known p a (noted_of (visiting p a y b n)) x k
unfolding visiting
known_stays p a y b n x k w =
    record {
      all = w.all;
      nothing_new = λ q i. sequence_stays (stepping p) (acts p a) (settling p a) y (upto (stepping p) (potential p y) y) b n x q tt (w.nothing_new q i);
    }

-- where the question is asked, the notes are of no account
asked_anyhow : (p : Program) (n m : Notes) (x : Machine) (k : ℕ) → Known p Question n x k → Known p Question m x k
unfolding done_at
asked_anyhow p n m x k w = record { all = w.all; nothing_new = λ q i c. go (run (stepping p) x q) c (w.nothing_new q i c) }
  where
    go : (o : Option Machine) (c : ℕ) → ◌≡◌ {A = Option Notes} (elim o [ none ↦ some n | some y ↦ acts p Question y c n ]) (some n)
        → ◌≡◌ {A = Option Notes} (elim o [ none ↦ some m | some y ↦ acts p Question y c m ]) (some m)
    go none c e = refl
    go (some y) c e = asked_past p y c m (question_same p y c n n e).1

known_anyhow : (p : Program) (a : Aim) (n m : Notes) (x : Machine) (k : ℕ) → a ≡ Question → Known p a n x k → Known p a m x k
known_anyhow p a n m x k e w = subst (λ (c : Aim). Known p c m x k) (sym e) (asked_anyhow p n m x k (subst (λ (c : Aim). Known p c n x k) e w))

pub question_true : (p : Program) (a : Aim) (n m : Notes) (t : List ℕ) → a ≡ Question → EverySlot (Known p a n) t → EverySlot (Known p a m) t
unfolding EverySlot
question_true p a n m t e h j within used = known_anyhow p a n m _ _ e (h j within used)

every_stays : (p : Program) (a : Aim) (y : Machine) (b : ℕ) (n : Notes) (t : List ℕ) → EverySlot (Known p a n) t → EverySlot (Known p a (noted_of (visiting p a y b n))) t
unfolding EverySlot
every_stays p a y b n t h j within used = known_stays p a y b n _ _ (h j within used)

-- the same answer and what is lent, under other names
pub told_as : {d : ℕ} {o : Scan Step Notes} {r r' : Ran} {mid mid' : Notes} → Reports d o r mid → r' ≡ r → mid' ≡ mid → Reports d o r' mid'
told_as t e f = record { answer = e ∙ t.answer; lent = f ∙ t.lent }

-- ---- a table that is lent to visits: it stays true of what is noted, and as long as it was
pub record Trusted (p : Program) (a : Aim) (n : Notes) (old new : List ℕ) : Type 0 where
  pub holds : EverySlot (Known p a n) new
  pub as_long : length new ≡ length old

pub trusted_as : {p : Program} {a : Aim} {n m : Notes} {old t new : List ℕ} → EverySlot (Known p a n) t → length t ≡ length old → new ≡ t → m ≡ n → Trusted p a m old new
trusted_as {p} {a} {n} {m} {old} {t} {new} h l e f =
    record { holds = subst (λ (k : Notes). EverySlot (Known p a k) new) (sym f) (subst (EverySlot (Known p a n)) (sym e) h); as_long = ap length e ∙ l }

module _ (p : Program) (a : Aim) (x : Machine) (left : ℕ) (n : Notes) {d rest : ℕ} {after : Notes} {r : Ran} (u : Reports d (visiting p a x left n) r after) (e : r ≡ Going rest) where
  went : (rest ≤ left) × Known p a after x (left - rest)
  went = went_known p a x left rest n after (went_on (visiting p a x left n) u rest e)

  pub rest_within : rest ≤ left
  rest_within = went.0

  -- a table in which a visit that went on has written its machine
  pub still_true : Formed p x → (t : List ℕ) → EverySlot (Known p a after) t → left < 18446744073709551616 → (slot : ℕ) → 349 * slot + 349 ≤ length t → {new : List ℕ} → new ≡ slot_with slot x (left - rest) t
      → EverySlot (Known p a after) new
  still_true well t h small slot within written =
      subst (EverySlot (Known p a after)) (sym written) (holds_kept (Known p a after) t slot x (left - rest) within (let w = went.0 in omega arith) (formed_machine_sized p x well) went.1 h)

-- what stands beside x in a true table is known of x
pub seen_known : {p : Program} {a : Aim} {n : Notes} {x : Machine} → Formed p x → {t : List ℕ} → EverySlot (Known p a n) t → (r : Seen) → Sought x t r → 0 < r.count → Known p a n x r.count
seen_known {p} {a} {n} {x} well {t} o r s h = hit (Known p a n) t x r o (formed_machine_sized p x well) s (λ e. omega arith)

-- ---- what is met at a machine
module _ (p : Program) (a : Aim) (x : Machine) (d b : ℕ) (t : List ℕ) (n : Notes) (m : Arrival) (u : Meets p a x d b t n m) where
  -- its visit is over, and nothing is noted
  pub is_over : (o r : Ran) → m ≡ Over o → r ≡ o → (mid : Notes) → mid ≡ n → Reports d (visiting p a x b n) r mid
  unfolding Meets
  is_over o r e f mid g = let told : Reports d (visiting p a x b n) o n = subst (Meets p a x d b t n) e u in told_as told f g

  -- it is complete, and its outcome is noted
  pub is_ending : (wide : Bool) (rest : ℕ) → m ≡ Ending wide rest → (r : Ran) → r ≡ Going rest → (mid : Notes) → mid ≡ noted wide (outcome p x) rest n
      → (a ≡ Outcomes wide) × Reports d (visiting p a x b n) r mid
  unfolding Meets
  is_ending wide rest e r f mid g =
      let told : (a ≡ Outcomes wide) × (visiting p a x b n ≡ going rest (noted wide (outcome p x) rest n)) = subst (Meets p a x d b t n) e u in
      (told.0, rw told.1 (record { answer = f; lent = g }))

  pub is_open : (i slot : ℕ) → m ≡ Open i slot → Opens p x b t i slot
  unfolding Meets
  is_open i slot e = subst (Meets p a x d b t n) e u

-- a visit that goes on leaves the table true of what it has noted
pub stays_true : (p : Program) (a : Aim) (x : Machine) (b : ℕ) (n : Notes) {d rest : ℕ} {after : Notes} {r : Ran} (t : List ℕ) → Reports d (visiting p a x b n) r after → r ≡ Going rest → EverySlot (Known p a n) t → EverySlot (Known p a after) t
stays_true p a x b n {d} {rest} {after} {r} t u e h =
    subst (λ (m : Notes). EverySlot (Known p a m) t) (ap (λ (o : Scan Step Notes). noted_of o) (went_on (visiting p a x b n) u rest e)) (every_stays p a x b n t h)
