-- What is lent to a visit: what it notes, and that it may be lent again to the next.
-- Assumes nothing.
use mathlib.Core.Path.{◌≡◌, sym, ap, subst, ◌∙◌}
use mathlib.Core.Bool.{Bool}
use mathlib.Core.List.{List}
use Prim.Native.Nat.{ℕ}
use native.Mathlib.Omega.{arith}
use lib.ListN.{length}
use Rattle.program.specs.declared.Program.{Program}
use Rattle.machine.specs.declared.Machine.{Machine}
use Rattle.machine.specs.Inner.{Formed}
use Rattle.theory_sequences.specs.Scan.{Scan, noted_of}
use Rattle.step.specs.Step.{Step}
use Rattle.step.specs.Outcome.{outcome}
use Rattle.search_outcomes.specs.declared.Sheet.{Sheet}
use Rattle.search_outcomes.specs.Table.{Notes, ending, noted, Orderly}
use Rattle.search_outcomes.proofs.Laws.{ending_is}
use Rattle.search_arrivals.specs.declared.Aim.{Aim}
use Rattle.search_arrivals.specs.declared.Ran.{Ran}
use Rattle.search_arrivals.specs.declared.Ran.TheVariants.{Going}
use Rattle.search_arrivals.specs.Visits.{visiting, Reports, Visitable}
use Rattle.search_arrivals.proofs.Telling.{went_on}
use Rattle.search_arrivals.proofs.Acting.{visiting_long, visiting_orderly}

-- the lent area and the sheet, each under another name
pub pair_same : {area area' : List ℕ} {sheet sheet' : Sheet} → area ≡ area' → sheet ≡ sheet' → ◌≡◌ {A = Notes} (area, sheet) (area', sheet')
pair_same e f j = (e j, f j)

-- what is written down is the outcome of the machine
pub ending_noted : (p : Program) (x : Machine) → Formed p x → (wide : Bool) (rest : ℕ) (n : Notes) → noted wide (ending x) rest n ≡ noted wide (outcome p x) rest n
ending_noted p x o wide rest n = ap (λ (k : List ℕ). noted wide k rest n) (sym (ending_is p x o))

-- after a visit that goes on, what was asked before it may be asked again
pub still_ready : {p : Program} {a : Aim} {x : Machine} {d : ℕ} {n : Notes} → Visitable p a x d n → (y : Machine) (b e rest : ℕ) (r : Ran) (mid : Notes) → Reports e (visiting p a y b n) r mid → r ≡ Going rest
    → Visitable p a x d mid × (length mid.0 ≡ length n.0)
still_ready {p} {a} {x} {d} {n} o y b e rest r mid t g =
    let same : noted_of (visiting p a y b n) ≡ mid = ap (λ (s : Scan Step Notes). noted_of s) (went_on (visiting p a y b n) t rest g) in
    let long : length mid.0 ≡ length n.0 = ap (λ (m : Notes). length m.0) (sym same) ∙ visiting_long p a y b n in (
      record {
        well = o.well;
        short = o.short;
        room = λ q. let l = o.room q in omega arith;
        orderly = λ wide q. subst (Orderly wide) same (visiting_orderly p a y b n o.orderly wide q);
      },
      long,
    )
