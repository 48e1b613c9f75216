-- The steps of an answer stand in the lent area.
-- Assumes nothing.
use mathlib.Core.Path.{◌≡◌, sym, subst}
use mathlib.Core.Bool.{Bool, true, false, cond}
use mathlib.Core.List.{List}
use Prim.Native.Nat.{ℕ, ◌*◌, ◌≤◌}
use native.Mathlib.Omega.{arith}
use lib.Dec.{ltb}
use lib.ListN.{length, drop, length-append}
use Rattle.std.specs.Prelude.{Result, Ok, IfOk}
use Rattle.program.specs.File.{FileAnswer, refused, program, read_file}
use Rattle.program.specs.declared.Refusal.TheVariants.{ShortArea}
use Rattle.program.specs.declared.Refused.{Refused}
use Rattle.step.specs.Step.{Step}
use Rattle.trace_record.specs.Trace.{trace_bytes}
use Rattle.theory_sequences.specs.Answer as sequences
use Rattle.search_sequences.specs.OfProgram.{answer_to}
use Rattle.search.specs.declared.Answer.{Answer}
use Rattle.search.specs.Answers.{answer_of, area_of, refusal, answer_on, area_on, Searched}
use Rattle.trace_record.proofs.Writing.{trace_length}

on_program_lem : (a : sequences.Answer Step) (area : List ℕ) → 6 * (answer_of a).steps ≤ length (area_of a area)
on_program_lem (sequences.allowed n q) area =
    let t = trace_length q in
    let l = length-append (trace_bytes q) (drop (6 * length q) area) in
    omega arith
on_program_lem (sequences.forbidden n) area = omega arith
on_program_lem (sequences.unfinished n) area = omega arith

on_file : (f : FileAnswer) (b : ℕ) (area : List ℕ) → IfOk (answer_on f b area) (λ a. 6 * a.steps ≤ length (area_on f b area))
on_file (refused r place) b area = tt
on_file (program p) b area = go (ltb (length area) 480)
  where
    go : (short : Bool) → IfOk (cond short (refusal ShortArea 0) (Ok (answer_of (answer_to p b)))) (λ a. 6 * a.steps ≤ length (cond short area (area_of (answer_to p b) area)))
    go true = tt
    go false = on_program_lem (answer_to p b) area

pub steps_fit : {file : List ℕ} {b : ℕ} {area after : List ℕ} {r : Result Answer Refused} → Searched file b area r after → IfOk r (λ a. 6 * a.steps ≤ length after)
steps_fit {file} {b} {area} {after} {r} s =
    subst (λ (l : List ℕ). IfOk r (λ a. 6 * a.steps ≤ length l)) (sym s.lent)
    (subst (λ (o : Result Answer Refused). IfOk o (λ a. 6 * a.steps ≤ length (area_on (read_file file) b area))) (sym s.answer) (on_file (read_file file) b area))
