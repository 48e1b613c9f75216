-- Steps that the search passes over: of no thread, and by number up to the next that is worth a try.
-- Assumes nothing.
use mathlib.Core.Path.{◌≡◌, ap, ◌∙◌}
use mathlib.Core.List.{List, map}
use mathlib.Core.Option.{none}
use Prim.Native.Nat.{ℕ, ◌-◌, ◌≤◌, ◌<◌}
use native.Mathlib.Omega.{arith}
use Rattle.program.specs.declared.Program.{Program}
use Rattle.machine.specs.declared.Machine.{Machine}
use Rattle.theory_sequences.proofs.Ordered.{among_unmap}
use Rattle.theory_sequences.specs.Scan.{going}
use Rattle.step.specs.Step.{Step, step, taken}
use Rattle.step.specs.Order.{range}
use Rattle.search_arrivals.specs.Visits.{Aim, trying}
use Rattle.search_outcomes.specs.Table.{Notes}
use Rattle.search_sequences.proofs.Steps.{range_low, each_from, thread_of_lem}
use Rattle.search_arrivals.proofs.Ranges.{from, steps_from, up_to, steps_of, threads_from}
use Rattle.search_arrivals.proofs.Parts.{skipped, all_skipped}
use Rattle.search_tries.proofs.Refused.{not_taken, by_kind}

module _ (p : Program) (a : Aim) (x : Machine) where
  -- ---- threads that the program does not have
  pub no_more_threads : (i b : ℕ) (n : Notes) → p.threads ≤ i → trying p a x (threads_from i) b n ≡ going b n
  no_more_threads i b n h =
      all_skipped p a x (threads_from i) b n
      (λ k m.
      let r = each_from steps_of k (from 4 i) m in
      let l = (range_low i (4 - i) r.0 r.1).0 in
      let t = thread_of_lem r.0 k r.2 in
      not_taken (step p x k) (λ y e. let q = (by_kind p x k y e).0 in omega arith))

  -- ---- steps by number: those up to r are refused
  pub passed_over : (f : ℕ → Step) (n k r b : ℕ) (m : Notes) → k ≤ r → r ≤ n → ((j : ℕ) → k ≤ j → j < r → taken (step p x (f j)) ≡ none)
      → trying p a x (steps_from f n k) b m ≡ trying p a x (steps_from f n r) b m
  passed_over f n k r b m h l none-taken =
      ap (λ (q : List Step). trying p a x q b m) (up_to f n k r h l)
      ∙ skipped p a x (map f (range k (r - k))) (steps_from f n r) b m
      (λ s i.
      let u = among_unmap f s (range k (r - k)) i in
      let w = range_low k (r - k) u.0 u.2 in
      let w0 = w.0 in
      let w1 = w.1 in
      ap (λ (y : Step). taken (step p x y)) u.1 ∙ none-taken u.0 w0 (omega arith))
