-- What the code of the next thread relies on, on plain values: the threads looked at so far are at their end.
-- Assumes nothing.
use mathlib.Core.Path.{◌≡◌, sym, ap, ap₂, subst, ◌∙◌}
use mathlib.Core.Bool.{Bool, true, false, cond, ◌&&◌}
use Prim.Native.Nat.{ℕ, ◌+◌, ◌≤◌, ◌<◌}
use native.Mathlib.Decide.{dec_lt}
use native.Mathlib.Omega.{arith}
use lib.Dec.{T, ltb, ltb→lt}
use lib.ListN.{length, get_or}
use borrow.Author.Tests.{lt-ltb, ltb-false}
use Rattle.program.specs.declared.Code.{Code}
use Rattle.program.specs.declared.Program.{Program}
use Rattle.program.specs.Program.{code_of}
use Rattle.program.proofs.Arrays.{get_d_any}
use Rattle.program.proofs.Tests.{and_left, and_right}
use Rattle.machine.specs.declared.Thread.{Thread}
use Rattle.machine.specs.declared.Machine.{Machine}
use Rattle.machine.specs.State.{thread_of}
use Rattle.search_tries.specs.Steps.{first_of_four, NextOpen}

module _ (p : Program) (x : Machine) (i : ℕ) where
  -- the threads from i on, below k, are at their end
  abbrev Looked : ℕ → Type 0
  Looked k = (j : ℕ) → i ≤ j → j < k → (code_of p j).count ≤ (thread_of x j).position

  -- what is asked of thread k
  abbrev pub asks : ℕ → Bool
  asks k = ltb i (k + 1) && ltb (thread_of x k).position (code_of p k).count

  looked_found : (k : ℕ) → k < 4 → Looked k → asks k ≡ true → NextOpen p x i k
  looked_found k h w q =
      let n = ltb (thread_of x k).position (code_of p k).count in
      let t = subst T (sym q) tt in
      let low = ltb→lt i (k + 1) (and_left (ltb i (k + 1)) n t) in
      record {
        within = omega arith;
        after = omega arith;
        has_next = λ l. ltb→lt (thread_of x k).position (code_of p k).count (and_right (ltb i (k + 1)) n t);
        ended = w;
      }

  looked_more : (k : ℕ) → Looked k → asks k ≡ false → Looked (k + 1)
  looked_more k w q j l u = elim (dec_lt j k) [
    | yes d ↦ w j l d
    | no d ↦ (let here : k ≡ j = omega arith in
        let low : i < k + 1 = omega arith in
        let shut : ltb (thread_of x k).position (code_of p k).count ≡ false = subst (λ (a : Bool). (a && ltb (thread_of x k).position (code_of p k).count) ≡ false) (lt-ltb i (k + 1) low) q in
        subst (λ (n : ℕ). (code_of p n).count ≤ (thread_of x n).position) here (ltb-false (thread_of x k).position (code_of p k).count shut))
  ]

  -- four threads asked in turn
  pub next_of_four : i ≤ 4 → (a b c d : Bool) → a ≡ asks 0 → b ≡ asks 1 → c ≡ asks 2 → d ≡ asks 3 → NextOpen p x i (first_of_four a b c d)
  next_of_four h true b c d e0 e1 e2 e3 = looked_found 0 (omega arith) (λ j l u. absurd (omega arith)) (sym e0)
  next_of_four h false b c d e0 e1 e2 e3 = after_one b c d e1 e2 e3 (looked_more 0 (λ j l u. absurd (omega arith)) (sym e0))
    where
      after_three : (d : Bool) → d ≡ asks 3 → Looked 3 → NextOpen p x i (cond d 3 4)
      after_three true e3 w = looked_found 3 (omega arith) w (sym e3)
      after_three false e3 w = record { within = omega arith; after = h; has_next = λ l. absurd (omega arith); ended = looked_more 3 w (sym e3) }

      after_two : (c d : Bool) → c ≡ asks 2 → d ≡ asks 3 → Looked 2 → NextOpen p x i (cond c 2 (cond d 3 4))
      after_two true d e2 e3 w = looked_found 2 (omega arith) w (sym e2)
      after_two false d e2 e3 w = after_three d e3 (looked_more 2 w (sym e2))

      after_one : (b c d : Bool) → b ≡ asks 1 → c ≡ asks 2 → d ≡ asks 3 → Looked 1 → NextOpen p x i (cond b 1 (cond c 2 (cond d 3 4)))
      after_one true c d e1 e2 e3 w = looked_found 1 (omega arith) w (sym e1)
      after_one false c d e1 e2 e3 w = after_two c d e2 e3 (looked_more 1 w (sym e1))

-- a thread's code and state are read from the arrays
pub asks_read : (p : Program) (x : Machine) (i k : ℕ) → length p.codes ≡ 4 → length x.threads ≡ 4 → k < 4 → (e : Code) (f : Thread) (b : Bool) → b ≡ ltb (get_or x.threads k f).position (get_or p.codes k e).count
    → (ltb i (k + 1) && b) ≡ asks p x i k
unfolding code_of
asks_read p x i k codes threads h e f b is =
    ap (λ (a : Bool). ltb i (k + 1) && a)
    (is ∙ ap₂ (λ (s : Thread) (c : Code). ltb s.position c.count) (get_d_any _ _ x.threads k (omega arith)) (get_d_any _ _ p.codes k (omega arith)))
