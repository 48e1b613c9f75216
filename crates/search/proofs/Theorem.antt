-- THE TOP THEOREM: for every file, budget, area and answer that meets the contract of the search, the answer means what it should.
-- Assumes nothing.
use mathlib.Core.Path.{◌≡◌, refl, ap, ◌∙◌}
use mathlib.Core.List.{List}
use Prim.Native.Nat.{ℕ, ◌≤◌, ◌<◌}
use native.Mathlib.Decide.{dec_lt}
use native.Mathlib.Omega.{arith}
use lib.ListN.{length}
use borrow.Author.Tests.{lt-ltb}
use Rattle.std.specs.Prelude.{Result}
use Rattle.program.specs.declared.Program.{Program}
use Rattle.program.specs.File.{FileAnswer, refused, program, read_file}
use Rattle.program.specs.declared.Refused.{Refused}
use Rattle.search_sequences.specs.OfProgram.{sequences_of, answer_to}
use Rattle.search_sequences.proofs.Meaning.{bound, listed, demand_3}
use Rattle.search.specs.Answers.{Answer, answer_of, answer_on, area_on, Searched}
use Rattle.search.specs.Meaning.{Judged, Means, bad_file, short_area, searched}
use Rattle.search.proofs.Promise.{is_answer, is_lent, trace_replays}

module _ (f : List ℕ) (b : ℕ) (area : List ℕ) (r : Result Answer Refused) (after : List ℕ) (s : Searched f b area r after) where
  judged : (p : Program) → read_file f ≡ program p → 480 ≤ length area → Judged f p b area (answer_of (answer_to p b)) after
  judged p d long =
      record {
        sequences = sequences_of p;
        all = listed p;
        short = λ q i. bound p q ((listed p).sound q i);
        answer = answer_to p b;
        demand = demand_3 p b (sequences_of p) (listed p);
        told = refl;
        lent = is_lent d long s;
        replays = trace_replays f b area r after s _ (is_answer d long s);
      }

  on_area_lem : (p : Program) → read_file f ≡ program p → Dec (length area < 480) → Means f b area r after
  on_area_lem p d (yes h) =
      short_area p d h (s.answer ∙ ap (λ (y : FileAnswer). answer_on y b area) d ∙ rw (lt-ltb (length area) 480 h))
      (s.lent ∙ ap (λ (y : FileAnswer). area_on y b area) d ∙ rw (lt-ltb (length area) 480 h))
  on_area_lem p d (no h) = let long : 480 ≤ length area = omega arith in searched p d long _ (is_answer d long s) (judged p d long)

pub theorem : (f : List ℕ) (b : ℕ) (area : List ℕ) (r : Result Answer Refused) (after : List ℕ) → Searched f b area r after → Means f b area r after
theorem f b area r after s = go (read_file f) refl
  where
    go : (a : FileAnswer) → read_file f ≡ a → Means f b area r after
    go (refused n place) d = bad_file n place d (s.answer ∙ ap (λ (y : FileAnswer). answer_on y b area) d) (s.lent ∙ ap (λ (y : FileAnswer). area_on y b area) d)
    go (program p) d = on_area_lem f b area r after s p d (dec_lt (length area) 480)
